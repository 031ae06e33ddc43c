-- The job in hand and what it comes to. This project's own.
use Rattle.std.specs.Prelude.{ℕ, ◌*◌, ◌≤◌, min, List, ℤ}
use Rattle.processor.specs.Ends.{end_under}
use Rattle.processor.specs.Results.{Ran}
use Rattle.net_run.specs.NetRun.{JobResult, Done, Broken, Skipped, ended_as}
use Rattle.job_book.specs.Known.{Known, Gave, Broke, PassedOver}

-- the cycles that a job may have taken after so many of its ticks
abbrev pub limit_of : (maxt ticks cycles_per_tick : ℕ) → ℕ
limit_of maxt ticks cycles_per_tick = min maxt (ticks * cycles_per_tick)

-- a processor runs this program from this state and these inputs, and no limit so far was greater than this one
pub record InHand {M P : Type 0} (runs : M → P → List ℤ → List ℤ → ℕ → Type 0) (cpu : M) (program : P) (state ins : List ℤ) (limit : ℕ) : Type 0 where
  pub so_far : ℕ
  pub runs_so_far : runs cpu program state ins so_far
  pub below : so_far ≤ limit

-- what a job's execution under its limit comes to as the job's result
abbrev pub result_in : Ran → JobResult
result_in ran = ended_as (end_under ran)

-- what is known of a job with this result
abbrev pub known_as : JobResult → Known
known_as (Done results) = Gave results.1
known_as Broken = Broke
known_as Skipped = PassedOver
