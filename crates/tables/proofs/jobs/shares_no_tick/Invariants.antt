use Rattle.std.proofs.Common.{ℕ, ◌<◌, length}
use Rattle.tables.specs.Progress.{IsApart}
use Rattle.tables.proofs.jobs.shares_no_tick.Given as goal

abbrev pub invariant-loop-job : goal.invariant-loop-job
invariant-loop-job l = (job : ℕ) → job < l.job → IsApart l.entries job (length l.entries)
