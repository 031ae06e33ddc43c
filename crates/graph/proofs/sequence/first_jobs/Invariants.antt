use Rattle.std.proofs.Common.{◌≡◌, ◌<◌, ℕ, length, get_or}
use Rattle.graph.specs.Cycle.{first_job}
use Rattle.graph.proofs.sequence.first_jobs.Given as goal

abbrev pub invariant-loop-task : goal.invariant-loop-task
invariant-loop-task l = (length l.firsts.items ≡ l.task) × ((t : ℕ) → t < l.task → get_or l.firsts.items t 0 ≡ first_job l.net l.cycle t) × (l.next ≡ first_job l.net l.cycle l.task)
