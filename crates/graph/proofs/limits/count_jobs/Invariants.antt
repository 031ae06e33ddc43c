use Rattle.std.proofs.Common.{◌≡◌, ◌*◌, ◌^◌, ◌≤◌}
use Rattle.graph.specs.Cycle.{first_job}
use Rattle.graph.proofs.limits.count_jobs.Given as goal

abbrev pub invariant-loop-task : goal.invariant-loop-task
invariant-loop-task l = (l.jobs ≡ first_job l.net l.cycle l.task) × (l.jobs ≤ l.task * 2 ^ 32)
