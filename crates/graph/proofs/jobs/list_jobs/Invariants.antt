use Rattle.std.proofs.Common.{◌≡◌}
use Rattle.graph.specs.Jobs.{jobs_of}
use Rattle.graph.proofs.jobs.list_jobs.Given as goal

abbrev pub invariant-loop-task : goal.invariant-loop-task
invariant-loop-task l = l.jobs.items ≡ jobs_of l.net l.cycle l.lengths l.task
