use Rattle.std.proofs.Common.{◌≡◌, ◌++◌}
use Rattle.graph.specs.Jobs.{jobs_of_task}
use Rattle.graph.proofs.jobs.push_jobs.Given as goal

abbrev pub invariant-loop-instance : goal.invariant-loop-instance
invariant-loop-instance l = l.jobs.items ≡ l.fn.jobs.items ++ jobs_of_task l.fn.net l.fn.lengths l.fn.task l.instance
