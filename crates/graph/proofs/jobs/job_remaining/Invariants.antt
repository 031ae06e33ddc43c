use Rattle.std.proofs.Common.{◌≡◌, get_or, take}
use Rattle.std.specs.Prelude.{map}
use Rattle.graph.specs.declared.job.Job.{Job}
use Rattle.graph.proofs.jobs.job_remaining.Given as goal

abbrev pub invariant-loop-job : goal.invariant-loop-job
invariant-loop-job l = l.list.items ≡ map (λ (j : Job). get_or l.tasks j.task 0) (take l.job-index l.jobs)
