use Rattle.std.proofs.Common.{◌≡◌, map, take}
use Rattle.std.specs.Prelude.{sum}
use Rattle.graph.specs.Net.{outs_of}
use Rattle.graph.specs.declared.job.Job.{Job}
use Rattle.replica_room.proofs.jobs.rooms_of.Given as goal

abbrev pub invariant-loop-job : goal.invariant-loop-job
invariant-loop-job l = record {
  rooms : l.rooms.items ≡ map (λ (job : Job). sum (outs_of l.net job.task)) (take l.job-index l.job-items);
}
