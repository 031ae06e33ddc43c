use Rattle.std.proofs.Common.{◌≡◌}
use Rattle.cluster_model.specs.Plan.{listed}
use Rattle.replica_room.specs.Fresh.{own_words}
use Rattle.replica_room.proofs.states.own_words.Given as goal

abbrev pub invariant-loop-task : goal.invariant-loop-task
invariant-loop-task l = record {
  counts : l.counts.items ≡ listed l.task (own_words l.net l.graph l.tables l.words l.unit);
}
