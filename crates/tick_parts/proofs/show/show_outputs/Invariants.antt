use Rattle.std.proofs.Common.{◌≡◌, ◌≤◌, ◌+◌, ◌++◌, length}
use Rattle.agenda.proofs.Walking.{IsAt, left}
use Rattle.cluster_model.specs.PlanOf.{fed_by}
use Rattle.tick_parts.specs.Shows.{shown_outs}
use Rattle.tick_parts.proofs.Outputs.{rest}
use Rattle.tick_parts.proofs.show.show_outputs.Given as goal

abbrev pub invariant-walk : goal.invariant-walk
invariant-walk l = record {
  stands : IsAt l.outputs.due l.task l.at;
  room : length l.seen + left (length l.outputs.due) l.at ≤ 1028;
  shown : l.seen ++ shown_outs l.instance (rest l.task l.net.actuators l.at) ≡ l.fn.seen ++ shown_outs l.instance (fed_by l.task l.net.actuators 0);
}

abbrev pub decreases-walk : goal.decreases-walk
decreases-walk l = left (length l.outputs.due) l.at
