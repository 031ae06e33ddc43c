use Rattle.std.proofs.Common.{◌≡◌, ◌≤◌, ◌++◌, length, drop, None}
use Rattle.twin_outputs.specs.Shown.{shown_beside}
use Rattle.twin_outputs.proofs.show.show_beside.Given as goal

abbrev pub invariant-loop-effect : goal.invariant-loop-effect
invariant-loop-effect g l = record {
  shown : l.seen ++ shown_beside (g.S.Seat.seat l.twin).held l.last (drop l.effect-index l.effects) ≡ shown_beside (g.S.Seat.seat l.twin).held None l.effects;
  room : length l.seen ≤ l.effect-index;
}
