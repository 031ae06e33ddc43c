use Rattle.std.proofs.Common.{◌≡◌, ◌+◌, ◌*◌, ◌≤◌, drop}
use Rattle.decisions.specs.Place.{words_sent}
use Rattle.placement.proofs.rooms.words_in.Given as goal

abbrev pub invariant-loop-message : goal.invariant-loop-message
invariant-loop-message l = record {
  sum : l.words + words_sent (drop l.message-index l.messages) l.unit l.round ≡ words_sent l.messages l.unit l.round;
  few : l.words ≤ 255 * l.message-index;
}
