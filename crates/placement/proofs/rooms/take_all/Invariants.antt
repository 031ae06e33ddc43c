use Rattle.std.proofs.Common.{◌≡◌, ℕ, ◌+◌, ◌<◌, drop}
use Rattle.tdma.specs.Load.{taken_in}
use Rattle.decisions.specs.Place.{words_sent}
use Rattle.placement.proofs.rooms.take_all.Given as goal

abbrev pub invariant-loop-message : goal.invariant-loop-message
invariant-loop-message l = record {
  layout : l.frames.layout ≡ l.initial.frames.layout;
  taken : (v k : ℕ) → v < l.initial.frames.layout.units → k < l.initial.frames.layout.rounds → taken_in l.frames v k + words_sent (drop l.message-index l.messages) v k ≡ taken_in l.initial.frames v k + words_sent l.messages v k;
}
