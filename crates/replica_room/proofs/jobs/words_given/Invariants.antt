use Rattle.std.proofs.Common.{◌≡◌, ◌≤◌, ◌*◌, take}
use Rattle.std.specs.Prelude.{sum}
use Rattle.replica_room.proofs.jobs.words_given.Given as goal

abbrev pub invariant-loop-width : goal.invariant-loop-width
invariant-loop-width l = record {
  words : l.words ≡ sum (take l.width-index l.width-items);
  few : l.words ≤ 16 * l.width-index;
}
