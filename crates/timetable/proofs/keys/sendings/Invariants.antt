use Rattle.std.proofs.Common.{◌≡◌, length, map, take}
use Rattle.timetable.specs.Keys.{sending_of}
use Rattle.timetable.proofs.keys.sendings.Given as goal

abbrev pub invariant-loop-message : goal.invariant-loop-message
invariant-loop-message l = record {
  count : length l.due.items ≡ l.message-index;
  due : l.due.items ≡ map (sending_of l.round l.unit) (take l.message-index l.message-items);
}
