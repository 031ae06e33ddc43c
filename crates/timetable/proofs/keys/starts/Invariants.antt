use Rattle.std.proofs.Common.{◌≡◌, length, map, take}
use Rattle.timetable.specs.Keys.{start_of}
use Rattle.timetable.proofs.keys.starts.Given as goal

abbrev pub invariant-loop-entry : goal.invariant-loop-entry
invariant-loop-entry l = record {
  count : length l.due.items ≡ l.entry-index;
  due : l.due.items ≡ map (start_of l.graph l.unit) (take l.entry-index l.entry-items);
}
