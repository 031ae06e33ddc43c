use Rattle.std.proofs.Common.{◌≡◌, length, map, take}
use Rattle.timetable.specs.Keys.{feed_of}
use Rattle.timetable.proofs.keys.feeds.Given as goal

abbrev pub invariant-loop-message : goal.invariant-loop-message
invariant-loop-message l = record {
  count : length l.due.items ≡ l.message-index;
  due : l.due.items ≡ map (feed_of l.net l.graph) (take l.message-index l.message-items);
}
