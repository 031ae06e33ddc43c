use Rattle.std.proofs.Common.{◌≡◌, ◌≤◌, ◌+◌, ◌-◌, length, take}
use Rattle.std.specs.Io.KnownBytes.{prepend_known}
use Rattle.lines.specs.Found.{NoFeedBelow}
use Rattle.lines.proofs.reader.fill_to_feed.Given as goal

abbrev pub invariant-loop-searched : goal.invariant-loop-searched
invariant-loop-searched g l = record {
  all : l.searched ≡ length l.window;
  none : NoFeedBelow l.searched l.window;
  front : take (length l.fn.window) l.window ≡ l.fn.window;
  bytes : prepend_known l.window (g.I.Source.left l.source) ≡ prepend_known l.fn.window (g.I.Source.left l.fn.source);
  later : g.I.Source.faults l.fn.source ≤ g.I.Source.faults l.source;
}

abbrev pub decreases-loop-searched : goal.decreases-loop-searched
decreases-loop-searched g l = 65536 + 1 - l.searched
