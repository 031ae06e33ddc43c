use Rattle.tables.specs.Progress.{AreApart}
use Rattle.tables.proofs.frames.are_apart.Given as goal

abbrev pub invariant-loop-place : goal.invariant-loop-place
invariant-loop-place l = AreApart l.net l.round l.messages l.place l.marks
