use Rattle.std.proofs.Common.{ℕ, ◌<◌, ◌≤◌}
use Rattle.tables.specs.Progress.{IsMarked}
use Rattle.tables.proofs.frames.are_free.Given as goal

abbrev pub invariant-loop-tick : goal.invariant-loop-tick
invariant-loop-tick l = (tick : ℕ) → l.first ≤ tick → tick < l.tick → IsMarked l.marks tick → ⊥
