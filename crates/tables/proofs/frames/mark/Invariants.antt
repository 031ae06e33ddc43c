use Rattle.std.proofs.Common.{ℕ, ◌<◌, ◌≤◌, ◌⊎◌, ◌↔◌}
use Rattle.tables.specs.Progress.{IsMarked}
use Rattle.tables.proofs.frames.mark.Given as goal

abbrev pub invariant-loop-tick : goal.invariant-loop-tick
invariant-loop-tick l = (tick : ℕ) → IsMarked l.marks tick ↔ (IsMarked l.fn.marks tick ⊎ ((l.first ≤ tick) × (tick < l.tick)))
