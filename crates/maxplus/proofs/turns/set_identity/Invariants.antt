use Rattle.std.proofs.Common.{◌≡◌, ℕ, ◌<◌}
use Rattle.maxplus.specs.MaxPlus.{entries}
use Rattle.maxplus.proofs.turns.set_identity.Given as goal

abbrev pub invariant-loop-entry : goal.invariant-loop-entry
invariant-loop-entry l = (k : ℕ) → k < l.entry-index → entries l.out k ≡ 0
