use Rattle.std.proofs.Common.{◌≡◌, ℕ, suc, ◌-◌, ◌<◌, min, length}
use Rattle.maxplus.specs.MaxPlus.{product, greatest_below, entries}
use Rattle.maxplus.proofs.kernel.convolve.Given as goal

abbrev pub invariant-loop-entry : goal.invariant-loop-entry
invariant-loop-entry l = (k : ℕ) → k < l.entry-index → entries l.out k ≡ 0

abbrev pub invariant-loop-i : goal.invariant-loop-i
invariant-loop-i l = (k : ℕ) → k < length l.out → entries l.out k ≡ greatest_below (min l.i (suc k)) (λ i. product (entries l.a i) (entries l.b (k - i)))
