use Rattle.std.proofs.Common.{◌≡◌, ℕ, ◌<◌, min}
use Rattle.maxplus.specs.MaxPlus.{fold_convolution, cap, entries}
use Rattle.maxplus.proofs.even.even_power.Given as goal

abbrev pub invariant-loop-k : goal.invariant-loop-k
invariant-loop-k l = (j : ℕ) → j < l.k → entries l.out j ≡ min (fold_convolution (entries l.v) l.n j) cap
