use Rattle.std.proofs.Common.{◌≡◌, ℕ, ◌+◌, ◌-◌, ◌*◌, ◌<◌, ◌≤◌, max}
use Rattle.maxplus.specs.MaxPlus.{product, entries}
use Rattle.maxplus.proofs.kernel.raise_products.Given as goal

abbrev pub invariant-loop-n : goal.invariant-loop-n
invariant-loop-n l = record {
  before : (k : ℕ) → k < l.start → entries l.out k ≡ entries l.fn.out k;
  raised : (k : ℕ) → l.start ≤ k → k < l.start + 4 * l.n → entries l.out k ≡ max (entries l.fn.out k) (product l.x (entries l.b (k - l.start)));
  after : (k : ℕ) → l.start + 4 * l.n ≤ k → entries l.out k ≡ entries l.fn.out k;
}

abbrev pub invariant-loop-k : goal.invariant-loop-k
invariant-loop-k l = record {
  before : (j : ℕ) → j < l.start → entries l.out j ≡ entries l.fn.out j;
  raised : (j : ℕ) → l.start ≤ j → j < l.k → entries l.out j ≡ max (entries l.fn.out j) (product l.x (entries l.b (j - l.start)));
  after : (j : ℕ) → l.k ≤ j → entries l.out j ≡ entries l.fn.out j;
}
