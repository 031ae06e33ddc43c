-- Concave vectors: the possible entries are the first ones, and each of them rises by no more than the one before.
use Rattle.std.specs.Prelude.{ℕ, ◌+◌, ◌-◌, ◌*◌, ◌<◌, ◌≤◌, List, length}
use Rattle.maxplus.specs.MaxPlus.{entries}

pub record IsConcave (v : List ℕ) : Type 0 where
  pub first : 0 < entries v 0
  pub bends : (k : ℕ) → 2 ≤ k → k < length v → 0 < entries v k → entries v (k - 2) + entries v k ≤ 2 * entries v (k - 1)
