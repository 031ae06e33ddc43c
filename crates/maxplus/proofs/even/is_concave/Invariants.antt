use Rattle.std.proofs.Common.{ℕ, ◌+◌, ◌-◌, ◌*◌, ◌<◌, ◌≤◌}
use Rattle.maxplus.specs.MaxPlus.{entries}
use Rattle.maxplus.proofs.even.is_concave.Given as goal

abbrev pub invariant-loop-k : goal.invariant-loop-k
invariant-loop-k l = (j : ℕ) → 2 ≤ j → j < l.k → 0 < entries l.v j → entries l.v (j - 2) + entries l.v j ≤ 2 * entries l.v (j - 1)
