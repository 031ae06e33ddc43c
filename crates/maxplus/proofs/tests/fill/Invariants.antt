use Rattle.std.proofs.Common.{ℕ, ◌<◌, ◌≤◌}
use Rattle.maxplus.specs.MaxPlus.{cap, entries}
use Rattle.maxplus.proofs.tests.fill.Given as goal

abbrev pub invariant-loop-k : goal.invariant-loop-k
invariant-loop-k l = (j : ℕ) → j < l.k → entries l.out j ≤ cap
