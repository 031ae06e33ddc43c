use Rattle.std.proofs.Common.{◌≡◌, ℕ, ◌<◌, false}
use Rattle.lost_units.specs.Lost.{is_lost_by}
use Rattle.lost_units.proofs.lost.some_lost.Given as goal

abbrev pub invariant-loop-unit : goal.invariant-loop-unit
invariant-loop-unit l = (j : ℕ) → j < l.unit → is_lost_by l.firsts l.ticks l.cycle j ≡ false
