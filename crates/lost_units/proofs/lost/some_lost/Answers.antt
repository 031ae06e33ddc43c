use Rattle.std.proofs.Common.{◌≡◌, ℕ, ◌<◌, ◌≤◌, sym, arith}
use Rattle.lost_units.specs.Lost.{is_lost_by}
use Rattle.lost_units.proofs.Whole.{any_one, any_none}
use Rattle.lost_units.proofs.lost.some_lost.Goals as goal

pub returns-then-is_lost : goal.returns-then-is_lost
returns-then-is_lost c =
    sym (any_one (is_lost_by c.args.firsts.now c.args.ticks c.args.cycle) 0 c.args.units c.loop-unit.unit (omega arith) (omega (arith, c.loop-unit-test.true)) (sym (c.if-is_lost.ensures {u = tt})))

pub returns : goal.returns
returns c =
    sym (any_none (is_lost_by c.args.firsts.now c.args.ticks c.args.cycle) 0 c.args.units (λ j low high. c.loop-unit.invariant j (omega (arith, high, c.loop-unit-test.false, c.loop-unit.auto.unit-end))))
