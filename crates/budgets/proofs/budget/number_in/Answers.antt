use Rattle.std.proofs.Common.{◌<◌, ◌≤◌, ◌+◌, ◌-◌, ◌*◌, ◌∙◌, ℕ, Option, drop, get_or, ap, sym, arith}
use Rattle.lines.specs.Grammar.{◌>>=◌}
use Rattle.budgets.proofs.Digits.{too_much, digit_more}
use Rattle.budgets.specs.Budget.{in_limits}
use Rattle.budgets.proofs.budget.number_in.Goals as goal

pub returns-then-number-gt10000000 : goal.returns-then-number-gt10000000
returns-then-number-gt10000000 c =
    let i = c.loop-digit.digit-index in
    let ds = c.args.digits.now in
    let from : 48 ≤ get_or ds i 0 = omega (arith, c.if-digit-lt48.false) in
    let to : get_or ds i 0 ≤ 57 = omega (arith, c.if-digit-gt57.false) in
    let much : 10000000 < c.loop-digit.number * 10 + (get_or ds i 0 - 48) = omega (arith, c.if-number-gt10000000.true, c.from.ensures) in
    sym (too_much (c.loop-digit.number * 10 + (get_or ds i 0 - 48)) (drop (i + 1) ds) much)
    ∙ (sym (ap (λ (n : Option ℕ). n >>= in_limits) (digit_more c.loop-digit.number ds i c.loop-digit-test.true from to)) ∙ sym c.loop-digit.invariant.value)
