use Rattle.std.proofs.Common.{◌≡◌, ◌≤◌, drop}
use Rattle.lines.specs.Grammar.{◌>>=◌, number_after}
use Rattle.budgets.specs.Budget.{in_limits, number_in}
use Rattle.budgets.proofs.budget.number_in.Given as goal

abbrev pub invariant-loop-digit : goal.invariant-loop-digit
invariant-loop-digit l = record {
  value : number_in l.digits ≡ (number_after l.number (drop l.digit-index l.digits) >>= in_limits);
  small : l.number ≤ 10000000;
}
