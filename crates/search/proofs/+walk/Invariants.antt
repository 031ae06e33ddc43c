use Rattle.std.proofs.Common.{◌≡◌, ◌-◌, ◌≤◌, length, drop}
use Rattle.decisions.specs.Choices.{rules_of, choices}
use Rattle.passes.proofs.Going.{Going}
use Rattle.placement.specs.Choosing.{IsLeft}
use Rattle.search.proofs.+walk.Given as goal

abbrev pub decreases-walk : goal.decreases-walk
decreases-walk l = length l.prefix.now.problem.works - length l.prefix.now.list

abbrev pub invariant-loop-choice : goal.invariant-loop-choice
invariant-loop-choice l = record {
  prefix : l.prefix ≡ l.fn.prefix;
  at : IsLeft l.prefix.problem l.prefix.list l.cursor (drop l.rank (choices l.prefix.problem l.prefix.list));
  going : Going (rules_of l.prefix.problem) (length l.prefix.problem.works) l.prefix.list l.left l.fn.steps l.rank l.steps (drop l.rank (choices l.prefix.problem l.prefix.list)) l.cut;
  within : l.steps ≤ l.limit;
}

abbrev pub decreases-loop-choice : goal.decreases-loop-choice
decreases-loop-choice l = length (choices l.fn.prefix.problem l.fn.prefix.list) - l.rank
