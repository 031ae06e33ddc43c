use Rattle.std.proofs.Common.{◌≡◌, ◌-◌, ◌≤◌, length, []}
use Rattle.decisions.specs.Choices.{rules_of}
use Rattle.passes.proofs.Passed.{Passed}
use Rattle.search.proofs.first.Given as goal

abbrev pub invariant-loop-cut : goal.invariant-loop-cut
invariant-loop-cut l = record {
  prefix : l.prefix ≡ l.fn.prefix;
  passed : Passed (rules_of l.prefix.problem) (length l.prefix.problem.works) l.pass l.fn.steps l.steps;
  within : l.steps ≤ l.limit;
}

abbrev pub decreases-loop-cut : goal.decreases-loop-cut
decreases-loop-cut l = l.limit - l.steps
