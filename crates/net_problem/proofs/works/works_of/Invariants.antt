use Rattle.std.proofs.Common.{◌≡◌}
use Rattle.decisions.specs.ProblemOf.{works_of}
use Rattle.net_problem.proofs.works.works_of.Given as goal

abbrev pub invariant-loop-number : goal.invariant-loop-number
invariant-loop-number l = l.works ≡ works_of l.net l.graph l.number
