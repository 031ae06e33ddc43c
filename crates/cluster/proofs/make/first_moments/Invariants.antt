use Rattle.cluster.specs.First.{AreFirsts}
use Rattle.cluster.proofs.make.first_moments.Given as goal

abbrev pub invariant-loop-unit : goal.invariant-loop-unit
invariant-loop-unit l = AreFirsts l.silences l.unit l.firsts.items
