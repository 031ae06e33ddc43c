use Rattle.std.proofs.Common.{◌≤◌, length, subst}
use Rattle.placement.specs.Held.{Held}
use Rattle.reached.proofs.Prunes.{few_decisions}
use Rattle.placement.proofs.prefix.Prefix.whole.Goals as goal

pub returns-clause-few : goal.returns-clause-few
returns-clause-few c =
    let s = c.self.inside.state in
    subst (λ (h : Held). length h.list ≤ length h.problem.works) c.self.view_is (few_decisions s.problem s.placed.items c.self.invariant.reached)
