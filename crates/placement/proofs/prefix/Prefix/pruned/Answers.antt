use Rattle.std.proofs.Common.{sym, ap, ◌∙◌}
use Rattle.decisions.specs.Pruned.{pruned}
use Rattle.placement.specs.Held.{Held}
use Rattle.placement.proofs.Holding.{hopeless_pruned, late_pruned, test_same}
use Rattle.placement.proofs.prefix.Prefix.pruned.Goals as goal

pub returns-then-self : goal.returns-then-self
returns-then-self c =
    let s = c.self.inside.state in
    let i = c.self.invariant in
    c.if-self.true ∙ (hopeless_pruned s.problem s.placed.items i.is_problem i.reached (sym i.hopeless_is ∙ c.if-self.true) ∙ ap (λ (h : Held). pruned h.problem h.list) c.self.view_is)

pub returns-else-self : goal.returns-else-self
returns-else-self c =
    let s = c.self.inside.state in
    let i = c.self.invariant in
    test_same s.late ∙ (late_pruned s.problem s.placed.items s.late i.is_problem i.reached (sym c.if-self.false ∙ i.hopeless_is) i.late_is ∙ ap (λ (h : Held). pruned h.problem h.list) c.self.view_is)
