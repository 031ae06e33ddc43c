use Rattle.std.proofs.Common.{sym, subst}
use Rattle.decisions.specs.Choices.{IsChoice}
use Rattle.placement.specs.Held.{Held}
use Rattle.placement.proofs.Looking.{chosen_job, chosen_unit, chosen_next}
use Rattle.placement.proofs.prefix.Prefix.place.Goals as goal

pub fit-requires-clause-job : goal.fit-requires-clause-job
fit-requires-clause-job c =
    let s = c.self.inside.state in
    chosen_job s.problem s.placed.items c.args.choice (subst (λ (h : Held). IsChoice h.problem h.list c.args.choice) (sym c.self.view_is) c.requires)

pub fit-requires-clause-unit : goal.fit-requires-clause-unit
fit-requires-clause-unit c =
    let s = c.self.inside.state in
    chosen_unit s.problem s.placed.items c.args.choice (subst (λ (h : Held). IsChoice h.problem h.list c.args.choice) (sym c.self.view_is) c.requires)

pub push-requires-clause-next : goal.push-requires-clause-next
push-requires-clause-next c =
    let s = c.self.inside.state in
    chosen_next s.problem s.placed.items c.args.choice c.in-Some.placed (subst (λ (h : Held). IsChoice h.problem h.list c.args.choice) (sym c.self.view_is) c.requires) c.in-Some.ensures
