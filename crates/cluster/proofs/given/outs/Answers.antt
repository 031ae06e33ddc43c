use Rattle.std.proofs.Common.{◌≡◌, ◌<◌, ◌∙◌, ap, subst, sym}
use Rattle.tables.specs.Named.{entry_at}
use Rattle.tables.specs.declared.table.JobEntry.{JobEntry}
use Rattle.cluster_plan.proofs.Whole.{sound_plans}
use Rattle.cluster.proofs.given.outs.Goals as goal

pub given_by-requires-clause-unit : goal.given_by-requires-clause-unit
given_by-requires-clause-unit g c =
    let plant = c.args.plant.now in let is = g.met.S.Seat.is_set plant c.requires.fit in
    let at = ap (λ (e : JobEntry). e.unit) (c.entry_at-unit.ensures ∙ ap (entry_at plant.tables) c.from.ensures) in
    subst (λ u. u < plant.net.shape.units) (sym at)
    ((sound_plans plant.net plant.graph plant.tables plant.states (g.S.Seat.exec plant) (g.S.Seat.cost plant) is.graph is.tables).placed c.args.job c.requires.job)

pub given_by-requires-in-None-clause-unit : goal.given_by-requires-in-None-clause-unit
given_by-requires-in-None-clause-unit g c =
    let plant = c.args.plant.now in let is = g.met.S.Seat.is_set plant c.requires.fit in
    let at = ap (λ (e : JobEntry). e.unit) (c.entry_at-unit.ensures ∙ ap (entry_at plant.tables) c.from.ensures) in
    subst (λ u. u < plant.net.shape.units) (sym at)
    ((sound_plans plant.net plant.graph plant.tables plant.states (g.S.Seat.exec plant) (g.S.Seat.cost plant) is.graph is.tables).placed c.args.job c.requires.job)
