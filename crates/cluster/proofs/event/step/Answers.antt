use Rattle.std.proofs.Common.{◌≡◌, List, sym, ◌∙◌, ap, subst}
use Rattle.script.specs.declared.script.Script.{Script}
use Rattle.script.specs.declared.script.Silence.{Silence}
use Rattle.cluster_model.specs.Cluster.{happens, step}
use Rattle.cluster_model.specs.Plan.{Plan}
use Rattle.cluster_model.specs.State.{State}
use Rattle.cluster_reached.proofs.Along.{reached_leads}
use Rattle.cluster_reached.proofs.Whole.{reached_holds}
use Rattle.cluster_reached.specs.InPlace.{AreInPlace}
use Rattle.cluster_reached.specs.Laws.{IsReachedBy}
use Rattle.cluster_seats.specs.Seats.{plan_for}
use Rattle.cluster.specs.Stands.{state_of}
use Rattle.cluster.proofs.event.step.Goals as goal

pub settle-requires-clause-in_place : goal.settle-requires-clause-in_place
settle-requires-clause-in_place g c =
    let plant = c.args.plant.now in
    (reached_holds plant.net plant.graph plant.tables plant.states (g.S.Seat.exec plant) (g.S.Seat.cost plant) c.args.cluster.now.script.silences.items (g.met.S.Seat.is_set plant c.requires.fit)
    (state_of g.S.Seat.seat c.args.cluster.now) c.requires.reached).now

pub act-requires-clause-in_place : goal.act-requires-clause-in_place
act-requires-clause-in_place g c =
    let plant = c.args.plant.now in
    subst (AreInPlace (plan_for g.S.Seat.exec g.S.Seat.cost plant)) (sym c.settle.ensures.state)
    (reached_holds plant.net plant.graph plant.tables plant.states (g.S.Seat.exec plant) (g.S.Seat.cost plant) c.args.cluster.now.script.silences.items (g.met.S.Seat.is_set plant c.requires.fit)
    (state_of g.S.Seat.seat c.args.cluster.now) c.requires.reached).next

pub returns-clause-reached : goal.returns-clause-reached
returns-clause-reached g c =
    let plant = c.args.plant.now in
    let p : Plan = plan_for g.S.Seat.exec g.S.Seat.cost plant in
    let s : State = state_of g.S.Seat.seat c.args.cluster.now in
    let silences : List Silence = c.args.cluster.now.script.silences.items in
    let same : c.act.new.cluster.script ≡ c.args.cluster.now.script = c.act.ensures.script ∙ c.settle.ensures.script in
    let is : state_of g.S.Seat.seat c.act.new.cluster ≡ step p silences c.args.line.now c.args.unit c.args.side s =
    c.act.ensures.state
    ∙ ap (λ (sc : Script). happens p sc.silences.items c.args.line.now c.args.unit c.args.side (state_of g.S.Seat.seat c.settle.new.cluster)) c.settle.ensures.script
    ∙ ap (happens p silences c.args.line.now c.args.unit c.args.side) c.settle.ensures.state in
    subst (λ (sc : Script). IsReachedBy plant.net plant.graph plant.tables plant.states (g.S.Seat.exec plant) (g.S.Seat.cost plant) sc.silences.items (state_of g.S.Seat.seat c.act.new.cluster)) (sym same)
    (subst (IsReachedBy plant.net plant.graph plant.tables plant.states (g.S.Seat.exec plant) (g.S.Seat.cost plant) silences) (sym is)
    (reached_leads.next plant.net plant.graph plant.tables plant.states (g.S.Seat.exec plant) (g.S.Seat.cost plant) silences s c.args.unit c.args.side c.args.line.now c.requires.reached
    (record { enabled = c.requires.enabled; line_is = c.requires.same }) c.requires.line))
