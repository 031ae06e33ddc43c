use Rattle.std.proofs.Common.{◌≡◌, ◌*◌, ◌<◌, length, ◌∙◌, arith}
use Rattle.std.proofs.lemmas.List.{length-map}
use Rattle.cluster_model.specs.Plan.{Plan}
use Rattle.cluster_model.specs.State.{State}
use Rattle.cluster_seats.specs.Seats.{member_on, plan_for}
use Rattle.cluster.specs.Stands.{state_of, seats_of}
use Rattle.cluster.proofs.Acting.{acts_by}
use Rattle.cluster.proofs.Noted.{seen_clocks}
use Rattle.cluster.proofs.Setting.{some_skew, some_ticks}
use Rattle.cluster.proofs.enabled.may_step.Goals as goal

pub returns : goal.returns
returns g c =
    let plant = c.args.plant.now in
    let cluster = c.args.cluster.now in
    let p : Plan = plan_for g.S.Seat.exec g.S.Seat.cost plant in
    let s : State = state_of g.S.Seat.seat cluster in
    let is = g.met.S.Seat.is_set plant c.requires.fit in
    let size : length s.members ≡ 2 * p.units = length-map (seats_of g.S.Seat.seat cluster) (member_on cluster.bus) ∙ c.requires.stands.seated.count in
    let low : c.args.unit < p.units = omega (arith, c.if-unit-plant.false) in
    let w = acts_by p (some_ticks plant.net plant.graph plant.tables plant.states (g.S.Seat.exec plant) (g.S.Seat.cost plant) is) (some_skew plant.net plant.graph plant.tables plant.states (g.S.Seat.exec plant) (g.S.Seat.cost plant) is)
    s size c.args.unit c.args.side low c.deref.result.now c.seat_number-number.result c.cycle.result
    (c.deref.ensures.value ∙ c.requires.stands.clocks ∙ seen_clocks cluster.bus (seats_of g.S.Seat.seat cluster)) c.seat_number-number.ensures c.cycle.ensures in
    (λ t. w.0 (c.may_act.ensures.0 t), λ h. c.may_act.ensures.1 (w.1 h))
