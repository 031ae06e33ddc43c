use Rattle.std.proofs.Common.{◌≡◌, ◌*◌, length, sym, ◌∙◌, subst}
use Rattle.std.proofs.lemmas.Bool.{true≢false}
use Rattle.std.proofs.lemmas.List.{length-map}
use Rattle.cluster_clocks.specs.Clocks.{IsOver}
use Rattle.cluster_model.specs.Plan.{Plan}
use Rattle.cluster_model.specs.State.{State}
use Rattle.cluster_seats.specs.Seats.{member_on, plan_for}
use Rattle.cluster.specs.Stands.{state_of, seats_of}
use Rattle.cluster.proofs.Acting.{over_by, within_by}
use Rattle.cluster.proofs.Noted.{seen_clocks}
use Rattle.cluster.proofs.Setting.{some_skew, some_ticks}
use Rattle.cluster.proofs.enabled.is_enabled.Goals as goal

pub returns-then-is_over : goal.returns-then-is_over
returns-then-is_over g c =
    let plant = c.args.plant.now in
    let cluster = c.args.cluster.now in
    let p : Plan = plan_for g.S.Seat.exec g.S.Seat.cost plant in
    let s : State = state_of g.S.Seat.seat cluster in
    let is = g.met.S.Seat.is_set plant c.requires.fit in
    let size : length s.members ≡ 2 * p.units = length-map (seats_of g.S.Seat.seat cluster) (member_on cluster.bus) ∙ c.requires.stands.seated.count in
    over_by p (some_ticks plant.net plant.graph plant.tables plant.states (g.S.Seat.exec plant) (g.S.Seat.cost plant) is) (some_skew plant.net plant.graph plant.tables plant.states (g.S.Seat.exec plant) (g.S.Seat.cost plant) is)
    s size c.args.unit c.args.side c.requires.unit cluster.clocks.items c.seat_number-number.result c.cycle-cycle.result c.index.result.now
    (c.requires.stands.clocks ∙ seen_clocks cluster.bus (seats_of g.S.Seat.seat cluster)) c.seat_number-number.ensures c.cycle-cycle.ensures
    (subst (λ cs. IsOver cs c.cycle-cycle.result) c.deref.ensures.value (c.is_over.ensures.0 c.if-is_over.true)) c.index.ensures

pub returns-else-is_over : goal.returns-else-is_over
returns-else-is_over g c =
    let plant = c.args.plant.now in
    let cluster = c.args.cluster.now in
    let p : Plan = plan_for g.S.Seat.exec g.S.Seat.cost plant in
    let s : State = state_of g.S.Seat.seat cluster in
    let is = g.met.S.Seat.is_set plant c.requires.fit in
    let size : length s.members ≡ 2 * p.units = length-map (seats_of g.S.Seat.seat cluster) (member_on cluster.bus) ∙ c.requires.stands.seated.count in
    let w = within_by p (some_ticks plant.net plant.graph plant.tables plant.states (g.S.Seat.exec plant) (g.S.Seat.cost plant) is) (some_skew plant.net plant.graph plant.tables plant.states (g.S.Seat.exec plant) (g.S.Seat.cost plant) is)
    s size c.args.unit c.args.side c.requires.unit c.deref-else-is_over.result.now c.seat_number-number.result c.cycle-cycle.result
    (c.deref-else-is_over.ensures.value ∙ c.requires.stands.clocks ∙ seen_clocks cluster.bus (seats_of g.S.Seat.seat cluster)) c.seat_number-number.ensures c.cycle-cycle.ensures
    (λ o. true≢false (sym (c.is_over.ensures.1 (subst (λ cs. IsOver cs c.cycle-cycle.result) (c.deref-else-is_over.ensures.value ∙ sym c.deref.ensures.value) o)) ∙ c.if-is_over.false)) in
    (λ t. w.0 (c.may_act.ensures.0 t), λ h. c.may_act.ensures.1 (w.1 h))
