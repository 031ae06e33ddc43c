use Rattle.std.proofs.Common.{sym, ◌∙◌}
use Rattle.std.proofs.lemmas.Bool.{true≢false}
use Rattle.cluster_model.specs.Plan.{Plan}
use Rattle.cluster_seats.specs.Seats.{plan_for}
use Rattle.cluster.specs.Stands.{seats_of, state_of}
use Rattle.cluster.proofs.Noted.{seen_clocks}
use Rattle.cluster.proofs.Settled.{turn_settled, stays_settled}
use Rattle.cluster.proofs.event.settle.Goals as goal

pub returns-then-is_over-clause-state : goal.returns-then-is_over-clause-state
returns-then-is_over-clause-state g c =
    let cluster = c.args.cluster.now in
    let p : Plan = plan_for g.S.Seat.exec g.S.Seat.cost c.args.plant.now in
    c.turn.ensures.state
    ∙ turn_settled p (state_of g.S.Seat.seat cluster) c.deref.result.now c.cycle.result
    (c.deref.ensures.value ∙ c.requires.stands.clocks ∙ seen_clocks cluster.bus (seats_of g.S.Seat.seat cluster)) c.cycle.ensures
    (c.is_over.ensures.0 c.if-is_over.true)

pub returns-else-is_over-clause-state : goal.returns-else-is_over-clause-state
returns-else-is_over-clause-state g c =
    let cluster = c.args.cluster.now in
    let p : Plan = plan_for g.S.Seat.exec g.S.Seat.cost c.args.plant.now in
    stays_settled p (state_of g.S.Seat.seat cluster) c.deref.result.now c.cycle.result
    (c.deref.ensures.value ∙ c.requires.stands.clocks ∙ seen_clocks cluster.bus (seats_of g.S.Seat.seat cluster)) c.cycle.ensures
    (λ o. true≢false (sym (c.is_over.ensures.1 o) ∙ c.if-is_over.false))
