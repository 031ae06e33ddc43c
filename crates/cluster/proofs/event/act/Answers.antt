use Rattle.std.proofs.Common.{List, true, false, refl, sym, ◌∙◌, subst}
use Rattle.tables.specs.Valid.{bus_of}
use Rattle.cluster_act.specs.Acts.{CanAct}
use Rattle.cluster_model.specs.Plan.{Plan}
use Rattle.cluster_seats.specs.Seats.{Seated, seat_at, plan_for}
use Rattle.cluster.specs.Stands.{seats_of, state_of}
use Rattle.cluster.proofs.Can.{can_act}
use Rattle.cluster.proofs.Happens.{falls_happens, ticks_happens, falls_by}
use Rattle.cluster.proofs.event.act.Goals as goal

pub fall-requires-clause-can : goal.fall-requires-clause-can
fall-requires-clause-can g c =
    let plant = c.args.plant.now in
    let cluster = c.args.cluster.now in
    let p : Plan = plan_for g.S.Seat.exec g.S.Seat.cost plant in
    let seats : List Seated = seats_of g.S.Seat.seat cluster in
    let h = c.requires.stands in
    subst (λ k. CanAct (bus_of plant.net plant.graph) plant.graph.cycle cluster.bus (seat_at seats k)) (sym c.seat_number-number.ensures)
    (can_act plant.net plant.graph plant.tables plant.states (g.S.Seat.exec plant) (g.S.Seat.cost plant) (state_of g.S.Seat.seat cluster) cluster.bus seats refl h.seated c.requires.in_place h.bus
    c.args.unit c.args.side c.requires.enabled)

pub perform-requires-clause-can : goal.perform-requires-clause-can
perform-requires-clause-can g c =
    let plant = c.args.plant.now in
    let cluster = c.args.cluster.now in
    let p : Plan = plan_for g.S.Seat.exec g.S.Seat.cost plant in
    let seats : List Seated = seats_of g.S.Seat.seat cluster in
    let h = c.requires.stands in
    subst (λ k. CanAct (bus_of plant.net plant.graph) plant.graph.cycle cluster.bus (seat_at seats k)) (sym c.seat_number-number.ensures)
    (can_act plant.net plant.graph plant.tables plant.states (g.S.Seat.exec plant) (g.S.Seat.cost plant) (state_of g.S.Seat.seat cluster) cluster.bus seats refl h.seated c.requires.in_place h.bus
    c.args.unit c.args.side c.requires.enabled)

pub returns-then-is_reached-clause-state : goal.returns-then-is_reached-clause-state
returns-then-is_reached-clause-state g c =
    let plant = c.args.plant.now in
    let cluster = c.args.cluster.now in
    let p : Plan = plan_for g.S.Seat.exec g.S.Seat.cost plant in
    let seats : List Seated = seats_of g.S.Seat.seat cluster in
    let h = c.requires.stands in
    c.fall.ensures.state
    ∙ falls_happens p cluster.script.silences.items c.args.line.now c.args.unit c.args.side cluster.cycle cluster.line.line cluster.starts cluster.bus seats h.seated
    c.requires.enabled.unit_is c.seat_number-number.result c.seat_number-number.ensures c.keep.new.self.line c.keep.ensures.line
    (falls_by p cluster.script.silences.items c.args.line.now c.args.unit c.args.side cluster.cycle cluster.line.line cluster.starts cluster.bus seats h.seated
    c.requires.enabled.unit_is c.seat_number-number.result c.seat_number-number.ensures c.keep.new.self.line c.keep.ensures.line true cluster.firsts.items c.index-2.result.now cluster.clocks.items c.index.result.now h.firsts (h.first c.args.unit c.args.side c.requires.enabled.unit_is)
    c.index-2.ensures h.clocks c.index.ensures (sym c.if-is_reached.true ∙ c.is_reached.ensures))

pub returns-else-is_reached-clause-state : goal.returns-else-is_reached-clause-state
returns-else-is_reached-clause-state g c =
    let plant = c.args.plant.now in
    let cluster = c.args.cluster.now in
    let p : Plan = plan_for g.S.Seat.exec g.S.Seat.cost plant in
    let seats : List Seated = seats_of g.S.Seat.seat cluster in
    let h = c.requires.stands in
    c.perform.ensures.state
    ∙ ticks_happens p cluster.script.silences.items c.args.line.now c.args.unit c.args.side cluster.cycle cluster.line.line cluster.starts cluster.bus seats h.seated
    c.requires.enabled.unit_is c.seat_number-number.result c.seat_number-number.ensures c.keep.new.self.line c.keep.ensures.line
    (falls_by p cluster.script.silences.items c.args.line.now c.args.unit c.args.side cluster.cycle cluster.line.line cluster.starts cluster.bus seats h.seated
    c.requires.enabled.unit_is c.seat_number-number.result c.seat_number-number.ensures c.keep.new.self.line c.keep.ensures.line false cluster.firsts.items c.index-2.result.now cluster.clocks.items c.index.result.now h.firsts (h.first c.args.unit c.args.side c.requires.enabled.unit_is)
    c.index-2.ensures h.clocks c.index.ensures (sym c.if-is_reached.false ∙ c.is_reached.ensures))
