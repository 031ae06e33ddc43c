use Rattle.std.proofs.Common.{◌+◌, map, refl, sym, ◌∙◌, ap, subst, arith}
use Rattle.tables.specs.Valid.{bus_of}
use Rattle.tdma.specs.Layout.{Layout}
use Rattle.cluster_model.specs.Cluster.{left_states}
use Rattle.cluster_model.specs.Plan.{Plan}
use Rattle.cluster_model.specs.State.{State}
use Rattle.cluster_seats.proofs.Members.{fresh_seated, turn_members}
use Rattle.cluster_seats.specs.Seats.{AreSeated, members_on, plan_for}
use Rattle.cluster_starts.specs.Left.{HaveRoom, state_with}
use Rattle.cluster.specs.Clocks.{clock_seen}
use Rattle.cluster.specs.Stands.{state_of, seats_of}
use Rattle.cluster.proofs.Turned.{room_of, open_bus, turned_state}
use Rattle.cluster.proofs.turn.turn.Goals as goal

pub take_left-requires-clause-room : goal.take_left-requires-clause-room
take_left-requires-clause-room g c =
    let plant = c.args.plant.now in
    let cluster = c.args.cluster.now in
    let h = c.requires.stands in
    subst (λ xs. HaveRoom plant (map g.S.Seat.seat xs) cluster.starts) (sym c.as_slice.ensures.value)
    (room_of g.S.Seat.seat g.S.Seat.exec g.S.Seat.cost g.S.Seat.is_alive plant cluster.seats.items cluster.bus (state_of g.S.Seat.seat cluster)
    (λ r a task b home. g.met.S.Seat.sized plant r c.requires.fit a task b home)
    (g.met.S.Seat.is_set plant c.requires.fit).graph refl h.seated h.alive c.requires.in_place h.starts)

pub returns-clause-stands : goal.returns-clause-stands
returns-clause-stands g c =
    let plant = c.args.plant.now in
    let cluster = c.args.cluster.now in
    let p : Plan = plan_for g.S.Seat.exec g.S.Seat.cost plant in
    let h = c.requires.stands in
    record {
      seated = subst (AreSeated plant.net.shape.units) (sym c.turn_all.ensures.seats) (fresh_seated p plant.net.shape.units (seats_of g.S.Seat.seat cluster) h.seated);
      alive = c.turn_all.ensures.alive;
      clocks = c.read_clocks.ensures ∙ ap (λ xs. map clock_seen (map g.S.Seat.seat xs)) c.as_slice-2.ensures.value;
      bus = open_bus (bus_of plant.net plant.graph) c.clear.new.self (c.clear.ensures.layout ∙ h.bus.layout) c.clear.ensures.count c.clear.ensures.open;
      width = c.clear-2.ensures.width ∙ h.width;
      firsts = h.firsts;
      first = h.first;
      starts = λ task b. c.take_left.ensures.room task ∙ h.starts task b;
    }

pub returns-clause-state : goal.returns-clause-state
returns-clause-state g c =
    let plant = c.args.plant.now in
    let cluster = c.args.cluster.now in
    let p : Plan = plan_for g.S.Seat.exec g.S.Seat.cost plant in
    let s : State = state_of g.S.Seat.seat cluster in
    let h = c.requires.stands in
    turned_state p s (cluster.cycle + 1) c.clear-2.new.self.line c.take_left.new.starts (members_on c.clear.new.self (map g.S.Seat.seat c.turn_all.new.seats.items))
    (omega arith) c.clear-2.ensures.none
    (c.take_left.ensures.left cluster.bus cluster.cycle cluster.line.line
    ∙ ap (λ xs. left_states p (state_with cluster.cycle cluster.line.line cluster.starts (members_on cluster.bus (map g.S.Seat.seat xs)))) c.as_slice.ensures.value)
    (ap (members_on c.clear.new.self) c.turn_all.ensures.seats
    ∙ turn_members p cluster.bus c.clear.new.self (seats_of g.S.Seat.seat cluster) (ap (λ (l : Layout). l.rounds) (c.clear.ensures.layout ∙ h.bus.layout)) c.clear.ensures.open)
