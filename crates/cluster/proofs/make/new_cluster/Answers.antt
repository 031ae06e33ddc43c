use Rattle.std.proofs.Common.{◌≡◌, [], length, map, get_or, sym, ◌∙◌, ap, subst, arith}
use Rattle.tables.specs.Valid.{bus_of}
use Rattle.tdma.specs.Layout.{Layout}
use Rattle.task_words.specs.States.{first_states}
use Rattle.cluster_model.specs.Plan.{Plan}
use Rattle.cluster_model.specs.State.{State}
use Rattle.cluster_reached.proofs.Along.{reached_leads}
use Rattle.cluster_reached.specs.Laws.{IsReachedBy}
use Rattle.cluster_seats.specs.Seats.{AreSeated, members_on, plan_for}
use Rattle.cluster.specs.Clocks.{clock_seen}
use Rattle.cluster.proofs.First.{first_are_seated, first_members, first_starts, first_sizes, first_state_is}
use Rattle.cluster.proofs.Turned.{open_bus}
use Rattle.cluster.proofs.make.new_cluster.Goals as goal

pub returns-clause-stands : goal.returns-clause-stands
returns-clause-stands g c =
    let plant = c.args.plant.now in
    let p : Plan = plan_for g.S.Seat.exec g.S.Seat.cost plant in
    let is = g.met.S.Seat.is_set plant c.requires.fit in
    let starts_are : c.in_ok-starts.starts ≡ first_states plant.states = c.in_ok-starts.ensures ∙ ap first_states c.as_slice-2.ensures in
    record {
      seated = subst (AreSeated plant.net.shape.units) (sym c.requires.seats) (first_are_seated p plant.net.shape.units);
      alive = c.requires.alive;
      clocks = c.in_ok-clocks.ensures ∙ ap (λ xs. map clock_seen (map g.S.Seat.seat xs)) c.as_slice.ensures.value;
      bus = open_bus (bus_of plant.net plant.graph) c.in_ok-bus.bus c.in_ok-bus.ensures.layout c.in_ok-bus.ensures.count c.in_ok-bus.ensures.open;
      width = c.in_ok-line.ensures.width;
      firsts = c.in_ok-firsts.ensures.count;
      first = λ u x low. subst (λ silences. Rattle.first_silence.specs.Moments.IsFirstSilence silences u x (get_or c.in_ok-firsts.firsts.items (Rattle.cluster_model.specs.State.replica_number u x) Rattle.std.specs.Prelude.None)) c.as_slice-3.ensures.value (c.in_ok-firsts.ensures.each u x low);
      starts = λ task low. ap (λ xs. length (get_or xs task [])) starts_are ∙ first_sizes plant.states task (omega (arith, low, is.count));
    }

pub returns-clause-state : goal.returns-clause-state
returns-clause-state g c =
    let plant = c.args.plant.now in
    let p : Plan = plan_for g.S.Seat.exec g.S.Seat.cost plant in
    let is = g.met.S.Seat.is_set plant c.requires.fit in
    let starts_are : c.in_ok-starts.starts ≡ first_states plant.states = c.in_ok-starts.ensures ∙ ap first_states c.as_slice-2.ensures in
    first_state_is p c.in_ok-line.line.line c.in_ok-starts.starts (members_on c.in_ok-bus.bus (map g.S.Seat.seat c.args.seats.items)) c.in_ok-line.ensures.none
    (starts_are ∙ first_starts plant.states (length plant.net.tasks) is.count)
    (ap (members_on c.in_ok-bus.bus) c.requires.seats ∙ first_members p c.in_ok-bus.bus plant.net.shape.units (ap (λ (l : Layout). l.rounds) c.in_ok-bus.ensures.layout) c.in_ok-bus.ensures.open)

pub returns-clause-reached : goal.returns-clause-reached
returns-clause-reached g c =
    let plant = c.args.plant.now in
    let exec = g.S.Seat.exec plant in
    let cost = g.S.Seat.cost plant in
    subst (IsReachedBy plant.net plant.graph plant.tables plant.states exec cost c.args.script.silences.items) (sym (returns-clause-state g c))
    (reached_leads.first plant.net plant.graph plant.tables plant.states exec cost c.args.script.silences.items)
