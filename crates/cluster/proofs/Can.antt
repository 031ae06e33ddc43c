-- A replica that is enabled can have its event on the bus.
use Rattle.std.proofs.Common.{◌≡◌, ℕ, ◌-◌, ◌<◌, List, length, ℤ, sym, ◌∙◌, ap, subst, arith}
use Rattle.mars_base.specs.declared.shape.Side.{Side}
use Rattle.bus.specs.Numbers.{BusState, slot_of}
use Rattle.bus.specs.SlotState.{SlotState, Open, StandsAt, IsSending, slot_at}
use Rattle.graph.specs.JobGraph.{JobGraph}
use Rattle.graph.specs.declared.net.Net.{Net}
use Rattle.tables.specs.Valid.{bus_of}
use Rattle.tables.specs.declared.table.Tables.{Tables}
use Rattle.tdma.specs.Layout.{Layout, slot_start_of}
use Rattle.net_run.specs.NetRun.{Execution}
use Rattle.tick_parts.specs.OnBus.{IsBusOf, slots_on}
use Rattle.cluster_act.specs.Acts.{CanAct}
use Rattle.cluster_agreement.proofs.Reading.{listed_at, number_within}
use Rattle.cluster_model.specs.Cluster.{IsEnabled}
use Rattle.cluster_model.specs.Plan.{Plan}
use Rattle.cluster_model.specs.PlanOf.{plan_of}
use Rattle.cluster_model.specs.State.{Running, Member, replica_number, State}
use Rattle.cluster_reached.specs.InPlace.{AreInPlace}
use Rattle.cluster_seats.proofs.Members.{member_at}
use Rattle.cluster_seats.specs.Seats.{Seated, seat_at, AreSeated, members_on}
use Rattle.cluster.proofs.Turned.{seat_in_place}

pub can_act : (net : Net) (g : JobGraph) (t : Tables) (words : List ℕ) (exec : Execution) (cost : ℕ → List ℤ → List ℤ → ℕ) (s : State) (bus : BusState) (seats : List Seated)
    → s.members ≡ members_on bus seats → AreSeated net.shape.units seats → AreInPlace (plan_of net g t words exec cost) s → IsBusOf (bus_of net g) bus
    → (u : ℕ) (x : Side) → IsEnabled (plan_of net g t words exec cost) (members_on bus seats) u x → CanAct (bus_of net g) g.cycle bus (seat_at seats (replica_number u x))
can_act net g t words exec cost s bus seats e is h b u x may =
    let p : Plan = plan_of net g t words exec cost in
    let n = replica_number u x in
    let low : n < length seats = omega (arith, number_within net.shape.units u x may.unit_is, is.count) in
    let seat = seat_at seats n in
    let k = seat_in_place p s bus seats e is h n low in
    let at = member_at net.shape.units bus seats is u x may.unit_is in
    let runs : seat.mode ≡ Running = sym (ap (λ (m : Member). m.mode) at) ∙ may.runs in
    record {
      is_bus = b;
      runs = runs;
      clock = (let c = ap (λ (m : Member). m.held.clock) at in omega (arith, c, may.below));
      stands = λ round inside i.
          let a : slot_start_of bus.layout round seat.unit seat.side ≡ slot_start_of (bus_of net g) round seat.unit seat.side = ap (λ (l : Layout). slot_start_of l round seat.unit seat.side) b.layout in
          let c : bus.layout.slot_words ≡ (bus_of net g).slot_words = ap (λ (l : Layout). l.slot_words) b.layout in
          let d : bus.layout.rounds ≡ (bus_of net g).rounds = ap (λ (l : Layout). l.rounds) b.layout in
          subst (λ (v : SlotState). StandsAt v (seat.held.clock - slot_start_of bus.layout round seat.unit seat.side))
          (listed_at bus.layout.rounds (λ r. slot_of bus r seat.unit seat.side) round Open inside)
          (subst (λ j. StandsAt (slot_at (slots_on bus seat.unit seat.side) round) (seat.held.clock - j)) (sym a)
          (k.stands runs round (omega (arith, inside, d)) (record { from = omega (arith, i.from, a); to = omega (arith, i.to, a, c) })));
      sends = λ round inside sending.
          let d : bus.layout.rounds ≡ (bus_of net g).rounds = ap (λ (l : Layout). l.rounds) b.layout in
          let w = k.sends round inside (subst (λ (v : SlotState). IsSending v) (sym (listed_at bus.layout.rounds (λ r. slot_of bus r seat.unit seat.side) round Open (omega (arith, inside, d)))) sending) in
          record { from = w.1.from; to = w.1.to };
    }
