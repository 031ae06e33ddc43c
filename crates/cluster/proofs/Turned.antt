-- The begin of a cycle.
use Rattle.std.proofs.Common.{◌≡◌, ℕ, zero, suc, ◌<◌, List, [], ◌∷◌, length, map, get_or, ℤ, slice_index, Option, None, refl, sym, ◌∙◌, ap, subst, arith}
use Rattle.std.specs.List.{All}
use Rattle.std.proofs.lemmas.List.{length-map}
use Rattle.bus.specs.Numbers.{BusState, slot_count}
use Rattle.bus.specs.SlotState.{Open, Whole, slot_at}
use Rattle.tdma.specs.Layout.{Layout}
use Rattle.tick_parts.specs.OnBus.{IsBusOf}
use Rattle.net_run.specs.NetRun.{Execution}
use Rattle.cluster_model.specs.Cluster.{left_states, turned, turn}
use Rattle.graph.specs.NetGraph.{IsNetGraph}
use Rattle.plant.specs.declared.system.Plant.{Plant}
use Rattle.cluster_model.specs.Plan.{Plan}
use Rattle.cluster_model.specs.State.{state_in, Member, no_member, member_of, State}
use Rattle.cluster_reached.specs.InPlace.{IsInPlace, AreInPlace}
use Rattle.cluster_seats.proofs.Members.{on_at, unit_within}
use Rattle.cluster_seats.specs.Seats.{Seated, seat_at, AreSeated, member_on, members_on, plan_for}
use Rattle.cluster_starts.proofs.Homes.{home_is}
use Rattle.cluster_starts.specs.Left.{HaveRoom, state_with}
use Rattle.cluster_act.proofs.Acting.{seen_at}

-- an element of a list by its number
some_at : {S : Type 0} (xs : List S) (n : ℕ) → n < length xs → (s : S) × ((d : S) → s ≡ get_or xs n d)
some_at [] n low = absurd (omega (arith, low))
some_at (x ∷ xs) zero low = (x, λ d. refl)
some_at (x ∷ xs) (suc n) low = let w = some_at xs n (omega (arith, low)) in (w.0, λ d. w.1 d)

-- what is in place of the members is so of the seats
pub seat_in_place : (p : Plan) (s : State) (bus : BusState) (seats : List Seated) → s.members ≡ members_on bus seats → AreSeated p.units seats → AreInPlace p s → (n : ℕ) → n < length seats
    → IsInPlace p (seat_at seats n).unit (seat_at seats n).side (member_on bus (seat_at seats n))
seat_in_place p s bus seats e is h n low =
    subst (IsInPlace p (seat_at seats n).unit (seat_at seats n).side)
    (ap (λ (ms : List Member). member_of ms (seat_at seats n).unit (seat_at seats n).side) e
    ∙ ap (λ k. get_or (members_on bus seats) k no_member) (is.number n low) ∙ on_at bus seats n low)
    (h.each (seat_at seats n).unit (seat_at seats n).side (unit_within p.units seats is n low))

-- the states of the replicas have room at the cycle's start
pub room_of : {S P : Type 0} (seat : S → Seated) (exec : Plant P → Execution) (cost : Plant P → ℕ → List ℤ → List ℤ → ℕ) (is_alive : Plant P → S → Type 0) (plant : Plant P) (xs : List S) (bus : BusState) (s : State)
    → ((r : S) → is_alive plant r → (task : ℕ) → task < length plant.net.tasks → (plan_for exec cost plant).home task ≡ (seat r).unit → length (state_in (seat r).held task) ≡ slice_index plant.states task)
    → IsNetGraph plant.net plant.graph → s.members ≡ members_on bus (map seat xs) → AreSeated plant.net.shape.units (map seat xs) → All (is_alive plant) xs → AreInPlace (plan_for exec cost plant) s
    → ((task : ℕ) → task < length plant.net.tasks → length (get_or s.start task []) ≡ slice_index plant.states task) → HaveRoom plant (map seat xs) s.start
room_of seat exec cost is_alive plant xs bus s sized n e is alive h start = record {
  count = h.start;
  lists = λ k low. (seat_in_place (plan_for exec cost plant) s bus (map seat xs) e is h k low).lists.states;
  states = λ k task low b home.
      let inside : k < length xs = omega (arith, low, length-map xs seat) in
      let w = some_at xs k inside in
      let here = seen_at seat xs k w.0 inside (w.1 w.0) in
      ap (λ (t : Seated). length (state_in t.held task)) (sym here)
      ∙ sized w.0 (subst (is_alive plant) (sym (w.1 w.0)) (alive k w.0 inside)) task b
      (sym (home_is plant.net plant.graph plant.tables n task b) ∙ home ∙ sym (ap (λ (t : Seated). t.unit) here));
  start = start;
}

-- a bus with every slot open
pub open_bus : (l : Layout) (b : BusState) → b.layout ≡ l → length b.slots ≡ slot_count b.layout → ((n : ℕ) → slot_at b.slots n ≡ Open) → IsBusOf l b
open_bus l b layout slots opened = record { layout = layout; slots = slots; frames = λ n words e. absurd (let z : Open ≡ Whole words = sym (opened n) ∙ e in cc) }

-- the state at the next cycle's start, by its parts
pub turned_state : (p : Plan) (s : State) (cycle : ℕ) (line : Option (List ℤ)) (start : List (List ℤ)) (members : List Member)
    → cycle ≡ suc s.cycle → line ≡ None → start ≡ left_states p s → members ≡ map (turned p) s.members → state_with cycle line start members ≡ turn p s
turned_state p s cycle line start members a b c d =
    ap (λ n. state_with n line start members) a ∙ ap (λ l. state_with (suc s.cycle) l start members) b
    ∙ ap (λ xs. state_with (suc s.cycle) None xs members) c ∙ ap (λ (ms : List Member). state_with (suc s.cycle) None (left_states p s) ms) d
