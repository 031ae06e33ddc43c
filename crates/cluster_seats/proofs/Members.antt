-- Replicas in their seats, read as the model's members.
use Rattle.std.proofs.Common.{◌≡◌, ℕ, ◌*◌, ◌<◌, ◌≤◌, ◌≢◌, ◌⊎◌, inl, inr, List, [], ◌∷◌, length, map, set, get_or, cond, nat_lt, refl, sym, ◌∙◌, ap, subst, arith}
use Rattle.std.proofs.lemmas.Bool.{cases_eq, cases_lt, lt-ltb, le-ltb}
use Rattle.std.proofs.lemmas.List.{ext_get_or, get_or-map, get_or_past, length-map, length-set, get_or-set_same, get_or-set_other}
use Rattle.mars_base.specs.declared.shape.Side.{Side}
use Rattle.bus.specs.Numbers.{BusState, slot_number, slot_of}
use Rattle.bus.specs.SlotState.{SlotState, Open, slot_at}
use Rattle.tick_parts.specs.OnBus.{slots_on, bus_on}
use Rattle.cluster_agreement.proofs.Reading.{one_replica, number_within}
use Rattle.cluster_model.specs.Cluster.{turned, fresh_slots}
use Rattle.cluster_model.specs.Plan.{Plan, listed}
use Rattle.cluster_model.specs.State.{Member, no_member, replica_number, member_of, bus_in}
use Rattle.cluster_seats.specs.Fresh.{fresh, all_fresh}
use Rattle.cluster_seats.specs.Seats.{Seated, no_seat, seat_at, member_on, members_on, AreSeated}

pub on_at : (bus : BusState) (seats : List Seated) (n : ℕ) → n < length seats → get_or (members_on bus seats) n no_member ≡ member_on bus (seat_at seats n)
on_at bus seats n low = get_or-map (member_on bus) seats n no_seat no_member low

-- the replica of a unit's side is in the seat of its number
pub seat_of : (units : ℕ) (seats : List Seated) → AreSeated units seats → (u : ℕ) (x : Side) → u < units
    → ((seat_at seats (replica_number u x)).unit ≡ u) × ((seat_at seats (replica_number u x)).side ≡ x)
seat_of units seats h u x low =
    let s = seat_at seats (replica_number u x) in
    one_replica u x s.unit s.side (h.number (replica_number u x) (omega (arith, h.count, number_within units u x low)))

pub member_at : (units : ℕ) (bus : BusState) (seats : List Seated) → AreSeated units seats → (u : ℕ) (x : Side) → u < units
    → member_of (members_on bus seats) u x ≡ member_on bus (seat_at seats (replica_number u x))
member_at units bus seats h u x low = on_at bus seats (replica_number u x) (omega (arith, h.count, number_within units u x low))

-- the bus as the members' slots
pub bus_is : (units : ℕ) (bus : BusState) (seats : List Seated) → AreSeated units seats → bus.layout.units ≡ units → bus_in (members_on bus seats) ≡ bus_on bus
bus_is units bus seats h e = λ i u x k. by u x k (cases_lt u units) i
  where
    beyond : (u : ℕ) (x : Side) → units ≤ u → length (members_on bus seats) ≤ replica_number u x
    beyond u x high = omega (arith, length-map seats (member_on bus), h.count, high)

    by : (u : ℕ) (x : Side) (k : ℕ) → (u < units) ⊎ (units ≤ u) → bus_in (members_on bus seats) u x k ≡ bus_on bus u x k
    by u x k (inl low) =
        let w = seat_of units seats h u x low in
        ap (λ (m : Member). slot_at m.slots k) (member_at units bus seats h u x low)
        ∙ ap (λ v. slot_at (slots_on bus v (seat_at seats (replica_number u x)).side) k) w.0
        ∙ ap (λ y. slot_at (slots_on bus u y) k) w.1
        ∙ ap (λ b. slot_at (cond b (slots_on bus u x) []) k) (sym (lt-ltb u bus.layout.units (omega (arith, low, e))))
    by u x k (inr high) =
        ap (λ (m : Member). slot_at m.slots k) (get_or_past (members_on bus seats) (replica_number u x) no_member (beyond u x high))
        ∙ ap (λ b. slot_at (cond b (slots_on bus u x) []) k) (sym (le-ltb u bus.layout.units (omega (arith, high, e))))

pub unit_within : (units : ℕ) (seats : List Seated) → AreSeated units seats → (n : ℕ) → n < length seats → (seat_at seats n).unit < units
unit_within units seats h n low = omega (arith, h.number n low, h.count, low)

-- one replica has an event that leaves the slots of all others
pub one_acts : (units : ℕ) (old now : BusState) (seats : List Seated) (n : ℕ) (s : Seated) → AreSeated units seats → n < length seats
    → ((u : ℕ) (x : Side) → u < units → (u ≡ (seat_at seats n).unit → x ≡ (seat_at seats n).side → ⊥) → slots_on now u x ≡ slots_on old u x)
    → members_on now (set seats n s) ≡ set (members_on old seats) n (member_on now s)
one_acts units old now seats n s h low others =
    ext_get_or no_member (members_on now (set seats n s)) (set (members_on old seats) n (member_on now s))
    (length-map (set seats n s) (member_on now) ∙ length-set seats n s ∙ sym (length-map seats (member_on old)) ∙ sym (length-set (members_on old seats) n (member_on now s)))
    (λ k b.
    let c : k < length seats = omega (arith, b, length-map (set seats n s) (member_on now), length-set seats n s) in
    get_or-map (member_on now) (set seats n s) k no_seat no_member (omega (arith, c, length-set seats n s))
    ∙ at k c (cases_eq k n))
  where
    slots_stay : (k : ℕ) → k < length seats → k ≢ n → slots_on now (seat_at seats k).unit (seat_at seats k).side ≡ slots_on old (seat_at seats k).unit (seat_at seats k).side
    slots_stay k c o = others (seat_at seats k).unit (seat_at seats k).side (unit_within units seats h k c)
        (λ e f. o (sym (h.number k c) ∙ ap (λ u. replica_number u (seat_at seats k).side) e ∙ ap (replica_number (seat_at seats n).unit) f ∙ h.number n low))

    at : (k : ℕ) → k < length seats → (k ≡ n) ⊎ (k ≢ n) → member_on now (seat_at (set seats n s) k) ≡ get_or (set (members_on old seats) n (member_on now s)) k no_member
    at k c (inl e) =
        ap (λ i. member_on now (seat_at (set seats n s) i)) e
        ∙ ap (member_on now) (get_or-set_same seats n s no_seat low)
        ∙ sym (get_or-set_same (members_on old seats) n (member_on now s) no_member (omega (arith, low, length-map seats (member_on old))))
        ∙ ap (λ i. get_or (set (members_on old seats) n (member_on now s)) i no_member) (sym e)
    at k c (inr o) =
        ap (member_on now) (get_or-set_other seats n k s no_seat o)
        ∙ ap (λ slots. (let m : Member = record { mode = (seat_at seats k).mode; held = (seat_at seats k).held; slots = slots } in m)) (slots_stay k c o)
        ∙ sym (on_at old seats k c)
        ∙ sym (get_or-set_other (members_on old seats) n k (member_on now s) no_member o)

-- a replica stays in its seat
pub still_seated : (units : ℕ) (seats : List Seated) (n : ℕ) (s : Seated) → AreSeated units seats → n < length seats → s.unit ≡ (seat_at seats n).unit → s.side ≡ (seat_at seats n).side
    → AreSeated units (set seats n s)
still_seated units seats n s h low same_unit same_side = record {
  count = length-set seats n s ∙ h.count;
  number = λ k b. at k (omega (arith, b, length-set seats n s)) (cases_eq k n);
}
  where
    at : (k : ℕ) → k < length seats → (k ≡ n) ⊎ (k ≢ n) → replica_number (seat_at (set seats n s) k).unit (seat_at (set seats n s) k).side ≡ k
    at k c (inl e) =
        ap (λ i. replica_number (seat_at (set seats n s) i).unit (seat_at (set seats n s) i).side) e
        ∙ ap (λ (t : Seated). replica_number t.unit t.side) (get_or-set_same seats n s no_seat low)
        ∙ ap (λ u. replica_number u s.side) same_unit ∙ ap (replica_number (seat_at seats n).unit) same_side ∙ h.number n low ∙ sym e
    at k c (inr o) = ap (λ (t : Seated). replica_number t.unit t.side) (get_or-set_other seats n k s no_seat o) ∙ h.number k c

-- at a cycle's start each is in its seat
pub fresh_seated : (p : Plan) (units : ℕ) (seats : List Seated) → AreSeated units seats → AreSeated units (all_fresh p seats)
fresh_seated p units seats h = record {
  count = length-map seats (fresh p) ∙ h.count;
  number = λ k b.
      let c : k < length seats = omega (arith, b, length-map seats (fresh p)) in
      ap (λ (t : Seated). replica_number t.unit t.side) (get_or-map (fresh p) seats k no_seat no_seat c) ∙ h.number k c;
}

-- with every slot open they are the model's at a cycle's start
pub turn_members : (p : Plan) (old now : BusState) (seats : List Seated) → now.layout.rounds ≡ p.rounds → ((n : ℕ) → slot_at now.slots n ≡ Open)
    → members_on now (all_fresh p seats) ≡ map (turned p) (members_on old seats)
turn_members p old now [] rounds opened = refl
turn_members p old now (s ∷ seats) rounds opened =
    ap (λ slots. (let m : Member = record { mode = s.mode; held = (fresh p s).held; slots = slots } in m) ∷ members_on now (all_fresh p seats)) slots_open
    ∙ ap (λ ms. turned p (member_on old s) ∷ ms) (turn_members p old now seats rounds opened)
  where
    slots_open : slots_on now s.unit s.side ≡ fresh_slots p
    slots_open = ap (λ n. listed n (λ round. slot_of now round s.unit s.side)) rounds ∙ ap (listed p.rounds) (λ i round. opened (slot_number now.layout round s.unit s.side) i)
