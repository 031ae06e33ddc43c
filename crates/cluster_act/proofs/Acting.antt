-- One replica's event, by what its seat shows.
use Rattle.std.proofs.Common.{◌≡◌, ℕ, ◌<◌, List, ℤ, length, map, set, get_or, refl, sym, ◌∙◌, ap, subst, arith}
use Rattle.std.proofs.lemmas.List.{get_or-map, length-map, map-set}
use Rattle.mars_base.specs.declared.shape.Side.{Side}
use Rattle.bus.specs.Numbers.{BusState}
use Rattle.bus.specs.SlotState.{SlotState, cut}
use Rattle.tdma.specs.Layout.{Layout}
use Rattle.tick_parts.specs.OnBus.{slots_on, bus_on}
use Rattle.cluster_model.specs.Cluster.{after_tick, fallen}
use Rattle.cluster_model.specs.Effects.{tick_effects}
use Rattle.cluster_model.specs.Plan.{Plan}
use Rattle.cluster_model.specs.State.{Bus, Held, Member, Silent, bus_in}
use Rattle.cluster_model.specs.Tick.{ticked, slots_after}
use Rattle.cluster_seats.proofs.Members.{bus_is, one_acts, still_seated}
use Rattle.cluster_seats.specs.Seats.{Seated, no_seat, seat_at, with_held, silenced, AreSeated, member_on, members_on}
use Rattle.cluster_act.specs.Acts.{CanAct}

-- what stands in a seat is seen there
pub seen_at : {S : Type 0} (seat : S → Seated) (xs : List S) (n : ℕ) (s : S) → n < length xs → s ≡ get_or xs n s → seat s ≡ seat_at (map seat xs) n
seen_at seat xs n s low is = ap seat is ∙ sym (get_or-map seat xs n s no_seat low)

pub can_there : (l : Layout) (cycle : ℕ) (bus : BusState) (s t : Seated) → s ≡ t → CanAct l cycle bus t → CanAct l cycle bus s
can_there l cycle bus s t e h = subst (CanAct l cycle bus) (sym e) h

module _ {S : Type 0} (seat : S → Seated) (units : ℕ) (old now : BusState) (xs : List S) (n : ℕ) (was next : S) (low : n < length xs) (is : was ≡ get_or xs n was) (h : AreSeated units (map seat xs))
    (others : (u : ℕ) (x : Side) → u < units → (u ≡ (seat was).unit → x ≡ (seat was).side → ⊥) → slots_on now u x ≡ slots_on old u x) where
  at : seat was ≡ seat_at (map seat xs) n
  at = seen_at seat xs n was low is

  inside : n < length (map seat xs)
  inside = omega (arith, low, length-map xs seat)

  -- each keeps its seat
  pub seated_again : (made : Seated) → seat next ≡ made → made.unit ≡ (seat was).unit → made.side ≡ (seat was).side → AreSeated units (map seat (set xs n next))
  seated_again made e same_unit same_side =
      subst (AreSeated units) (sym (map-set seat xs n next))
      (still_seated units (map seat xs) n (seat next) h inside
      (ap (λ (s : Seated). s.unit) e ∙ same_unit ∙ ap (λ (s : Seated). s.unit) at)
      (ap (λ (s : Seated). s.side) e ∙ same_side ∙ ap (λ (s : Seated). s.side) at))

  -- one member is another, and all others stay
  pub members_again : (m : Member) → member_on now (seat next) ≡ m → members_on now (map seat (set xs n next)) ≡ set (members_on old (map seat xs)) n m
  members_again m e =
      ap (members_on now) (map-set seat xs n next)
      ∙ one_acts units old now (map seat xs) n (seat next) h inside
      (λ u x b no. others u x b (λ e f. no (e ∙ ap (λ (s : Seated). s.unit) at) (f ∙ ap (λ (s : Seated). s.side) at)))
      ∙ ap (set (members_on old (map seat xs)) n) e

  pub ticked_member : (p : Plan) (line : List ℤ) → old.layout.units ≡ units
      → seat next ≡ with_held (ticked p (bus_on old) line (seat was).unit (seat was).held) (seat was)
      → slots_on now (seat was).unit (seat was).side ≡ slots_after p (seat was).unit (seat was).side (seat was).held (slots_on old (seat was).unit (seat was).side)
      → member_on now (seat next) ≡ after_tick p line (members_on old (map seat xs)) (seat_at (map seat xs) n).unit (seat_at (map seat xs) n).side (member_on old (seat_at (map seat xs) n))
  ticked_member p line units_are e own =
      ap (member_on now) e
      ∙ ap (λ slots. (let m : Member = record { mode = (seat was).mode; held = ticked p (bus_on old) line (seat was).unit (seat was).held; slots = slots } in m)) own
      ∙ ap (λ (b : Bus). (let m : Member = record {
        mode = (seat was).mode;
        held = ticked p b line (seat was).unit (seat was).held;
        slots = slots_after p (seat was).unit (seat was).side (seat was).held (slots_on old (seat was).unit (seat was).side);
      } in m)) (sym (bus_is units old (map seat xs) h units_are))
      ∙ ap (λ (s : Seated). after_tick p line (members_on old (map seat xs)) s.unit s.side (member_on old s)) at

  pub ticked_effects : (p : Plan) (line : List ℤ) → old.layout.units ≡ units
      → tick_effects p (bus_on old) line (seat was).unit (seat was).side (seat was).held
      ≡ tick_effects p (bus_in (members_on old (map seat xs))) line (seat_at (map seat xs) n).unit (seat_at (map seat xs) n).side (seat_at (map seat xs) n).held
  ticked_effects p line units_are =
      ap (λ (b : Bus). tick_effects p b line (seat was).unit (seat was).side (seat was).held) (sym (bus_is units old (map seat xs) h units_are))
      ∙ ap (λ (s : Seated). tick_effects p (bus_in (members_on old (map seat xs))) line s.unit s.side s.held) at

  pub fallen_member : seat next ≡ silenced (seat was) → slots_on now (seat was).unit (seat was).side ≡ map cut (slots_on old (seat was).unit (seat was).side)
      → member_on now (seat next) ≡ fallen (member_on old (seat_at (map seat xs) n))
  fallen_member e own =
      ap (member_on now) e
      ∙ ap (λ slots. (let m : Member = record { mode = Silent; held = (seat was).held; slots = slots } in m)) own
      ∙ ap (λ (s : Seated). fallen (member_on old s)) at
