-- What is seen of the frames that a unit takes at a tick.
use Rattle.std.proofs.Common.{◌≡◌, ℕ, ◌+◌, ◌-◌, ◌<◌, inl, inr, List, [], ◌∷◌, length, get_or, ℤ, Option, None, Some, Bool, true, false, refl, sym, ◌∙◌, ap, subst, arith}
use Rattle.std.specs.Prelude.{◌&&◌, nat_eq, if◌then◌else◌}
use Rattle.std.specs.List.{range_with_len, list_any, flat_map}
use Rattle.std.proofs.lemmas.Bool.{cases_eq, eq-eqb, ne_eqb, eqb-true, and_parts}
use Rattle.std.proofs.lemmas.List.Folds.{list_any_none, list_any_at}
use Rattle.std.proofs.lemmas.List.FromFn.{length-range_with_len, get_or-range_with_len}
use Rattle.mars_base.specs.declared.shape.Side.TheVariants.{A, B}
use Rattle.bus.specs.Numbers.{BusState, slot_of}
use Rattle.bus.specs.SlotState.{SlotState, whole}
use Rattle.agenda.specs.Due.{Agenda, IsDue, FirstFrom}
use Rattle.graph.specs.JobGraph.{JobGraph}
use Rattle.graph.specs.NetGraph.{IsNetGraph}
use Rattle.graph.specs.declared.net.Net.{Net}
use Rattle.tables.specs.Named.{message_at, consumer_in}
use Rattle.tables.specs.Valid.{AreValid, bus_of}
use Rattle.tables.specs.declared.table.Tables.{Tables}
use Rattle.tdma.specs.Layout.{Layout, IsLayout, usable_of}
use Rattle.tdma.specs.Word.{IsAt}
use Rattle.tdma.specs.declared.round.SlotPlace.{SlotPlace}
use Rattle.tdma.proofs.Places.{one_place}
use Rattle.timetable.specs.Keys.{arrivals_in}
use Rattle.timetable.proofs.Few.{of_cycle}
use Rattle.net_run.specs.NetRun.{Execution}
use Rattle.cluster_model.specs.Plan.{Plan}
use Rattle.cluster_model.specs.PlanOf.{plan_of}
use Rattle.cluster_model.specs.Effects.{taking, is_for, frame_effects, take_effects}
use Rattle.tick_parts.specs.OnBus.{IsBusOf, bus_on}
use Rattle.tick_parts.proofs.Arrivals.{bus_on_is, count, is_due}
use Rattle.tick_parts.proofs.Lists.{flat_none, flat_one}
use Rattle.tick_parts.proofs.OwnSlots.{whole_rounds}

-- the bus of a net's cycle is a layout
pub layout_is : (net : Net) (g : JobGraph) → IsNetGraph net g → IsLayout (bus_of net g)
layout_is net g n =
    let shape = n.is.rules.entry_rules.shape in
    record {
      some_unit = shape.units.0;
      few_units = shape.units.1;
      some_words = shape.slot_words.0;
      few_words = shape.slot_words.1;
      some_idle = shape.precision.0;
      few_idle = shape.precision.1;
      fits = shape.fits;
      cycle = (let whole = whole_rounds net g n in let few = n.is.graph.limits.ticks in omega (arith, whole, few));
    }

-- the last word of a frame, before it may be used
last_word : (l : Layout) (k v : ℕ) → IsLayout l → k < l.rounds → v < l.units → IsAt l (usable_of l k v - 1 - l.precision) (record { round = k; unit = v; side = B; word = l.slot_words - 1 })
last_word l k v lay low u =
    let some = lay.some_words in
    record { inside = record { round = low; unit = u; word = omega (arith, some) }; tick_is = omega (arith, some) }

-- at most one frame may be used from a tick on
pub one_frame : (l : Layout) (k v n w : ℕ) → IsLayout l → k < l.rounds → v < l.units → n < l.rounds → w < l.units → usable_of l k v ≡ usable_of l n w → (k ≡ n) × (v ≡ w)
one_frame l k v n w lay lk lv ln lw e =
    let p = one_place l (usable_of l n w - 1 - l.precision) (record { round = n; unit = w; side = B; word = l.slot_words - 1 }) (record { round = k; unit = v; side = B; word = l.slot_words - 1 }) lay
    (last_word l n w lay ln lw)
    (subst (λ x. IsAt l (x - 1 - l.precision) (record { round = k; unit = v; side = B; word = l.slot_words - 1 })) e (last_word l k v lay lk lv)) in
    (ap (λ (p : SlotPlace). p.round) p, ap (λ (p : SlotPlace). p.unit) p)

first_false : (a b : Bool) → a ≡ false → (a && b) ≡ false
first_false a b e = rw e refl

second_false : (a b : Bool) → b ≡ false → (a && b) ≡ false
second_false true b e = e
second_false false b e = refl

both_true : (a b : Bool) → a ≡ true → b ≡ true → (a && b) ≡ true
both_true a b ea eb = rw (ea, eb) refl

bool_cases : (b : Bool) (P : Bool → Type 0) → (b ≡ true → P true) → (b ≡ false → P false) → P b
bool_cases true P t f = t refl
bool_cases false P t f = f refl

module _ (net : Net) (g : JobGraph) (t : Tables) (n : IsNetGraph net g) (v : AreValid net g t) (unit : ℕ) (a : Agenda) (is : a ≡ arrivals_in net g t unit) (tick : ℕ) (low_tick : tick < g.cycle)
    (b : BusState) (bus : IsBusOf (bus_of net g) b) (words : List ℕ) (exec : Execution) (cost : ℕ → List ℤ → List ℤ → ℕ) where
  abbrev plan : Plan
  plan = plan_of net g t words exec cost

  -- a message for the unit in a frame that may be used from the tick on is due
  due_if : (from round m : ℕ) → m < length t.messages → usable_of (bus_of net g) round from ≡ tick → is_for (plan_of net g t words exec cost) unit from round m ≡ true → get_or a.due m 0 ≡ tick
  due_if from round m low usable e =
      let mm = message_at t m in
      let p = and_parts (nat_eq mm.unit from && nat_eq mm.round round) (nat_eq (consumer_in net g t mm.edge mm.instance).unit unit) e in
      let q = and_parts (nat_eq mm.unit from) (nat_eq mm.round round) p.0 in
      let from_then : usable_of (bus_of net g) mm.round mm.unit ≡ tick =
      ap (λ k. usable_of (bus_of net g) k mm.unit) (eqb-true mm.round round q.1) ∙ ap (usable_of (bus_of net g) round) (eqb-true mm.unit from q.0) ∙ usable in
      eqb-true (get_or a.due m 0) tick (is_due net g t n v unit a is tick low_tick m low ∙ both_true (nat_eq (consumer_in net g t mm.edge mm.instance).unit unit) (nat_eq (usable_of (bus_of net g) mm.round mm.unit) tick) p.1 (eq-eqb (usable_of (bus_of net g) mm.round mm.unit) tick from_then))

  nothing_of : (from round : ℕ) → (nat_eq (usable_of (bus_of net g) round from) tick && list_any (is_for (plan_of net g t words exec cost) unit from round) (range_with_len 0 (length t.messages))) ≡ false
      → frame_effects (plan_of net g t words exec cost) (bus_on b) unit tick from round ≡ []
  nothing_of from round e =
      ap (λ (x : Bool). if x then taking (plan_of net g t words exec cost) from round (whole (bus_on b from A round)) (whole (bus_on b from B round)) ∷ [] else []) e

  -- where none is due, nothing is seen
  pub shows_nothing : FirstFrom a.due 0 tick None → take_effects (plan_of net g t words exec cost) (bus_on b) unit tick ≡ []
  shows_nothing none =
      flat_none (λ from. flat_map (frame_effects (plan_of net g t words exec cost) (bus_on b) unit tick from) (range_with_len 0 (bus_of net g).rounds)) 0 net.shape.units
      (λ from f0 f1. flat_none (frame_effects (plan_of net g t words exec cost) (bus_on b) unit tick from) 0 (bus_of net g).rounds (λ round r0 r1. nothing_of from round (elim (cases_eq (usable_of (bus_of net g) round from) tick) [
        | inl same ↦ second_false (nat_eq (usable_of (bus_of net g) round from) tick) (list_any (is_for (plan_of net g t words exec cost) unit from round) (range_with_len 0 (length t.messages)))
            (list_any_none (is_for (plan_of net g t words exec cost) unit from round) (range_with_len 0 (length t.messages)) (λ k d low. none_at from round same (get_or (range_with_len 0 (length t.messages)) k d)
            (let few : k < length t.messages = omega (arith, low, length-range_with_len 0 (length t.messages)) in omega (arith, few, get_or-range_with_len 0 (length t.messages) k d few))))
        | inr differ ↦ first_false (nat_eq (usable_of (bus_of net g) round from) tick) (list_any (is_for (plan_of net g t words exec cost) unit from round) (range_with_len 0 (length t.messages))) (ne_eqb (usable_of (bus_of net g) round from) tick differ)
      ])))
    where
      none_at : (from round : ℕ) → usable_of (bus_of net g) round from ≡ tick → (m : ℕ) → m < length t.messages → is_for (plan_of net g t words exec cost) unit from round m ≡ false
      none_at from round same m low = bool_cases (is_for (plan_of net g t words exec cost) unit from round m) (λ x. x ≡ false)
          (λ e. absurd (none m (omega arith) (record { within = omega (arith, low, count net g t n v unit a is); at = due_if from round m low same e })))
          (λ e. refl)

  -- the frame of a message that is due is seen, and no other
  pub shows_one : (m : ℕ) → IsDue a.due tick m → take_effects (plan_of net g t words exec cost) (bus_on b) unit tick
      ≡ taking (plan_of net g t words exec cost) (message_at t m).unit (message_at t m).round (whole (slot_of b (message_at t m).round (message_at t m).unit A)) (whole (slot_of b (message_at t m).round (message_at t m).unit B)) ∷ []
  shows_one m due =
      let mm = message_at t m in
      let w = due.within in
      let low : m < length t.messages = omega (arith, w, count net g t n v unit a is) in
      let here = of_cycle net g t m n v low in
      let parts = and_parts (nat_eq (consumer_in net g t mm.edge mm.instance).unit unit) (nat_eq (usable_of (bus_of net g) mm.round mm.unit) tick) (sym (is_due net g t n v unit a is tick low_tick m low) ∙ eq-eqb (get_or a.due m 0) tick due.at) in
      let usable : usable_of (bus_of net g) mm.round mm.unit ≡ tick = eqb-true (usable_of (bus_of net g) mm.round mm.unit) tick parts.1 in
      let lay = layout_is net g n in
      let other : (from round : ℕ) → from < net.shape.units → round < (bus_of net g).rounds → ((round ≡ mm.round) × (from ≡ mm.unit) → ⊥) → frame_effects (plan_of net g t words exec cost) (bus_on b) unit tick from round ≡ [] =
      λ from round f r differ. nothing_of from round (first_false (nat_eq (usable_of (bus_of net g) round from) tick) (list_any (is_for (plan_of net g t words exec cost) unit from round) (range_with_len 0 (length t.messages)))
      (ne_eqb (usable_of (bus_of net g) round from) tick (λ e. differ (one_frame (bus_of net g) round from mm.round mm.unit lay r f here.round here.unit (e ∙ sym usable))))) in
      let is_mine : is_for (plan_of net g t words exec cost) unit mm.unit mm.round m ≡ true =
      both_true (nat_eq mm.unit mm.unit && nat_eq mm.round mm.round) (nat_eq (consumer_in net g t mm.edge mm.instance).unit unit)
      (both_true (nat_eq mm.unit mm.unit) (nat_eq mm.round mm.round) (eq-eqb mm.unit mm.unit refl) (eq-eqb mm.round mm.round refl)) parts.0 in
      let some : list_any (is_for (plan_of net g t words exec cost) unit mm.unit mm.round) (range_with_len 0 (length t.messages)) ≡ true =
      list_any_at (is_for (plan_of net g t words exec cost) unit mm.unit mm.round) (range_with_len 0 (length t.messages)) m 0 (omega (arith, low, length-range_with_len 0 (length t.messages)))
      (ap (is_for (plan_of net g t words exec cost) unit mm.unit mm.round) (get_or-range_with_len 0 (length t.messages) m 0 low ∙ (let z : 0 + m ≡ m = omega arith in z)) ∙ is_mine) in
      flat_one (λ from. flat_map (frame_effects (plan_of net g t words exec cost) (bus_on b) unit tick from) (range_with_len 0 (bus_of net g).rounds)) 0 net.shape.units mm.unit (omega arith) (let u = here.unit in omega (arith, u))
      (λ from f0 f1 differ. flat_none (frame_effects (plan_of net g t words exec cost) (bus_on b) unit tick from) 0 (bus_of net g).rounds
      (λ round r0 r1. other from round (omega (arith, f1)) (omega (arith, r1)) (λ w. differ w.1)))
      ∙ flat_one (frame_effects (plan_of net g t words exec cost) (bus_on b) unit tick mm.unit) 0 (bus_of net g).rounds mm.round (omega arith) (let r = here.round in omega (arith, r))
      (λ round r0 r1 differ. other mm.unit round here.unit (omega (arith, r1)) (λ w. differ w.0))
      ∙ ap (λ (x : Bool). if x then taking (plan_of net g t words exec cost) mm.unit mm.round (whole (bus_on b mm.unit A mm.round)) (whole (bus_on b mm.unit B mm.round)) ∷ [] else [])
      (both_true (nat_eq (usable_of (bus_of net g) mm.round mm.unit) tick) (list_any (is_for (plan_of net g t words exec cost) unit mm.unit mm.round) (range_with_len 0 (length t.messages))) parts.1 some)
      ∙ (let layout = bus.layout in
      let u : mm.unit < b.layout.units = subst (λ (l : Layout). mm.unit < l.units) (sym layout) here.unit in
      let r : mm.round < b.layout.rounds = subst (λ (l : Layout). mm.round < l.rounds) (sym layout) here.round in
      ap (λ (s : SlotState). taking (plan_of net g t words exec cost) mm.unit mm.round (whole s) (whole (bus_on b mm.unit B mm.round)) ∷ []) (bus_on_is b mm.unit A mm.round u r)
      ∙ ap (λ (s : SlotState). taking (plan_of net g t words exec cost) mm.unit mm.round (whole (slot_of b mm.round mm.unit A)) (whole s) ∷ []) (bus_on_is b mm.unit B mm.round u r))

pub first_due : (due : List ℕ) (tick : ℕ) (o : Option ℕ) (m : ℕ) → o ≡ Some m → FirstFrom due 0 tick o → IsDue due tick m
first_due due tick o m e first = let f : FirstFrom due 0 tick (Some m) = subst (λ (o : Option ℕ). FirstFrom due 0 tick o) e first in f.is_due
