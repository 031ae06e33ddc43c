-- The messages that a unit takes at a tick.
use Rattle.std.proofs.Common.{◌≡◌, ℕ, ◌+◌, ◌<◌, ◌≤◌, List, [], length, drop, get_or, ℤ, Option, None, Some, Bool, true, false, cond, refl, sym, ◌∙◌, ap, subst, arith, length-drop}
use Rattle.std.specs.Prelude.{◌==◌, ◌&&◌, nat_eq, if◌then◌else◌, pos}
use Rattle.std.specs.Ordering.{int_eq}
use Rattle.std.proofs.lemmas.Bool.{ne_eqb, lt-ltb}
use Rattle.std.proofs.lemmas.List.{get_or-map, length-map, length-take-le, ext_get_or}
use Rattle.mars_base.specs.declared.shape.Side.{Side}
use Rattle.mars_base.specs.declared.shape.Side.TheVariants.{A, B}
use Rattle.bus.specs.Numbers.{BusState, slot_number, slot_of}
use Rattle.bus.specs.SlotState.{SlotState, Open, Sending, Whole, Cut, slot_at, whole}
use Rattle.agenda.specs.Due.{Agenda}
use Rattle.graph.specs.JobGraph.{JobGraph}
use Rattle.graph.specs.Net.{width_of}
use Rattle.graph.specs.NetGraph.{IsNetGraph}
use Rattle.graph.specs.declared.net.Net.{Net}
use Rattle.tables.specs.Named.{no_message, edge_at, message_at, consumer_in}
use Rattle.tables.specs.Valid.{AreValid, bus_of}
use Rattle.tables.specs.declared.rule.TableRule.TheVariants as rule
use Rattle.tables.specs.declared.table.Message.{Message}
use Rattle.tables.specs.declared.table.Tables.{Tables}
use Rattle.tdma.specs.Layout.{Layout, usable_of}
use Rattle.timetable.specs.Keys.{arrival_of, arrivals_in}
use Rattle.timetable.proofs.Few.{of_cycle}
use Rattle.net_run.specs.NetRun.{Execution}
use Rattle.net_run.specs.Words.{part, with_words}
use Rattle.replica_parts.specs.Inbox.{Taken, taken_at, HasFullFrames, GoesIn, frame_on, said_on}
use Rattle.job_inputs.specs.Look.{IsInboxOf}
use Rattle.cluster_model.specs.Frame.{message_in}
use Rattle.cluster_model.specs.Plan.{Plan, listed}
use Rattle.cluster_model.specs.PlanOf.{plan_of}
use Rattle.cluster_model.specs.State.{Held}
use Rattle.cluster_model.specs.Tick.{a_or_b, received, took}
use Rattle.tick_parts.specs.OnBus.{IsBusOf, slots_on, bus_on}
use Rattle.tick_parts.specs.Takes.{AreWidths}
use Rattle.tick_parts.proofs.Lists.{listed_at, length_listed}

-- the model's bus shows each slot
pub bus_on_is : (b : BusState) (unit : ℕ) (side : Side) (round : ℕ) → unit < b.layout.units → round < b.layout.rounds → bus_on b unit side round ≡ slot_of b round unit side
bus_on_is b unit side round u low =
    ap (λ (t : Bool). slot_at (cond t (slots_on b unit side) []) round) (lt-ltb unit b.layout.units u)
    ∙ listed_at b.layout.rounds (λ round. slot_of b round unit side) round Open low

-- a frame that comes has all its words
whole_is : (s : SlotState) (w : List ℤ) → whole s ≡ Some w → s ≡ Whole w
whole_is Open w e = absurd (let clash : ⊥ = cc in clash)
whole_is (Sending ws) w e = absurd (let clash : ⊥ = cc in clash)
whole_is (Whole ws) w e = let same : ws ≡ w = cc in ap (λ (x : List ℤ). Whole x) same
whole_is (Cut ws) w e = absurd (let clash : ⊥ = cc in clash)

frame_full : (b : BusState) (unit round : ℕ) (frame : List ℤ) → HasFullFrames b → frame_on b unit round ≡ Some frame → length frame ≡ b.layout.slot_words
frame_full b unit round frame full e = by (whole (slot_of b round unit A)) refl e
  where
    by : (o : Option (List ℤ)) → whole (slot_of b round unit A) ≡ o → a_or_b o (whole (slot_of b round unit B)) ≡ Some frame → length frame ≡ b.layout.slot_words
    by None is h = full (slot_number b.layout round unit B) frame (whole_is (slot_of b round unit B) frame h)
    by (Some w) is h = let same : w ≡ frame = cc in full (slot_number b.layout round unit A) frame (whole_is (slot_of b round unit A) frame (is ∙ ap (λ (x : List ℤ). Some x) same))

-- what a message says there is as long as it is wide
message_wide : (offset width : ℕ) (frame words : List ℤ) → offset + 1 + width ≤ length frame → message_in offset width frame ≡ Some words → length words ≡ width
message_wide offset width frame words fits e = by (int_eq (get_or frame offset (pos 0)) (pos 1)) e
  where
    by : (t : Bool) → (if t then Some (part (offset + 1) width frame) else None) ≡ Some words → length words ≡ width
    by true h = let same : part (offset + 1) width frame ≡ words = cc in ap length (sym same) ∙ length-take-le width (drop (offset + 1) frame) (omega (arith, length-drop (offset + 1) frame, fits))
    by false h = absurd (let clash : ⊥ = cc in clash)

pub said_wide : (b : BusState) (width : ℕ) (m : Message) (words : List ℤ) → HasFullFrames b → GoesIn b.layout width m → said_on b width m ≡ Some words → length words ≡ width
said_wide b width m words full goes e = by (frame_on b m.unit m.round) refl e
  where
    by : (o : Option (List ℤ)) → frame_on b m.unit m.round ≡ o → with_words o (λ frame. message_in m.offset width frame) ≡ Some words → length words ≡ width
    by None is h = absurd (let clash : ⊥ = cc in clash)
    by (Some frame) is h = let fits = goes.fits in message_wide m.offset width frame words (omega (arith, fits, frame_full b m.unit m.round frame full is)) h

module _ (net : Net) (g : JobGraph) (t : Tables) (n : IsNetGraph net g) (v : AreValid net g t) (unit : ℕ) (a : Agenda) (is : a ≡ arrivals_in net g t unit) where
  pub due_is : (place : ℕ) → place < length t.messages → get_or a.due place 0 ≡ arrival_of net g t unit (message_at t place)
  due_is place within = ap (λ (x : Agenda). get_or x.due place 0) is ∙ get_or-map (arrival_of net g t unit) t.messages place no_message 0 within

  pub count : length a.due ≡ length t.messages
  count = ap (λ (x : Agenda). length x.due) is ∙ length-map {B = ℕ} t.messages (arrival_of net g t unit)

  -- a message goes in a frame
  pub goes : (b : BusState) (widths : List ℕ) → b.layout ≡ bus_of net g → AreWidths net t widths → (place : ℕ) → place < length t.messages → GoesIn b.layout (get_or widths place 0) (get_or t.messages place no_message)
  goes b widths e w place low =
      let here = of_cycle net g t place n v low in
      let fits = (v rule.Frames).fits place low in
      let wide = w place low in
      subst (λ (l : Layout). GoesIn l (get_or widths place 0) (message_at t place)) (sym e)
      (record { round = here.round; unit = here.unit; fits = omega (arith, fits, wide) })

  module _ (tick : ℕ) (low_tick : tick < g.cycle) where
    -- it is due exactly where it is for the unit and its frame may be used from the tick on
    tests_same : (b : Bool) (usable : ℕ) → ((if b then usable else g.cycle) == tick) ≡ (b && nat_eq usable tick)
    tests_same true usable = refl
    tests_same false usable = ne_eqb g.cycle tick (λ e. omega (arith, e, low_tick))

    pub is_due : (place : ℕ) → place < length t.messages → (get_or a.due place 0 == tick)
        ≡ (nat_eq (consumer_in net g t (message_at t place).edge (message_at t place).instance).unit unit && nat_eq (usable_of (bus_of net g) (message_at t place).round (message_at t place).unit) tick)
    is_due place within =
        ap (λ x. x == tick) (due_is place within)
        ∙ tests_same ((consumer_in net g t (message_at t place).edge (message_at t place).instance).unit == unit) (usable_of (bus_of net g) (message_at t place).round (message_at t place).unit)

    module _ (b : BusState) (bus : IsBusOf (bus_of net g) b) (old new : Taken) (box : IsInboxOf net t old) (w : AreWidths net t old.widths)
        (size : length new.words ≡ length old.words)
        (took_now : (place : ℕ) → place < length t.messages → taken_at new place ≡ (if get_or a.due place 0 == tick then said_on b (get_or old.widths place 0) (get_or t.messages place no_message) else taken_at old place)) where
      -- the inbox after the tick
      pub inbox_after : IsInboxOf net t new
      inbox_after = record {
        count = size ∙ box.count;
        widths = λ place words low e. by place low words (get_or a.due place 0 == tick) (sym (took_now place low) ∙ e);
      }
        where
          by : (place : ℕ) → place < length t.messages → (words : List ℤ) → (due : Bool) → (if due then said_on b (get_or old.widths place 0) (get_or t.messages place no_message) else taken_at old place) ≡ Some words
              → length words ≡ width_of net (edge_at net (message_at t place).edge)
          by place low words true h = said_wide b (get_or old.widths place 0) (message_at t place) words bus.frames (goes b old.widths bus.layout w place low) h ∙ w place low
          by place low words false h = box.widths place words low h

      module _ (words : List ℕ) (exec : Execution) (cost : ℕ → List ℤ → List ℤ → ℕ) (h : Held) (clock : h.clock ≡ tick) (held : h.taken ≡ old.words) where
        abbrev plan : Plan
        plan = plan_of net g t words exec cost

        frame_is : (place : ℕ) → place < length t.messages → frame_on b (message_at t place).unit (message_at t place).round ≡ received (plan_of net g t words exec cost) (bus_on b) (message_at t place).unit (message_at t place).round
        frame_is place low =
            let here = goes b old.widths bus.layout w place low in
            ap (λ (s : SlotState). a_or_b (whole s) (whole (slot_of b (message_at t place).round (message_at t place).unit B))) (sym (bus_on_is b (message_at t place).unit A (message_at t place).round here.unit here.round))
            ∙ ap (λ (s : SlotState). a_or_b (whole (bus_on b (message_at t place).unit A (message_at t place).round)) (whole s)) (sym (bus_on_is b (message_at t place).unit B (message_at t place).round here.unit here.round))

        at : (place : ℕ) → place < length t.messages → taken_at new place ≡ took (plan_of net g t words exec cost) (bus_on b) unit h place
        at place low =
            took_now place low
            ∙ ap (λ (x : Bool). if x then said_on b (get_or old.widths place 0) (message_at t place) else taken_at old place) (is_due place low)
            ∙ ap (λ width. if (nat_eq (consumer_in net g t (message_at t place).edge (message_at t place).instance).unit unit && nat_eq (usable_of (bus_of net g) (message_at t place).round (message_at t place).unit) tick)
            then said_on b width (message_at t place) else taken_at old place) (w place low)
            ∙ ap (λ (o : Option (List ℤ)). if (nat_eq (consumer_in net g t (message_at t place).edge (message_at t place).instance).unit unit && nat_eq (usable_of (bus_of net g) (message_at t place).round (message_at t place).unit) tick)
            then with_words o (λ frame. message_in (message_at t place).offset (width_of net (edge_at net (message_at t place).edge)) frame) else taken_at old place) (frame_is place low)
            ∙ ap (λ x. if (nat_eq (consumer_in net g t (message_at t place).edge (message_at t place).instance).unit unit && nat_eq (usable_of (bus_of net g) (message_at t place).round (message_at t place).unit) x)
            then with_words (received (plan_of net g t words exec cost) (bus_on b) (message_at t place).unit (message_at t place).round) (λ frame. message_in (message_at t place).offset (width_of net (edge_at net (message_at t place).edge)) frame) else taken_at old place) (sym clock)
            ∙ ap (λ (ws : List (Option (List ℤ))). if (nat_eq (consumer_in net g t (message_at t place).edge (message_at t place).instance).unit unit && nat_eq (usable_of (bus_of net g) (message_at t place).round (message_at t place).unit) h.clock)
            then with_words (received (plan_of net g t words exec cost) (bus_on b) (message_at t place).unit (message_at t place).round) (λ frame. message_in (message_at t place).offset (width_of net (edge_at net (message_at t place).edge)) frame) else get_or ws place None) (sym held)

        -- all that the model's replica takes
        pub taken_after : new.words ≡ listed (length t.messages) (took (plan_of net g t words exec cost) (bus_on b) unit h)
        taken_after = ext_get_or None new.words (listed (length t.messages) (took (plan_of net g t words exec cost) (bus_on b) unit h))
            (size ∙ box.count ∙ sym (length_listed (length t.messages) (took (plan_of net g t words exec cost) (bus_on b) unit h)))
            (λ place low. at place (omega (arith, low, size, box.count))
            ∙ sym (listed_at (length t.messages) (took (plan_of net g t words exec cost) (bus_on b) unit h) place None (omega (arith, low, size, box.count))))
