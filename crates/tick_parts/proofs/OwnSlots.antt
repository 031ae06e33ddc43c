-- The slots of a unit's side at a tick.
use Rattle.std.proofs.Common.{◌≡◌, ℕ, ◌+◌, ◌-◌, ◌*◌, ◌/◌, ◌%◌, ◌<◌, ◌≤◌, inl, inr, List, [], ◌∷◌, ◌++◌, length, set, ℤ, Option, None, Some, Bool, true, false, cond, refl, sym, ◌∙◌, ap, subst, arith}
use Rattle.std.specs.Prelude.{◌&&◌, nat_le, nat_lt, if◌then◌else◌, IfNone}
use Rattle.std.specs.List.{range_with_len, flat_map}
use Rattle.std.proofs.lemmas.Bool.{cases_eq, cases_lt, le-leb, lt-leb, lt-ltb, le-ltb, eq-eqb, ne_eqb}
use Rattle.std.proofs.lemmas.List.{get_or-set_other, get_or-set_same}
use Rattle.std.proofs.lemmas.Nat.{div-mul-add, mod-mul-add, div-add-mod'}
use mathlib.Core.Path.{fun_ext}
use Rattle.mars_base.specs.declared.shape.Side.{Side}
use Rattle.mars_base.specs.declared.shape.Side.TheVariants.{A, B}
use Rattle.bus.specs.Numbers.{BusState, slot_number, slot_of, slot_count}
use Rattle.bus.proofs.Below.{number_below}
use Rattle.bus.specs.SlotState.{SlotState, Open, Sending, Whole, Cut, slot_at, sent, put}
use Rattle.tdma.specs.Layout.{Layout, slot_start_of, side_number, cycle_ticks}
use Rattle.tables.specs.Valid.{bus_of}
use Rattle.tdma.specs.Word.{IsAt, IsIdle, IsAlone}
use Rattle.tdma.specs.declared.round.SlotPlace.{SlotPlace}
use Rattle.graph.specs.JobGraph.{JobGraph}
use Rattle.graph.specs.Jobs.{job_number}
use Rattle.graph.specs.NetGraph.{IsNetGraph}
use Rattle.graph.specs.declared.net.Net.{Net}
use Rattle.tables.specs.Named.{message_at}
use Rattle.tables.specs.declared.table.Tables.{Tables}
use Rattle.net_run.specs.NetRun.{Execution}
use Rattle.net_run.specs.Words.{carried}
use Rattle.job_book.specs.Known.{Book}
use Rattle.replica_parts.specs.Inbox.{HasFullFrames}
use Rattle.carried_words.specs.Says.{said_in}
use Rattle.cluster_model.specs.Plan.{Plan, listed}
use Rattle.cluster_model.specs.PlanOf.{plan_of}
use Rattle.cluster_model.specs.State.{Held, status_in}
use Rattle.cluster_model.specs.Tick.{fed, slots_after}
use Rattle.cluster_model.specs.Frame.{word_from}
use Rattle.cluster_model.specs.Effects.{put_effects}
use Rattle.cluster_model.specs.declared.effect.Effect.{Effect}
use Rattle.cluster_model.specs.declared.effect.Effect.TheVariants as effect
use Rattle.tick_parts.specs.OnBus.{slots_on, IsInSlot, IsOwn, OwnPlace}
use Rattle.tick_parts.specs.Tells.{Tells}
use Rattle.tick_parts.proofs.Lists.{listed_at, listed_same, flat_none, flat_one}

-- a place that is the tick's, and one of a slot in which the tick is
in_slot : (l : Layout) (unit : ℕ) (side : Side) (tick round : ℕ) → unit < l.units → round < l.rounds → IsInSlot l unit side tick round
    → IsAt l tick (record { round = round; unit = unit; side = side; word = tick - slot_start_of l round unit side })
in_slot l unit side tick round u low is = let f = is.from in let t = is.to in record { inside = record { round = low; unit = u; word = omega (arith, f, t) }; tick_is = omega (arith, f) }

-- the place of the tick's word is the unit's side's
pub is_own : (l : Layout) (unit : ℕ) (side : Side) (tick : ℕ) (place : SlotPlace) → unit < l.units → IsAt l tick place → IsAlone l tick place → place.unit ≡ unit → place.side ≡ side → OwnPlace l unit side tick (Some place)
is_own l unit side tick place u at alone same_unit same_side = record {
  unit_is = same_unit;
  side_is = same_side;
  round = at.inside.round;
  word = at.inside.word;
  tick_is = ap (λ v. slot_start_of l place.round v side + place.word) (sym same_unit) ∙ ap (λ (x : Side). slot_start_of l place.round place.unit x + place.word) (sym same_side) ∙ at.tick_is;
  only = λ round low is. ap (λ (p : SlotPlace). p.round) (alone (record { round = round; unit = unit; side = side; word = tick - slot_start_of l round unit side }) (in_slot l unit side tick round u low is));
}

-- another's
pub other_unit : (l : Layout) (unit : ℕ) (side : Side) (tick : ℕ) (place : SlotPlace) → unit < l.units → IsAlone l tick place → (place.unit ≡ unit → place.side ≡ side → ⊥) → OwnPlace l unit side tick None
other_unit l unit side tick place u alone differ round low is =
    let e = alone (record { round = round; unit = unit; side = side; word = tick - slot_start_of l round unit side }) (in_slot l unit side tick round u low is) in
    differ (sym (ap (λ (p : SlotPlace). p.unit) e)) (sym (ap (λ (p : SlotPlace). p.side) e))

-- nobody's
pub is_idle : (l : Layout) (unit : ℕ) (side : Side) (tick : ℕ) → unit < l.units → IsIdle l tick → OwnPlace l unit side tick None
is_idle l unit side tick u idle round low is =
    let at = in_slot l unit side tick round u low is in
    idle (record { round = round; unit = unit; side = side; word = tick - slot_start_of l round unit side }) at.inside at.tick_is

both_true : (a b : Bool) → a ≡ true → b ≡ true → (a && b) ≡ true
both_true a b ea eb = rw (ea, eb) refl

first_false : (a b : Bool) → a ≡ false → (a && b) ≡ false
first_false a b e = rw e refl

second_false : (a b : Bool) → b ≡ false → (a && b) ≡ false
second_false true b e = e
second_false false b e = refl

-- the test that the tick is one of the words' of a slot
abbrev pub tests : (start words tick : ℕ) → Bool
tests start words tick = nat_le start tick && nat_lt tick (start + words)

pub tests_true : (start words tick : ℕ) → start ≤ tick → tick < start + words → tests start words tick ≡ true
tests_true start words tick a b = both_true (nat_le start tick) (nat_lt tick (start + words)) (le-leb start tick a) (lt-ltb tick (start + words) b)

pub tests_false : (start words tick : ℕ) → (start ≤ tick → tick < start + words → ⊥) → tests start words tick ≡ false
tests_false start words tick no_word = elim (cases_lt tick start) [
  | inl before ↦ first_false (nat_le start tick) (nat_lt tick (start + words)) (lt-leb start tick before)
  | inr since ↦ elim (cases_lt tick (start + words)) [
    | inl amid ↦ absurd (no_word since amid)
    | inr past ↦ second_false (nat_le start tick) (nat_lt tick (start + words)) (le-ltb tick (start + words) past)
  ]
]

-- two slots of one number are one
side_less : (x : Side) → side_number x < 2
side_less A = omega arith
side_less B = omega arith

side_same : (x y : Side) → side_number x ≡ side_number y → x ≡ y
side_same A A e = refl
side_same A B e = absurd (omega (arith, e))
side_same B A e = absurd (omega (arith, e))
side_same B B e = refl

by_row : (k n w u v : ℕ) → u < w → v < w → k * w + u ≡ n * w + v → (k ≡ n) × (u ≡ v)
by_row k n w u v lu lv e =
    (sym (div-mul-add k w u lu) ∙ ap (λ x. x / w) e ∙ div-mul-add n w v lv, sym (mod-mul-add k w u lu) ∙ ap (λ x. x % w) e ∙ mod-mul-add n w v lv)

pub one_slot : (l : Layout) (k u : ℕ) (x : Side) (n v : ℕ) (y : Side) → u < l.units → v < l.units → slot_number l k u x ≡ slot_number l n v y → (k ≡ n) × (u ≡ v) × (x ≡ y)
one_slot l k u x n v y lu lv e =
    let a = side_less x in
    let b = side_less y in
    let s : side_number x ≡ side_number y = omega (arith, e, a, b) in
    let r : k * l.units + u ≡ n * l.units + v = omega (arith, e, s) in
    let w = by_row k n l.units u v lu lv r in
    (w.0, w.1, side_same x y s)

-- a slot that is whole with its last word has all its words
sent_whole : (w : ℕ) (xs words : List ℤ) → sent w xs ≡ Whole words → length words ≡ w
sent_whole w xs words e = elim (cases_eq (length xs) w) [
  | inl full ↦
      let is : Whole xs ≡ Whole words = sym (ap (λ (b : Bool). if b then Whole xs else Sending xs) (eq-eqb (length xs) w full)) ∙ e in
      let same : xs ≡ words = cc in
      ap length (sym same) ∙ full
  | inr short ↦
      let is : Sending xs ≡ Whole words = sym (ap (λ (b : Bool). if b then Whole xs else Sending xs) (ne_eqb (length xs) w short)) ∙ e in
      absurd (let clash : ⊥ = cc in clash)
]

put_whole : (w : ℕ) (s : SlotState) (word : ℤ) (words : List ℤ) → ((ws : List ℤ) → s ≡ Whole ws → length ws ≡ w) → put w s word ≡ Whole words → length words ≡ w
put_whole w Open word words h e = sent_whole w (word ∷ []) words e
put_whole w (Sending xs) word words h e = sent_whole w (xs ++ word ∷ []) words e
put_whole w (Whole xs) word words h e = let same : xs ≡ words = cc in ap length (sym same) ∙ h xs refl
put_whole w (Cut xs) word words h e = absurd (let clash : ⊥ = cc in clash)

module _ (b new : BusState) (unit : ℕ) (side : Side) (tick : ℕ) (place : SlotPlace) (word : ℤ)
    (u : unit < b.layout.units) (count : length b.slots ≡ slot_count b.layout) (layout : new.layout ≡ b.layout) (own : IsOwn b.layout unit side tick place)
    (slots : new.slots ≡ set b.slots (slot_number b.layout place.round place.unit place.side) (put b.layout.slot_words (slot_of b place.round place.unit place.side) word)) where
  slots_are : new.slots ≡ set b.slots (slot_number b.layout place.round unit side) (put b.layout.slot_words (slot_of b place.round unit side) word)
  slots_are =
      slots
      ∙ ap (λ v. set b.slots (slot_number b.layout place.round v place.side) (put b.layout.slot_words (slot_of b place.round v place.side) word)) own.unit_is
      ∙ ap (λ (x : Side). set b.slots (slot_number b.layout place.round unit x) (put b.layout.slot_words (slot_of b place.round unit x) word)) own.side_is

  slots_new : (v : ℕ) (x : Side) → slots_on new v x ≡ listed b.layout.rounds (λ k. slot_at (set b.slots (slot_number b.layout place.round unit side) (put b.layout.slot_words (slot_of b place.round unit side) word)) (slot_number b.layout k v x))
  slots_new v x =
      ap (λ (l : Layout). listed l.rounds (λ k. slot_at new.slots (slot_number l k v x))) layout
      ∙ ap (λ (ss : List SlotState). listed b.layout.rounds (λ k. slot_at ss (slot_number b.layout k v x))) slots_are

  -- its own slots: the one of the place has one word more
  pub own_after : (said : (round index : ℕ) → ℤ) → word ≡ said place.round (tick - slot_start_of b.layout place.round unit side)
      → slots_on new unit side ≡ listed b.layout.rounds (λ k. cond (tests (slot_start_of b.layout k unit side) b.layout.slot_words tick)
      (put b.layout.slot_words (slot_at (slots_on b unit side) k) (said k (tick - slot_start_of b.layout k unit side)))
      (slot_at (slots_on b unit side) k))
  own_after said is = slots_new unit side ∙ listed_same b.layout.rounds _ _ at
    where
      at : (k : ℕ) → k < b.layout.rounds → slot_at (set b.slots (slot_number b.layout place.round unit side) (put b.layout.slot_words (slot_of b place.round unit side) word)) (slot_number b.layout k unit side)
          ≡ cond (tests (slot_start_of b.layout k unit side) b.layout.slot_words tick)
          (put b.layout.slot_words (slot_at (slots_on b unit side) k) (said k (tick - slot_start_of b.layout k unit side)))
          (slot_at (slots_on b unit side) k)
      at k low = elim (cases_eq k place.round) [
        | inl here ↦
            let lw = own.word in let t = own.tick_is in
            let yes_word = tests_true (slot_start_of b.layout place.round unit side) b.layout.slot_words tick (omega (arith, t)) (omega (arith, t, lw)) in
            subst (λ k. slot_at (set b.slots (slot_number b.layout place.round unit side) (put b.layout.slot_words (slot_of b place.round unit side) word)) (slot_number b.layout k unit side)
            ≡ cond (tests (slot_start_of b.layout k unit side) b.layout.slot_words tick)
            (put b.layout.slot_words (slot_at (slots_on b unit side) k) (said k (tick - slot_start_of b.layout k unit side)))
            (slot_at (slots_on b unit side) k)) (sym here)
            (get_or-set_same b.slots (slot_number b.layout place.round unit side) (put b.layout.slot_words (slot_of b place.round unit side) word) Open
            (let below = number_below b.layout place.round unit side own.round u in omega (arith, below, count))
            ∙ ap (put b.layout.slot_words (slot_of b place.round unit side)) is
            ∙ ap (λ (s : SlotState). put b.layout.slot_words s (said place.round (tick - slot_start_of b.layout place.round unit side)))
            (sym (listed_at b.layout.rounds (λ round. slot_of b round unit side) place.round Open own.round))
            ∙ sym (ap (λ (t : Bool). cond t
            (put b.layout.slot_words (slot_at (slots_on b unit side) place.round) (said place.round (tick - slot_start_of b.layout place.round unit side)))
            (slot_at (slots_on b unit side) place.round)) yes_word))
        | inr there ↦
            let not_word = tests_false (slot_start_of b.layout k unit side) b.layout.slot_words tick (λ from to. there (own.only k low (record { from = from; to = to }))) in
            get_or-set_other b.slots (slot_number b.layout place.round unit side) (slot_number b.layout k unit side) (put b.layout.slot_words (slot_of b place.round unit side) word) Open
            (λ e. there (one_slot b.layout k unit side place.round unit side u u e).0)
            ∙ sym (listed_at b.layout.rounds (λ round. slot_of b round unit side) k Open low)
            ∙ sym (ap (λ (t : Bool). cond t
            (put b.layout.slot_words (slot_at (slots_on b unit side) k) (said k (tick - slot_start_of b.layout k unit side)))
            (slot_at (slots_on b unit side) k)) not_word)
      ]

  -- the others' slots
  pub others_after : (v : ℕ) (x : Side) → v < b.layout.units → (v ≡ unit → x ≡ side → ⊥) → slots_on new v x ≡ slots_on b v x
  others_after v x lv differ = slots_new v x ∙ listed_same b.layout.rounds _ _
      (λ k low. get_or-set_other b.slots (slot_number b.layout place.round unit side) (slot_number b.layout k v x) (put b.layout.slot_words (slot_of b place.round unit side) word) Open
      (λ e. let w = one_slot b.layout k v x place.round unit side lv u e in differ w.1 w.2))

  -- each frame that is whole still has all its words
  pub full_after : HasFullFrames b → HasFullFrames new
  full_after full n words e = elim (cases_eq n (slot_number b.layout place.round unit side)) [
    | inl here ↦
        put_whole b.layout.slot_words (slot_of b place.round unit side) word words (λ ws is. full (slot_number b.layout place.round unit side) ws is)
        (sym (get_or-set_same b.slots (slot_number b.layout place.round unit side) (put b.layout.slot_words (slot_of b place.round unit side) word) Open
        (let below = number_below b.layout place.round unit side own.round u in omega (arith, below, count)))
        ∙ ap (slot_at (set b.slots (slot_number b.layout place.round unit side) (put b.layout.slot_words (slot_of b place.round unit side) word))) (sym here)
        ∙ ap (λ (ss : List SlotState). slot_at ss n) (sym slots_are) ∙ e)
        ∙ ap (λ (l : Layout). l.slot_words) (sym layout)
    | inr there ↦
        full n words
        (sym (get_or-set_other b.slots (slot_number b.layout place.round unit side) n (put b.layout.slot_words (slot_of b place.round unit side) word) Open there)
        ∙ ap (λ (ss : List SlotState). slot_at ss n) (sym slots_are) ∙ e)
        ∙ ap (λ (l : Layout). l.slot_words) (sym layout)
  ]

-- where the tick is in no slot of the unit's side, its slots stay
pub own_same : (b : BusState) (unit : ℕ) (side : Side) (tick : ℕ) (said : (round index : ℕ) → ℤ) → OwnPlace b.layout unit side tick None
    → slots_on b unit side ≡ listed b.layout.rounds (λ k. cond (tests (slot_start_of b.layout k unit side) b.layout.slot_words tick)
    (put b.layout.slot_words (slot_at (slots_on b unit side) k) (said k (tick - slot_start_of b.layout k unit side)))
    (slot_at (slots_on b unit side) k))
own_same b unit side tick said none = listed_same b.layout.rounds _ _
    (λ k low. sym (listed_at b.layout.rounds (λ round. slot_of b round unit side) k Open low)
    ∙ sym (ap (λ (t : Bool). cond t
    (put b.layout.slot_words (slot_at (slots_on b unit side) k) (said k (tick - slot_start_of b.layout k unit side)))
    (slot_at (slots_on b unit side) k))
    (tests_false (slot_start_of b.layout k unit side) b.layout.slot_words tick (λ from to. none k low (record { from = from; to = to })))))

-- what is shown of the word
module _ {X : Type 0} (l : Layout) (unit : ℕ) (side : Side) (tick : ℕ) (shown : (round : ℕ) → List X) where
  abbrev pub shown_at : (round : ℕ) → List X
  shown_at round = if tests (slot_start_of l round unit side) l.slot_words tick then shown round else []

  pub shows_none : OwnPlace l unit side tick None → flat_map shown_at (range_with_len 0 l.rounds) ≡ []
  shows_none none = flat_none shown_at 0 l.rounds
      (λ k from to. ap (λ (t : Bool). if t then shown k else [])
      (tests_false (slot_start_of l k unit side) l.slot_words tick (λ a b. none k (omega (arith, to)) (record { from = a; to = b }))))

  pub shows_one : (place : SlotPlace) → IsOwn l unit side tick place → flat_map shown_at (range_with_len 0 l.rounds) ≡ shown place.round
  shows_one place own =
      let lw = own.word in let t = own.tick_is in
      flat_one shown_at 0 l.rounds place.round (omega arith) (let r = own.round in omega (arith, r))
      (λ k from to other. ap (λ (t : Bool). if t then shown k else [])
      (tests_false (slot_start_of l k unit side) l.slot_words tick (λ a b. other (own.only k (omega (arith, to)) (record { from = a; to = b })))))
      ∙ ap (λ (t : Bool). if t then shown place.round else []) (tests_true (slot_start_of l place.round unit side) l.slot_words tick (omega (arith, t)) (omega (arith, t, lw)))

-- what the messages say by the book is what they say by what the replica holds
pub same_said : (net : Net) (g : JobGraph) (t : Tables) (book : Book) (words : List ℕ) (exec : Execution) (cost : ℕ → List ℤ → List ℤ → ℕ) (h : Held) → Tells book h
    → said_in net g.cycle t book ≡ (λ m. fed (plan_of net g t words exec cost) (status_in h) (message_at t m).edge (message_at t m).instance)
same_said net g t book words exec cost h tells =
    fun_ext (λ m. ap (λ (f : ℕ → Option (List ℤ)). carried net f (message_at t m).edge)
    (fun_ext (λ task. sym (tells (job_number net g.cycle task (message_at t m).instance)))))

-- a cycle is a whole number of rounds
pub whole_rounds : (net : Net) (g : JobGraph) → IsNetGraph net g → cycle_ticks (bus_of net g) ≡ g.cycle
whole_rounds net g n = let whole : g.cycle % net.shape.round ≡ 0 = n.is.graph.limits.is_cycle.common 0 0 (omega arith) in omega (arith, div-add-mod' g.cycle net.shape.round, whole)

module _ (net : Net) (g : JobGraph) (t : Tables) (words : List ℕ) (exec : Execution) (cost : ℕ → List ℤ → List ℤ → ℕ) (unit : ℕ) (side : Side) (tick : ℕ) (h : Held) (clock : h.clock ≡ tick) where
  abbrev pub plan : Plan
  plan = plan_of net g t words exec cost

  -- a word of the unit's frame of a round, by what the replica holds
  abbrev pub says : (round index : ℕ) → ℤ
  says round index = word_from net round unit (λ m. fed (plan_of net g t words exec cost) (status_in h) (message_at t m).edge (message_at t m).instance) index t.messages 0

  abbrev pub slots_by : (l : Layout) → (tick : ℕ) → (old : List SlotState) → List SlotState
  slots_by l tick old = listed l.rounds (λ k. cond (tests (slot_start_of l k unit side) l.slot_words tick) (put l.slot_words (slot_at old k) (says k (tick - slot_start_of l k unit side))) (slot_at old k))

  pub to_plan : (l : Layout) → l ≡ bus_of net g → (old new : List SlotState) → new ≡ slots_by l tick old → new ≡ slots_after plan unit side h old
  to_plan l e old new is = is ∙ ap (λ (l : Layout). slots_by l tick old) e ∙ ap (λ tick. slots_by (bus_of net g) tick old) (sym clock)

  -- the word that was put together
  pub said_word : (book : Book) → Tells book h → (l : Layout) (place : SlotPlace) → IsOwn l unit side tick place → (w : ℤ) → w ≡ word_from net place.round unit (said_in net g.cycle t book) place.word t.messages 0
      → w ≡ says place.round (tick - slot_start_of l place.round unit side)
  said_word book tells l place own w e =
      let at = own.tick_is in
      let index : place.word ≡ tick - slot_start_of l place.round unit side = omega (arith, at) in
      e ∙ ap (λ (said : ℕ → Option (List ℤ)). word_from net place.round unit said place.word t.messages 0) (same_said net g t book words exec cost h tells) ∙ ap (says place.round) index

  abbrev pub shown : (round : ℕ) → List Effect
  shown round = effect.Put (says round (h.clock - slot_start_of (bus_of net g) round unit side)) ∷ []

  pub puts_none : OwnPlace (bus_of net g) unit side tick None → put_effects plan unit side h ≡ []
  puts_none none = shows_none (bus_of net g) unit side h.clock shown (subst (λ t. OwnPlace (bus_of net g) unit side t None) (sym clock) none)

  pub puts_one : (book : Book) → Tells book h → (place : SlotPlace) → IsOwn (bus_of net g) unit side tick place → (w : ℤ) → w ≡ word_from net place.round unit (said_in net g.cycle t book) place.word t.messages 0
      → put_effects plan unit side h ≡ effect.Put w ∷ []
  puts_one book tells place own w e =
      shows_one (bus_of net g) unit side h.clock shown place (subst (λ t. IsOwn (bus_of net g) unit side t place) (sym clock) own)
      ∙ ap (λ t. effect.Put (says place.round (t - slot_start_of (bus_of net g) place.round unit side)) ∷ []) clock
      ∙ ap (λ (w : ℤ). effect.Put w ∷ []) (sym (said_word book tells (bus_of net g) place own w e))

pub idle_of : (l : Layout) (tick : ℕ) (o : Option SlotPlace) → o ≡ None → IfNone o (IsIdle l tick) → IsIdle l tick
idle_of l tick o e h = let P : Option SlotPlace → Type 0 = λ o. IfNone o (IsIdle l tick) in subst P e h
