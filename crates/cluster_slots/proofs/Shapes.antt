-- Each event keeps the shape of clocks and slots.
use Rattle.std.proofs.Common.{◌≡◌, ℕ, suc, ◌+◌, ◌-◌, ◌*◌, ◌/◌, ◌<◌, ◌≤◌, inl, inr, List, [], ◌∷◌, ◌++◌, length, get_or, map, set, ℤ, pos, true, false, cond, refl, sym, ◌∙◌, ap, subst, arith}
use Rattle.std.proofs.lemmas.Bool.{cases_eq, cases_Bool}
use Rattle.std.proofs.lemmas.List.{get_or-map, length-set, length-map, length_push, get_or_append_left, get_or_at}
use Rattle.mars_base.specs.declared.shape.Side.{Side}
use Rattle.mars_base.specs.declared.shape.Side.TheVariants.{A, B}
use Rattle.bus.specs.SlotState.{Open, sent, put, cut}
use Rattle.script.specs.declared.script.Silence.{Silence}
use Rattle.cluster_agreement.specs.Keeps.{partly}
use Rattle.cluster_agreement.proofs.Losses.{stays_silent}
use Rattle.cluster_agreement.proofs.Reading.{listed_at, cut_at, number_within, put_cases}
use Rattle.cluster_agreement.proofs.Slots.{slot_stays, slot_put, slot_now, sent_short, sent_full, cut_partly, length_listed}
use Rattle.cluster_agreement.proofs.Step.{not_silent}
use Rattle.cluster_model.specs.Cluster.{IsEnabled, fallen, after_tick, event, turned, first_state, fresh_member}
use Rattle.cluster_model.specs.Plan.{Plan}
use Rattle.cluster_model.specs.Silences.{falls}
use Rattle.cluster_model.specs.State.{status_in, Running, Member, no_member, replica_number, member_of}
use Rattle.cluster_model.specs.Tick.{fed, slot_after}
use Rattle.cluster_slots.specs.Shape.{AreSaid, Shape, Shapes}

pub turned_at : (p : Plan) (members : List Member) (u : ℕ) (x : Side) → replica_number u x < length members → member_of (map (turned p) members) u x ≡ turned p (member_of members u x)
turned_at p members u x low = get_or-map (turned p) members (replica_number u x) no_member no_member low

half : (u : ℕ) (x : Side) → replica_number u x / 2 ≡ u
half u A = omega arith
half u B = omega arith

pub fresh_at : (p : Plan) (u : ℕ) (x : Side) → u < p.units → member_of (first_state p).members u x ≡ fresh_member p u
fresh_at p u x l = listed_at (2 * p.units) (λ n. fresh_member p (n / 2)) (replica_number u x) no_member (number_within p.units u x l) ∙ ap (fresh_member p) (half u x)

abbrev pub Said : Type 1
Said = (unit : ℕ) → Side → (round number : ℕ) → ℤ → Type 0

module _ (p : Plan) (silences : List Silence) (cycle : ℕ) where
  abbrev pub ShapeIn : Said → (u : ℕ) → Side → Member → Type 0
  ShapeIn said u x m = Shape p (λ v y t. falls silences v y cycle t) said u x m

  abbrev pub ShapesIn : Said → List Member → Type 0
  ShapesIn said members = Shapes p (λ v y t. falls silences v y cycle t) said members

  said_more : (said more : Said) → ((u : ℕ) (x : Side) (k i : ℕ) (w : ℤ) → said u x k i w → more u x k i w) → (u : ℕ) (x : Side) (k n : ℕ) (words : List ℤ)
      → AreSaid p (λ v y t. falls silences v y cycle t) said u x k n words → AreSaid p (λ v y t. falls silences v y cycle t) more u x k n words
  said_more said more h u x k n words s = record { count_is = s.count_is; each = λ i low. h u x k i (get_or words i (pos 0)) (s.each i low) }

  shape_more : (said more : Said) → ((u : ℕ) (x : Side) (k i : ℕ) (w : ℤ) → said u x k i w → more u x k i w) → (u : ℕ) (x : Side) (m : Member) → ShapeIn said u x m → ShapeIn more u x m
  shape_more said more h u x m s = record {
    clock = s.clock;
    fell = s.fell;
    ahead = s.ahead;
    amid = λ k b l o. let a = s.amid k b l o in (a.0, said_more said more h u x k (m.held.clock - p.slot k u x) a.0 a.1, a.2);
    past = λ k b l. let a = s.past k b l in (a.0, said_more said more h u x k p.words a.0 a.1, a.2);
  }

  pub shapes_more : (said more : Said) → ((u : ℕ) (x : Side) (k i : ℕ) (w : ℤ) → said u x k i w → more u x k i w) → (members : List Member) → ShapesIn said members → ShapesIn more members
  shapes_more said more h members s = record { size = s.size; each = λ u x l. shape_more said more h u x (member_of members u x) (s.each u x l); skew = s.skew }

  fall_shape : (said : Said) (u : ℕ) (x : Side) (m : Member) → ShapeIn said u x m → falls silences u x cycle m.held.clock ≡ true → m.held.clock < p.cycle → ShapeIn said u x (fallen m)
  fall_shape said u x m k f l = record {
    clock = k.clock;
    fell = λ _. (f, l);
    ahead = λ n b c. cut_at m.slots n ∙ ap cut (k.ahead n b c);
    amid = λ n b c e. let a = k.amid n b c e in (a.0, a.1, cut_at m.slots n ∙ ap cut a.2 ∙ cut_partly m.mode a.0);
    past = λ n b c. let a = k.past n b c in (a.0, a.1, cut_at m.slots n ∙ ap cut a.2);
  }

  -- the word of this tick is said where the tick is one of the slot's
  abbrev pub SaysNow : Said → (u : ℕ) → Side → Member → Type 0
  SaysNow said u x m = (k i : ℕ) → i < p.words → m.held.clock ≡ p.slot k u x + i → said u x k i (p.frame_word k u (λ n. fed p (status_in m.held) (p.edge_of n) (p.instance_of n)) i)

  module _ (wide : 1 < p.words) (said : Said) (u : ℕ) (x : Side) (m : Member) (k : ShapeIn said u x m) (q : m.mode ≡ Running) (now : SaysNow said u x m) where
    -- one word more
    add : (n : ℕ) (words : List ℤ) (w : ℤ) → AreSaid p (λ v y t. falls silences v y cycle t) said u x n (m.held.clock - p.slot n u x) words → said u x n (m.held.clock - p.slot n u x) w
        → AreSaid p (λ v y t. falls silences v y cycle t) said u x n (suc (m.held.clock - p.slot n u x)) (words ++ w ∷ [])
    add n words w s h = record {
      count_is = omega (arith, length_push words w, s.count_is);
      each = λ i low. elim (cases_eq i (m.held.clock - p.slot n u x)) [
        | inl e ↦ subst (λ j. said u x n j (get_or (words ++ w ∷ []) j (pos 0))) (sym e)
            (subst (said u x n (m.held.clock - p.slot n u x)) (sym (get_or_at words w [] (pos 0) (m.held.clock - p.slot n u x) s.count_is)) h)
        | inr o ↦ subst (said u x n i) (sym (get_or_append_left words (w ∷ []) (pos 0) i (omega (arith, low, o, s.count_is)))) (s.each i (omega (arith, low, o)))
      ];
    }

    none_yet : (n : ℕ) → p.slot n u x ≡ m.held.clock → AreSaid p (λ v y t. falls silences v y cycle t) said u x n (m.held.clock - p.slot n u x) []
    none_yet n e = record { count_is = omega (arith, e); each = λ i low. absurd (omega (arith, low, e)) }

    here : (n : ℕ) → p.slot n u x ≤ m.held.clock → m.held.clock < p.slot n u x + p.words
        → said u x n (m.held.clock - p.slot n u x) (p.frame_word n u (λ v. fed p (status_in m.held) (p.edge_of v) (p.instance_of v)) (m.held.clock - p.slot n u x))
    here n l o = now n (m.held.clock - p.slot n u x) (omega (arith, l, o)) (omega (arith, l))

    -- a slot after a tick in it
    puts : (n : ℕ) → n < p.rounds → p.slot n u x ≤ m.held.clock → m.held.clock < p.slot n u x + p.words
        → (words : List ℤ) × AreSaid p (λ v y t. falls silences v y cycle t) said u x n (suc (m.held.clock - p.slot n u x)) words × (slot_after p u x m.held m.slots n ≡ sent p.words words)
    puts n b l o =
        let w = p.frame_word n u (λ v. fed p (status_in m.held) (p.edge_of v) (p.instance_of v)) (m.held.clock - p.slot n u x) in
        elim (cases_eq (p.slot n u x) m.held.clock) [
          | inl e ↦ (w ∷ [], add n [] w (none_yet n e) (here n l o), slot_put p u x m.held m.slots n l o ∙ ap (λ s. put p.words s w) (k.ahead n b (omega (arith, e))))
          | inr e ↦
              let a = k.amid n b (omega (arith, l, e)) o in
              (a.0 ++ w ∷ [], add n a.0 w a.1 (here n l o), slot_put p u x m.held m.slots n l o ∙ ap (λ s. put p.words s w) (a.2 ∙ ap (λ mode. partly mode a.0) q))
        ]

    pub tick_shape : (line : List ℤ) (members : List Member) → m.held.clock < p.cycle → ShapeIn said u x (after_tick p line members u x m)
    tick_shape line members b = record {
      clock = omega (arith, b);
      fell = λ s. absurd (not_silent (sym s ∙ q));
      ahead = λ n r l. slot_now p u x m.held m.slots n r ∙ slot_stays p u x m.held m.slots n (inl (omega (arith, l))) ∙ k.ahead n r (omega (arith, l));
      amid = λ n r l o.
          let a = puts n r (omega (arith, l)) (omega (arith, o)) in
          let e : suc (m.held.clock - p.slot n u x) ≡ suc m.held.clock - p.slot n u x = omega (arith, l) in (
            a.0,
            subst (λ c. AreSaid p (λ v y t. falls silences v y cycle t) said u x n c a.0) e a.1,
            slot_now p u x m.held m.slots n r ∙ a.2 ∙ sent_short p.words a.0 (omega (arith, a.1.count_is, l, o)) ∙ sym (ap (λ mode. partly mode a.0) q),
          );
      past = λ n r l. elim (cases_eq (p.slot n u x + p.words) (suc m.held.clock)) [
        | inl e ↦
            let a = puts n r (omega (arith, wide, e)) (omega (arith, e)) in
            let i : suc (m.held.clock - p.slot n u x) ≡ p.words = omega (arith, wide, e) in (
              a.0,
              subst (λ c. AreSaid p (λ v y t. falls silences v y cycle t) said u x n c a.0) i a.1,
              slot_now p u x m.held m.slots n r ∙ a.2 ∙ sent_full p.words a.0 (a.1.count_is ∙ i),
            )
        | inr e ↦
            let a = k.past n r (omega (arith, l, e)) in
            (a.0, a.1, slot_now p u x m.held m.slots n r ∙ slot_stays p u x m.held m.slots n (inr (omega (arith, l, e))) ∙ a.2)
      ];
    }

  module _ (wide : 1 < p.words) (line : List ℤ) where
    pub running_clock : (members : List Member) (u : ℕ) (x : Side) (m : Member) → (event p silences cycle line members u x m).mode ≡ Running → (event p silences cycle line members u x m).held.clock ≡ suc m.held.clock
    running_clock members u x m = elim (falls silences u x cycle m.held.clock) as (λ b. (cond b (fallen m) (after_tick p line members u x m)).mode ≡ Running → (cond b (fallen m) (after_tick p line members u x m)).held.clock ≡ suc m.held.clock) [
      | true ↦ λ e. absurd (not_silent e)
      | false ↦ λ e. refl
    ]

    pub step_shapes : (said : Said) (members : List Member) (u : ℕ) (x : Side) → ShapesIn said members → IsEnabled p members u x
        → (falls silences u x cycle (member_of members u x).held.clock ≡ false → SaysNow said u x (member_of members u x))
        → ShapesIn said (set members (replica_number u x) (event p silences cycle line members u x (member_of members u x)))
    step_shapes said members u x h e now =
        let new : Member = event p silences cycle line members u x (member_of members u x) in
        let low : replica_number u x < length members = omega (arith, number_within p.units u x e.unit_is, h.size) in
        let one : ShapeIn said u x new = elim (cases_Bool (falls silences u x cycle (member_of members u x).held.clock)) [
          | inl f ↦ rw f (fall_shape said u x (member_of members u x) (h.each u x e.unit_is) f e.below)
          | inr f ↦ rw f (tick_shape wide said u x (member_of members u x) (h.each u x e.unit_is) e.runs (now f) line members e.below)
        ] in
        record {
          size = length-set members (replica_number u x) new ∙ h.size;
          each = put_cases (λ v y m. v < p.units → ShapeIn said v y m) members u x new low (λ l. one) h.each;
          skew = λ v y v2 y2. put_cases
              (λ v y m. v < p.units → v2 < p.units → m.mode ≡ Running → (member_of (set members (replica_number u x) new) v2 y2).mode ≡ Running
              → m.held.clock ≤ (member_of (set members (replica_number u x) new) v2 y2).held.clock + p.skew)
              members u x new low
              (put_cases (λ v2 y2 m2. u < p.units → v2 < p.units → new.mode ≡ Running → m2.mode ≡ Running → new.held.clock ≤ m2.held.clock + p.skew)
              members u x new low (λ l m s s2. omega arith)
              (λ v2 y2 l m s s2. let o = running_clock members u x (member_of members u x) s in let q = e.close v2 y2 m s2 in omega (arith, o, q)) v2 y2)
              (λ v y. put_cases (λ v2 y2 m2. v < p.units → v2 < p.units → (member_of members v y).mode ≡ Running → m2.mode ≡ Running → (member_of members v y).held.clock ≤ m2.held.clock + p.skew)
              members u x new low
              (λ l m s s2. let o = running_clock members u x (member_of members u x) s2 in let q = h.skew v y u x l e.unit_is s e.runs in omega (arith, o, q))
              (λ v2 y2 l m s s2. h.skew v y v2 y2 l m s s2) v2 y2)
              v y;
        }

-- at a cycle's start all clocks are 0 and all slots open
pub turn_shapes : (p : Plan) (silences : List Silence) (cycle : ℕ) (said next : Said) → 1 < p.words → (members : List Member) → ShapesIn p silences cycle said members → ShapesIn p silences (suc cycle) next (map (turned p) members)
turn_shapes p silences cycle said next wide members h = record {
  size = length-map members (turned p) ∙ h.size;
  each = λ u x l. subst (ShapeIn p silences (suc cycle) next u x) (sym (at u x l)) (one u x (h.each u x l));
  skew = λ u x v y l n q w. (let e = ap (λ (m : Member). m.held.clock) (at u x l) in omega (arith, e));
}
  where
    at : (u : ℕ) (x : Side) → u < p.units → member_of (map (turned p) members) u x ≡ turned p (member_of members u x)
    at u x l = turned_at p members u x (omega (arith, number_within p.units u x l, h.size))

    one : (u : ℕ) (x : Side) → ShapeIn p silences cycle said u x (member_of members u x) → ShapeIn p silences (suc cycle) next u x (turned p (member_of members u x))
    one u x k = record {
      clock = omega arith;
      fell = λ q. let f = k.fell q in (stays_silent u x silences cycle (member_of members u x).held.clock f.0, omega (arith, f.1));
      ahead = λ n b m. listed_at p.rounds (λ round. Open) n Open b;
      amid = λ n b m low. absurd (omega (arith, m));
      past = λ n b m. absurd (omega (arith, wide, m));
    }

pub first_shapes : (p : Plan) (silences : List Silence) (said : Said) → 1 < p.words → ShapesIn p silences 0 said (first_state p).members
first_shapes p silences said wide = record {
  size = length_listed (2 * p.units) (λ n. fresh_member p (n / 2));
  each = λ u x l. subst (ShapeIn p silences 0 said u x) (sym (fresh_at p u x l)) (one u x);
  skew = λ u x v y l n q w. (let e = ap (λ (m : Member). m.held.clock) (fresh_at p u x l) in omega (arith, e));
}
  where
    one : (u : ℕ) (x : Side) → ShapeIn p silences 0 said u x (fresh_member p u)
    one u x = record {
      clock = omega arith;
      fell = λ q. absurd (not_silent (sym q));
      ahead = λ n b m. listed_at p.rounds (λ round. Open) n Open b;
      amid = λ n b m low. absurd (omega (arith, m));
      past = λ n b m. absurd (omega (arith, wide, m));
    }
