-- What holds of the bus over every list of events.
use Rattle.std.proofs.Common.{◌≡◌, ℕ, suc, ◌+◌, ◌*◌, ◌<◌, ◌⊎◌, inl, inr, List, [], ◌∷◌, length, get_or, ℤ, pos, refl, sym, ◌∙◌, ap, subst, arith}
use Rattle.std.proofs.lemmas.Bool.{cases_Bool, cases_lt}
use Rattle.mars_base.specs.declared.shape.Side.{Side}
use Rattle.mars_base.specs.declared.shape.Side.TheVariants.{A, B}
use Rattle.mars_base.specs.Shape.{IsShape}
use Rattle.bus.specs.SlotState.{Open, Sending, Whole, Cut, slot_at}
use Rattle.script.specs.declared.script.Silence.{Silence}
use Rattle.graph.specs.JobGraph.{JobGraph}
use Rattle.graph.specs.NetGraph.{IsNetGraph}
use Rattle.graph.specs.declared.net.Net.{Net}
use Rattle.tables.specs.declared.table.Tables.{Tables}
use Rattle.net_run.specs.NetRun.{Execution}
use Rattle.cluster_agreement.specs.Keeps.{partly}
use Rattle.cluster_agreement.specs.Runs.{Event, steps, AllMay}
use Rattle.cluster_agreement.proofs.Reading.{number_within, put_cases}
use Rattle.cluster_agreement.proofs.Step.{not_silent}
use Rattle.cluster_model.specs.Cluster.{is_over, settled, step, event, MayStep, first_state}
use Rattle.cluster_model.specs.Plan.{Plan}
use Rattle.cluster_model.specs.PlanOf.{plan_of}
use Rattle.cluster_model.specs.State.{Mode, Running, Silent, Member, member_of, State}
use Rattle.cluster_plan.proofs.Whole.{sound_plans}
use Rattle.cluster_slots.specs.OwnWords.{StaysSilent, OwnWords, OwnWordsOfAll}
use Rattle.cluster_slots.specs.Puts.{PutsNow, Puts}
use Rattle.cluster_slots.proofs.Sending.{IsSpaced, one_sends, one_place}
use Rattle.cluster_slots.proofs.Shapes.{turned_at, Said, ShapeIn, ShapesIn, shapes_more, step_shapes, turn_shapes, first_shapes}

partly_not_whole : (mode : Mode) (words ws : List ℤ) → partly mode words ≡ Whole ws → ⊥
partly_not_whole Running words ws e = let z : Sending words ≡ Whole ws = e in cc
partly_not_whole Silent words ws e = let z : Cut words ≡ Whole ws = e in cc

module _ (p : Plan) (silences : List Silence) (wide : 1 < p.words) where
  -- what was said, by cycle
  abbrev Told : Type 1
  Told = (cycle unit : ℕ) → Side → (round number : ℕ) → ℤ → Type 0

  settled_shapes : (told : Told) (s : State) → ShapesIn p silences s.cycle (told s.cycle) s.members → ShapesIn p silences (settled p s).cycle (told (settled p s).cycle) (settled p s).members
  settled_shapes told s h = elim (cases_Bool (is_over p s.members)) [
    | inl o ↦ rw o (turn_shapes p silences s.cycle (told s.cycle) (told (suc s.cycle)) wide s.members h)
    | inr o ↦ rw o h
  ]

  abbrev Or : Told → State → Event → Told
  Or told s e cycle u x k i w = told cycle u x k i w ⊎ PutsNow p silences s e cycle u x k i w

  one_step : (told : Told) (s : State) (e : Event) → MayStep p s e.unit e.side e.line → ShapesIn p silences s.cycle (told s.cycle) s.members
      → ShapesIn p silences (settled p s).cycle (Or told s e (settled p s).cycle) (step p silences e.line e.unit e.side s).members
  one_step told s e may h =
      let now = settled p s in
      step_shapes p silences now.cycle wide e.line (Or told s e now.cycle) now.members e.unit e.side
      (shapes_more p silences now.cycle (told now.cycle) (Or told s e now.cycle) (λ u x k i w t. inl t) now.members (settled_shapes told s h))
      may.enabled
      (λ f k i low tick. inr (record { cycle_is = refl; unit_is = refl; side_is = refl; stays = f; within = low; tick = tick; word_is = refl }))

  abbrev OrAll : Told → State → List Event → Told
  OrAll told s events cycle u x k i w = told cycle u x k i w ⊎ Puts p silences s events cycle u x k i w

  all_steps : (events : List Event) (told : Told) (s : State) → AllMay p silences (λ line. Unit {0}) s events → ShapesIn p silences s.cycle (told s.cycle) s.members
      → ShapesIn p silences (steps p silences s events).cycle (OrAll told s events (steps p silences s events).cycle) (steps p silences s events).members
  all_steps [] told s may h = shapes_more p silences s.cycle (told s.cycle) (OrAll told s [] s.cycle) (λ u x k i w t. inl t) s.members h
  all_steps (e ∷ events) told s may h =
      let next = step p silences e.line e.unit e.side s in
      let last = steps p silences next events in
      shapes_more p silences last.cycle (OrAll (Or told s e) next events last.cycle) (OrAll told s (e ∷ events) last.cycle)
      (λ u x k i w t. elim t [ inl a ↦ elim a [ inl b ↦ inl b | inr b ↦ inr (inl b) ] | inr a ↦ inr (inr a) ]) last.members
      (all_steps events (Or told s e) next may.1 (one_step told s e may.0.0 h))

  pub shapes_of : (events : List Event) → AllMay p silences (λ line. Unit {0}) (first_state p) events
      → ShapesIn p silences (steps p silences (first_state p) events).cycle (Puts p silences (first_state p) events (steps p silences (first_state p) events).cycle) (steps p silences (first_state p) events).members
  shapes_of events may =
      let last = steps p silences (first_state p) events in
      shapes_more p silences last.cycle (OrAll (λ c u x k i w. ⊥) (first_state p) events last.cycle) (Puts p silences (first_state p) events last.cycle)
      (λ u x k i w t. elim t [ inl a ↦ absurd a | inr a ↦ a ]) last.members
      (all_steps events (λ c u x k i w. ⊥) (first_state p) may (first_shapes p silences (λ u x k i w. ⊥) wide))

  whole_own : (cycle : ℕ) (said : Said) (u : ℕ) (x : Side) (m : Member) (k : ℕ) (words : List ℤ) → k < p.rounds → ShapeIn p silences cycle said u x m → slot_at m.slots k ≡ Whole words
      → (length words ≡ p.words) × ((i : ℕ) → i < p.words → said u x k i (get_or words i (pos 0)))
  whole_own cycle said u x m k words b h e = elim (cases_lt (p.slot k u x) m.held.clock) [
    | inr l ↦ absurd (let z : Open ≡ Whole words = sym (h.ahead k b l) ∙ e in cc)
    | inl l ↦ elim (cases_lt m.held.clock (p.slot k u x + p.words)) [
      | inl o ↦ let a = h.amid k b l o in absurd (partly_not_whole m.mode a.0 words (sym a.2 ∙ e))
      | inr o ↦
          let a = h.past k b o in
          let same : a.0 ≡ words = (let z : Whole a.0 ≡ Whole words = sym a.2 ∙ e in cc) in
          (ap length (sym same) ∙ a.1.count_is, λ i low. subst (λ ws. said u x k i (get_or ws i (pos 0))) same (a.1.each i low))
    ]
  ]

  -- a replica that fell silent stays so
  settled_silent : (s : State) (u : ℕ) (x : Side) → u < p.units → length s.members ≡ 2 * p.units → (member_of s.members u x).mode ≡ Silent → (member_of (settled p s).members u x).mode ≡ Silent
  settled_silent s u x l size h = elim (cases_Bool (is_over p s.members)) [
    | inl o ↦ rw o (ap (λ (m : Member). m.mode) (turned_at p s.members u x (omega (arith, number_within p.units u x l, size))) ∙ h)
    | inr o ↦ rw o h
  ]

  later_silent : (events : List Event) (told : Told) (s : State) → AllMay p silences (λ line. Unit {0}) s events → ShapesIn p silences s.cycle (told s.cycle) s.members
      → (u : ℕ) (x : Side) → u < p.units → (member_of s.members u x).mode ≡ Silent → (member_of (steps p silences s events).members u x).mode ≡ Silent
  later_silent [] told s may shapes u x l h = h
  later_silent (e ∷ events) told s may shapes u x l h =
      let now = settled p s in
      let here = settled_shapes told s shapes in
      let enabled = may.0.0.enabled in
      let new : Member = event p silences now.cycle e.line now.members e.unit e.side (member_of now.members e.unit e.side) in
      let still : (member_of now.members u x).mode ≡ Silent = settled_silent s u x l shapes.size h in
      later_silent events (Or told s e) (step p silences e.line e.unit e.side s) may.1 (one_step told s e may.0.0 shapes) u x l
      (put_cases (λ v y m. (member_of now.members v y).mode ≡ Silent → m.mode ≡ Silent) now.members e.unit e.side new
      (omega (arith, number_within p.units e.unit e.side enabled.unit_is, here.size))
      (λ q. absurd (not_silent (sym q ∙ enabled.runs))) (λ v y q. q) u x still)

  pub silent_stays : (told : Told) (s : State) → ShapesIn p silences s.cycle (told s.cycle) s.members → (later : List Event) → AllMay p silences (λ line. Unit {0}) s later → StaysSilent p silences s later
  silent_stays told s shapes later may u x l h =
      let q = later_silent later told s may shapes u x l h in
      let size = (all_steps later told s may shapes).size in
      (q, λ enabled. not_silent (sym (settled_silent (steps p silences s later) u x l size q) ∙ enabled.runs))

pub own_words_of : (p : Plan) (silences : List Silence) → 1 < p.words → IsSpaced p → (events : List Event) → AllMay p silences (λ line. Unit {0}) (first_state p) events → OwnWords p silences events
own_words_of p silences wide spaced events may =
    let last = steps p silences (first_state p) events in
    let h = shapes_of p silences wide events may in
    record {
      shapes = h;
      one_sends = one_sends p silences last.cycle (Puts p silences (first_state p) events last.cycle) spaced last.members h;
      whole_is_own = λ u x k words l b e. whole_own p silences wide last.cycle (Puts p silences (first_state p) events last.cycle) u x (member_of last.members u x) k words b (h.each u x l) e;
      stays_silent = silent_stays p silences wide (Puts p silences (first_state p) events) last h;
    }

spaced_plan : (net : Net) (g : JobGraph) (t : Tables) (words : List ℕ) (exec : Execution) (cost : ℕ → List ℤ → List ℤ → ℕ) → IsNetGraph net g → IsSpaced (plan_of net g t words exec cost)
spaced_plan net g t words exec cost n u x k v y m lu lv a b =
    let shape : IsShape net.shape = n.is.rules.entry_rules.shape in
    by x y a b
  where
    plan : Plan
    plan = plan_of net g t words exec cost

    by : (x y : Side) → (plan_of net g t words exec cost).slot m v y < (plan_of net g t words exec cost).slot k u x + net.shape.slot_words + net.shape.precision
        → (plan_of net g t words exec cost).slot k u x < (plan_of net g t words exec cost).slot m v y + net.shape.slot_words + net.shape.precision → (u ≡ v) × (x ≡ y) × (k ≡ m)
    by A A a b = let w = one_place net.shape.round (net.shape.slot_words + net.shape.precision) (2 * net.shape.units) n.is.rules.entry_rules.shape.fits k m (2 * u) (2 * v) (omega (arith, lu)) (omega (arith, lv)) (omega (arith, a)) (omega (arith, b)) in (omega (arith, w.1), refl, w.0)
    by A B a b = let w = one_place net.shape.round (net.shape.slot_words + net.shape.precision) (2 * net.shape.units) n.is.rules.entry_rules.shape.fits k m (2 * u) (2 * v + 1) (omega (arith, lu)) (omega (arith, lv)) (omega (arith, a)) (omega (arith, b)) in absurd (omega (arith, w.1))
    by B A a b = let w = one_place net.shape.round (net.shape.slot_words + net.shape.precision) (2 * net.shape.units) n.is.rules.entry_rules.shape.fits k m (2 * u + 1) (2 * v) (omega (arith, lu)) (omega (arith, lv)) (omega (arith, a)) (omega (arith, b)) in absurd (omega (arith, w.1))
    by B B a b = let w = one_place net.shape.round (net.shape.slot_words + net.shape.precision) (2 * net.shape.units) n.is.rules.entry_rules.shape.fits k m (2 * u + 1) (2 * v + 1) (omega (arith, lu)) (omega (arith, lv)) (omega (arith, a)) (omega (arith, b)) in (omega (arith, w.1), refl, w.0)

pub own_words_hold : OwnWordsOfAll
own_words_hold net g t words exec cost silences n v events may =
    own_words_of (plan_of net g t words exec cost) silences (sound_plans net g t words exec cost n v).wide (spaced_plan net g t words exec cost n) events may
