-- Every list of enabled events over all cycles keeps what holds.
use Rattle.std.proofs.Common.{◌≡◌, ℕ, zero, suc, ◌*◌, ◌/◌, ◌<◌, ◌≤◌, inl, inr, List, [], ◌∷◌, length, map, replicate, ℤ, pos, true, false, cond, not, nat_eq, Option, Some, None, refl, sym, ◌∙◌, ap, subst, arith}
use Rattle.std.specs.List.{list_any, list_all}
use Rattle.std.proofs.lemmas.Bool.{cases_Bool, and_parts, eq-eqb}
use Rattle.std.proofs.lemmas.List.{get_or-map, length-map}
use Rattle.mars_base.specs.declared.shape.Side.{Side}
use Rattle.mars_base.specs.declared.shape.Side.TheVariants.{A, B}
use Rattle.bus.specs.SlotState.{Open}
use Rattle.script.specs.declared.script.Silence.{Silence}
use Rattle.net_run.specs.NetRun.{JobResult, given_by, state_of}
use Rattle.cluster_model.specs.Plan.{Plan, listed}
use Rattle.cluster_model.specs.PlanRun.{before, after, AreResults}
use Rattle.cluster_model.specs.Silences.{falls}
use Rattle.cluster_model.specs.Sound.{IsSoundPlan, AreGiven}
use Rattle.cluster_model.specs.State.{Waiting, told, state_in, Running, Member, no_member, replica_number, member_of, State}
use Rattle.cluster_model.specs.Cluster.{is_silent, is_through, is_over, left_by, left_states, turned, turn, settled, step, IsLineOf, MayStep, fresh_member, first_state}
use Rattle.cluster_agreement.specs.Agrees.{Agrees}
use Rattle.cluster_agreement.specs.Keeps.{Keeps, Holds}
use Rattle.cluster_agreement.specs.Runs.{Event, steps, AllMay, NoneLost}
use Rattle.cluster_agreement.proofs.Ends.{told_right, all_told, outs_right, left_along, run_clock, given_told}
use Rattle.cluster_agreement.proofs.Losses.{stays_silent, one_runs}
use Rattle.cluster_agreement.proofs.Reading.{listed_at, number_within}
use Rattle.cluster_agreement.proofs.Slots.{length_listed}
use Rattle.cluster_agreement.proofs.Step.{not_silent, step_keeps}

-- What the graph says of a plan: the results of a cycle from states and a line that fit, and that they fit again.
pub record RunsGraph (p : Plan) (out_words : ℕ → ℕ) (Fits : List (List ℤ) → Type 0) (LineFits : List ℤ → Type 0) (res : List (List ℤ) → List ℤ → ℕ → JobResult) : Type 0 where
  pub results : (start : List (List ℤ)) (line : List ℤ) → Fits start → LineFits line → AreResults p (state_of start) line (res start line)
  pub given : (start : List (List ℤ)) (line : List ℤ) → Fits start → LineFits line → AreGiven p out_words (λ job. told (res start line job))
  pub next : (start : List (List ℤ)) (line : List ℤ) → Fits start → LineFits line → (left : List (List ℤ)) → length left ≡ p.tasks
      → ((task : ℕ) → task < p.tasks → state_of left task ≡ after p (state_of start) (res start line) task) → Fits left
  pub first : Fits (listed p.tasks (λ task. replicate (p.state_words task) (pos 0)))
  pub line : List ℤ
  pub line_fits : LineFits line

turned_at : (p : Plan) (members : List Member) (u : ℕ) (x : Side) → replica_number u x < length members → member_of (map (turned p) members) u x ≡ turned p (member_of members u x)
turned_at p members u x low = get_or-map (turned p) members (replica_number u x) no_member no_member low

half : (u : ℕ) (x : Side) → replica_number u x / 2 ≡ u
half u A = omega arith
half u B = omega arith

module _ (p : Plan) (silences : List Silence) (out_words : ℕ → ℕ) (Fits : List (List ℤ) → Type 0) (LineFits : List ℤ → Type 0) (res : List (List ℤ) → List ℤ → ℕ → JobResult)
    (d : IsSoundPlan p out_words) (r : RunsGraph p out_words Fits LineFits res) where
  abbrev pub HoldsIn : (cycle : ℕ) → (start : List (List ℤ)) → (line : List ℤ) → List Member → Type 0
  HoldsIn cycle start line members = Holds p (state_of start) line (res start line) (λ u x t. falls silences u x cycle t) members

  abbrev KeepsIn : (cycle : ℕ) → (start : List (List ℤ)) → (line : List ℤ) → (u : ℕ) → Side → Member → Type 0
  KeepsIn cycle start line u x m = Keeps p (state_of start) line (res start line) (λ v y t. falls silences v y cycle t) u x m

  -- what holds of the cluster: over each line that the cycle may have
  pub record Sits (s : State) : Type 0 where
    pub holds : (line : List ℤ) → IsLineOf s line → LineFits line → HoldsIn s.cycle s.start line s.members
    pub start : Fits s.start
    pub line : (line : List ℤ) → s.line ≡ Some line → LineFits line

  -- some line that the cycle may have
  a_line : (s : State) → Sits s → (line : List ℤ) × IsLineOf s line × LineFits line
  a_line s h = by s.line refl
    where
      by : (o : Option (List ℤ)) → s.line ≡ o → (line : List ℤ) × IsLineOf s line × LineFits line
      by None e = (r.line, λ other f. absurd (let z : None ≡ Some other = sym e ∙ f in cc), r.line_fits)
      by (Some line) e = (line, λ other f. (let z : Some other ≡ Some line = sym f ∙ e in cc), h.line line e)

  module _ (s : State) (h : Sits s) (runs : (u : ℕ) → u < p.units → (x : Side) × ((t : ℕ) → t < p.cycle → falls silences u x s.cycle t ≡ false)) (o : list_all (is_through p) s.members ≡ true)
      (line : List ℤ) (is_line : IsLineOf s line) (fits : LineFits line) where
    here : HoldsIn s.cycle s.start line s.members
    here = h.holds line is_line fits

    results : AreResults p (state_of s.start) line (res s.start line)
    results = r.results s.start line h.start fits

    pub left_at : (task : ℕ) → task < p.tasks → state_of (left_states p s) task ≡ after p (state_of s.start) (res s.start line) task
    left_at task b =
        listed_at p.tasks (λ t. left_by (member_of s.members (p.home t) A) (member_of s.members (p.home t) B) t (state_of s.start t)) task [] b
        ∙ left_along p out_words (state_of s.start) line (res s.start line) (λ u x t. falls silences u x s.cycle t) d results s.members here runs o task b (state_of s.start task)

    pub left_fits : Fits (left_states p s)
    left_fits = r.next s.start line h.start fits (left_states p s)
        (length_listed p.tasks (λ t. left_by (member_of s.members (p.home t) A) (member_of s.members (p.home t) B) t (state_of s.start t))) left_at

    module _ (line2 : List ℤ) where
      first_states : (u : ℕ) (x : Side) → u < p.units → (member_of s.members u x).mode ≡ Running → (task i : ℕ) → task < p.tasks → p.home task ≡ u → i ≤ p.instances task
          → ((k : ℕ) → k < i → p.ends (p.number task k) ≤ 0)
          → state_in (member_of s.members u x).held task ≡ before p (state_of (left_states p s)) (res (left_states p s) line2) task i
      first_states u x l q task zero b e a n =
          (let k = here.each u x l in
          k.states q task (p.instances task) b e (omega arith)
          (λ i low. omega (
            arith,
            d.within (p.number task i) (d.numbered task i b low).0,
            run_clock p out_words (state_of s.start) line (res s.start line) (λ u x t. falls silences u x s.cycle t) d results s.members here runs o u x l q,
          ))
          (λ i low up. absurd (omega (arith, low, up))))
          ∙ sym (left_at task b)
      first_states u x l q task (suc i) b e a n =
          absurd (let g = d.numbered task i b (omega (arith, a)) in omega (arith, n i (omega arith), d.long (p.number task i) g.0))

      turned_keeps : (u : ℕ) (x : Side) → u < p.units → KeepsIn (suc s.cycle) (left_states p s) line2 u x (turned p (member_of s.members u x))
      turned_keeps u x l = let k = here.each u x l in record {
        clock = omega arith;
        fell = λ q. let f = k.fell q in (stays_silent u x silences s.cycle (member_of s.members u x).held.clock f.0, omega (arith, f.1));
        states = λ q task i b e a n m. first_states u x l q task i b e a n;
        waiting = λ job b e n. listed_at p.jobs (λ j. Waiting) job Waiting b;
        busy = λ job b e n m. absurd (omega (arith, n));
        over = λ job b e n. absurd (omega (arith, d.long job b, n));
        taken = λ n b e low. absurd (omega (arith, low));
        ahead = λ n b m. listed_at p.rounds (λ round. Open) n Open b;
        amid = λ n b m low. absurd (omega (arith, m));
        past = λ n b m. absurd (omega (arith, d.wide, m));
      }

      within : (u : ℕ) (x : Side) → u < p.units → replica_number u x < length s.members
      within u x l = omega (arith, number_within p.units u x l, here.size)

      pub turn_holds : HoldsIn (suc s.cycle) (left_states p s) line2 (map (turned p) s.members)
      turn_holds = record {
        size = length-map s.members (turned p) ∙ here.size;
        each = λ u x l. subst (KeepsIn (suc s.cycle) (left_states p s) line2 u x) (sym (turned_at p s.members u x (within u x l))) (turned_keeps u x l);
        skew = λ u x v y l n q w. (let e = ap (λ (m : Member). m.held.clock) (turned_at p s.members u x (within u x l)) in omega (arith, e));
      }

  -- the runs of a cycle in which no unit is lost
  runs_in : (cycle : ℕ) → NoneLost p silences cycle → (c : ℕ) → c ≤ cycle → (u : ℕ) → u < p.units → (x : Side) × ((t : ℕ) → t < p.cycle → falls silences u x c t ≡ false)
  runs_in cycle kept c low u l = one_runs silences p.cycle c u (kept c u low l)

  settled_sits : (s : State) → NoneLost p silences s.cycle → Sits s → Sits (settled p s)
  settled_sits s kept h = elim (cases_Bool (is_over p s.members)) [
    | inr n ↦ rw n h
    | inl t ↦
        let o = (and_parts (list_any (λ (m : Member). not (is_silent m.mode)) s.members) (list_all (is_through p) s.members) t).1 in
        let l = a_line s h in
        let runs = runs_in s.cycle kept s.cycle (omega arith) in
        rw t (record {
          holds = λ line2 f g. turn_holds s h runs o l.0 l.1 l.2 line2;
          start = left_fits s h runs o l.0 l.1 l.2;
          line = λ line e. absurd (let z : None ≡ Some line = e in cc);
        })
  ]

  settled_grows : (s : State) → s.cycle ≤ (settled p s).cycle
  settled_grows s = elim (is_over p s.members) as (λ b. s.cycle ≤ (cond b (turn p s) s).cycle) [ true ↦ omega arith | false ↦ omega arith ]

  steps_grow : (events : List Event) (s : State) → s.cycle ≤ (steps p silences s events).cycle
  steps_grow [] s = omega arith
  steps_grow (e ∷ events) s = omega (arith, settled_grows s, steps_grow events (step p silences e.line e.unit e.side s))

  fewer : (a b : ℕ) → a ≤ b → NoneLost p silences b → NoneLost p silences a
  fewer a b low kept c u l = kept c u (omega (arith, low, l))

  step_sits : (s : State) (u : ℕ) (x : Side) (line : List ℤ) → NoneLost p silences s.cycle → NoneLost p silences (settled p s).cycle → MayStep p s u x line → LineFits line → Sits s → Sits (step p silences line u x s)
  step_sits s u x line kept kept2 may fits h =
      let k = settled_sits s kept h in
      let here = k.holds line may.line_is fits in
      record {
        holds = λ line2 is_line fits2.
            let same : line ≡ line2 = is_line line refl in
            subst (λ l. HoldsIn (settled p s).cycle (settled p s).start l (step p silences line u x s).members) same
            (step_keeps p silences (settled p s).cycle (state_of (settled p s).start) line (res (settled p s).start line) out_words d
            (r.results (settled p s).start line k.start fits) (r.given (settled p s).start line k.start fits)
            (runs_in (settled p s).cycle kept2 (settled p s).cycle (omega arith)) (settled p s).members u x here may.enabled);
        start = k.start;
        line = λ other e. subst LineFits (let z : Some line ≡ Some other = e in cc) fits;
      }

  steps_sit : (events : List Event) (s : State) → NoneLost p silences (steps p silences s events).cycle → AllMay p silences LineFits s events → Sits s → Sits (steps p silences s events)
  steps_sit [] s kept may h = h
  steps_sit (e ∷ events) s kept may h =
      let l = steps_grow events (step p silences e.line e.unit e.side s) in
      let k = settled_grows s in
      steps_sit events (step p silences e.line e.unit e.side s) kept may.1
      (step_sits s e.unit e.side e.line (fewer s.cycle (steps p silences s (e ∷ events)).cycle (omega (arith, l, k)) kept) (fewer (settled p s).cycle (steps p silences s (e ∷ events)).cycle l kept) may.0.0 may.0.1 h)

  fresh_at : (u : ℕ) (x : Side) → u < p.units → member_of (first_state p).members u x ≡ fresh_member p u
  fresh_at u x l = listed_at (2 * p.units) (λ n. fresh_member p (n / 2)) (replica_number u x) no_member (number_within p.units u x l) ∙ ap (fresh_member p) (half u x)

  fresh_states : (line : List ℤ) (u : ℕ) → (task i : ℕ) → task < p.tasks → p.home task ≡ u → i ≤ p.instances task → ((k : ℕ) → k < i → p.ends (p.number task k) ≤ 0)
      → state_in (fresh_member p u).held task ≡ before p (state_of (first_state p).start) (res (first_state p).start line) task i
  fresh_states line u task zero b e a n =
      listed_at p.tasks (λ t. cond (nat_eq (p.home t) u) (replicate (p.state_words t) (pos 0)) []) task [] b
      ∙ ap (λ t. cond t (replicate (p.state_words task) (pos 0)) []) (eq-eqb (p.home task) u e)
      ∙ sym (listed_at p.tasks (λ t. replicate (p.state_words t) (pos 0)) task [] b)
  fresh_states line u task (suc i) b e a n =
      absurd (let g = d.numbered task i b (omega (arith, a)) in omega (arith, n i (omega arith), d.long (p.number task i) g.0))

  fresh_keeps : (line : List ℤ) (u : ℕ) (x : Side) → KeepsIn 0 (first_state p).start line u x (fresh_member p u)
  fresh_keeps line u x = record {
    clock = omega arith;
    fell = λ q. absurd (not_silent (sym q));
    states = λ q task i b e a n m. fresh_states line u task i b e a n;
    waiting = λ job b e n. listed_at p.jobs (λ j. Waiting) job Waiting b;
    busy = λ job b e n m. absurd (omega (arith, n));
    over = λ job b e n. absurd (omega (arith, d.long job b, n));
    taken = λ n b e low. absurd (omega (arith, low));
    ahead = λ n b m. listed_at p.rounds (λ round. Open) n Open b;
    amid = λ n b m low. absurd (omega (arith, m));
    past = λ n b m. absurd (omega (arith, d.wide, m));
  }

  first_sits : Sits (first_state p)
  first_sits = record {
    holds = λ line f g. record {
      size = length_listed (2 * p.units) (λ n. fresh_member p (n / 2));
      each = λ u x l. subst (KeepsIn 0 (first_state p).start line u x) (sym (fresh_at u x l)) (fresh_keeps line u x);
      skew = λ u x v y l n q w. (let e = ap (λ (m : Member). m.held.clock) (fresh_at u x l) in omega (arith, e));
    };
    start = r.first;
    line = λ line e. absurd (let z : None ≡ Some line = e in cc);
  }

  -- what sits agrees with the results over the line of its cycle
  sits_agrees : (s : State) (line : List ℤ) → s.line ≡ Some line → NoneLost p silences s.cycle → Sits s → (result : ℕ → JobResult) → ((job : ℕ) → job < p.jobs → result job ≡ res s.start line job)
      → (left : List (List ℤ)) → ((l : List (List ℤ)) → length l ≡ p.tasks → ((task : ℕ) → task < p.tasks → state_of l task ≡ after p (state_of s.start) (res s.start line) task) → l ≡ left)
      → Agrees p result left s
  sits_agrees s line e kept h result same left only =
      let is_line : IsLineOf s line = λ other f. (let z : Some other ≡ Some line = sym f ∙ e in cc) in
      let fits = h.line line e in
      let here = h.holds line is_line fits in
      let runs = runs_in s.cycle kept s.cycle (omega arith) in
      let c = r.results s.start line h.start fits in
      let through = λ (o : is_over p s.members ≡ true). (and_parts (list_any (λ (m : Member). not (is_silent m.mode)) s.members) (list_all (is_through p) s.members) o).1 in
      record {
        told_right = λ u x job l b q t.
            told_right p out_words (state_of s.start) line (res s.start line) (λ v y t. falls silences v y s.cycle t) d c u x (member_of s.members u x) (here.each u x l) job b q t
            ∙ ap told (sym (same job b));
        all_told = λ o u l.
            let y = all_told p out_words (state_of s.start) line (res s.start line) (λ v y t. falls silences v y s.cycle t) d c s.members here runs (through o) u l in
            (y.0, y.1, λ job b q. y.2 job b q ∙ ap told (sym (same job b)));
        outs = λ o job b.
            outs_right p out_words (state_of s.start) line (res s.start line) (λ v y t. falls silences v y s.cycle t) d c s.members here runs (through o) job b
            ∙ given_told (res s.start line job) ∙ ap given_by (sym (same job b));
        states = λ o. only (left_states p s)
            (length_listed p.tasks (λ t. left_by (member_of s.members (p.home t) A) (member_of s.members (p.home t) B) t (state_of s.start t)))
            (left_at s h runs (through o) line is_line fits);
      }

  -- over every list of enabled events
  pub events_sit : (events : List Event) → NoneLost p silences (steps p silences (first_state p) events).cycle → AllMay p silences LineFits (first_state p) events → Sits (steps p silences (first_state p) events)
  events_sit events kept may = steps_sit events (first_state p) kept may first_sits

  pub events_agree : (events : List Event) → AllMay p silences LineFits (first_state p) events → NoneLost p silences (steps p silences (first_state p) events).cycle
      → (line : List ℤ) → (steps p silences (first_state p) events).line ≡ Some line
      → (result : ℕ → JobResult) → ((job : ℕ) → job < p.jobs → result job ≡ res (steps p silences (first_state p) events).start line job)
      → (left : List (List ℤ)) → ((l : List (List ℤ)) → length l ≡ p.tasks → ((task : ℕ) → task < p.tasks → state_of l task ≡ after p (state_of (steps p silences (first_state p) events).start) (res (steps p silences (first_state p) events).start line) task) → l ≡ left)
      → Agrees p result left (steps p silences (first_state p) events)
  events_agree events may kept line e result same left only =
      sits_agrees (steps p silences (first_state p) events) line e kept (events_sit events kept may) result same left only
