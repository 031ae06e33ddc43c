-- One cycle of a cluster's run against the cycle along its net.
use Rattle.std.proofs.Common.{◌≡◌, ℕ, suc, ◌*◌, ◌/◌, ◌<◌, inl, inr, List, [], ◌∷◌, ◌++◌, length, get_or, replicate, ℤ, pos, true, cond, refl, sym, ◌∙◌, ap, subst, arith}
use Rattle.std.specs.Prelude.{slice_index}
use Rattle.std.proofs.lemmas.Bool.{cases_Bool, cases_lt, true≢false}
use Rattle.std.proofs.lemmas.List.{ext_get_or, get_or-map, length-map}
use Rattle.mars_base.specs.declared.shape.Side.{Side}
use Rattle.mars_base.specs.declared.shape.Side.TheVariants.{A, B}
use Rattle.script.specs.Running.{IsLost}
use Rattle.script.specs.declared.script.Pace.{Pace}
use Rattle.script.specs.declared.script.Silence.{Silence}
use Rattle.graph.specs.JobGraph.{JobGraph}
use Rattle.graph.specs.declared.net.Net.{Net}
use Rattle.tables.specs.declared.table.Tables.{Tables}
use Rattle.net_run.specs.Alike.{IsLine}
use Rattle.net_run.specs.NetRun.{JobResult, Done, Broken, Skipped, Execution, one_cycle, first_states}
use Rattle.cluster_model.specs.Cluster.{turn, settled, step, fresh_member, first_state}
use Rattle.cluster_model.specs.Plan.{Plan}
use Rattle.cluster_model.specs.PlanOf.{plan_of}
use Rattle.cluster_model.specs.Sound.{IsSoundPlan}
use Rattle.cluster_model.specs.State.{Status, Waiting, Busy, Gave, Broke, PassedOver, IsTold, told, status_in, Member, no_member, replica_number, member_of, State}
use Rattle.cluster_plan.specs.Follows.{out_count}
use Rattle.cluster_plan.proofs.Whole.{sound_plans}
use Rattle.cluster_agreement.specs.Agreement.{IsSet, AgreesAlong}
use Rattle.cluster_agreement.specs.Agrees.{Agrees}
use Rattle.cluster_agreement.specs.Runs.{Event, steps, AllMay, NoneLost}
use Rattle.cluster_agreement.proofs.Along.{agreement_holds}
use Rattle.cluster_agreement.proofs.Reading.{listed_at, number_within}
use Rattle.cluster_agreement.proofs.Slots.{length_listed}
use Rattle.cycle_events.specs.Events.{cycle_events, after_cycle}
use Rattle.cycle_events.specs.Order.{IsStart, Ends, OfCycle}
use Rattle.cycle_events.proofs.Acting.{open_settled}
use Rattle.cycle_events.proofs.Lists.{steps_append}
use Rattle.cycle_events.proofs.Whole.{cycle_order}
use Rattle.plant_run.specs.PlantRun.{Cost}
use Rattle.run_texts.specs.Along.{result_at}
use Rattle.run_agreement.specs.ClusterRun.{is_told, shown_in}

half : (u : ℕ) (x : Side) → replica_number u x / 2 ≡ u
half u A = omega arith
half u B = omega arith

may_append : (p : Plan) (silences : List Silence) (F : List ℤ → Type 0) (s : State) (xs ys : List Event) → AllMay p silences F s xs → AllMay p silences F (steps p silences s xs) ys → AllMay p silences F s (xs ++ ys)
may_append p silences F s [] ys a b = b
may_append p silences F s (e ∷ xs) ys a b = (a.0, may_append p silences F (step p silences e.line e.unit e.side s) xs ys a.1 b)

may_fit : (p : Plan) (silences : List Silence) (F : List ℤ → Type 0) (line : List ℤ) → F line → (s : State) (xs : List Event) → AllMay p silences (λ other. other ≡ line) s xs → AllMay p silences F s xs
may_fit p silences F line fits s [] a = tt
may_fit p silences F line fits s (e ∷ xs) a = ((a.0.0, subst F (sym a.0.1) fits), may_fit p silences F line fits (step p silences e.line e.unit e.side s) xs a.1)

told_true : (r : JobResult) → is_told (told r) ≡ true
told_true (Done results) = refl
told_true Broken = refl
told_true Skipped = refl

is_told_at : (s : Status) → is_told s ≡ true → IsTold s
is_told_at Waiting e = absurd (true≢false (sym e))
is_told_at (Busy state ins) e = absurd (true≢false (sym e))
is_told_at (Gave outs) e = tt
is_told_at Broke e = tt
is_told_at PassedOver e = tt

-- the first told of two, where one has the result and the other has it if it is told
first_told : (a b r : Status) → is_told r ≡ true → (x : Side) → (by : Side → Status) → by A ≡ a → by B ≡ b → by x ≡ r → (is_told a ≡ true → a ≡ r) → cond (is_told a) a b ≡ r
first_told a b r t A by ea eb e h = let q : a ≡ r = sym ea ∙ e in ap (λ k. cond k a b) (ap is_told q ∙ t) ∙ q
first_told a b r t B by ea eb e h = elim (cases_Bool (is_told a)) [
  | inl y ↦ ap (λ k. cond k a b) y ∙ h y
  | inr n ↦ ap (λ k. cond k a b) n ∙ sym eb ∙ e
]

module _ (net : Net) (g : JobGraph) (t : Tables) (words : List ℕ) (exec : Execution) (cost : Cost) (silences : List Silence) (paces : List Pace) (is : IsSet net g t words exec) where
  abbrev pub plan : Plan
  plan = plan_of net g t words exec cost

  sound : IsSoundPlan plan (out_count net)
  sound = sound_plans net g t words exec cost is.graph is.tables

  some_skew : 0 < plan.skew
  some_skew = (let z = is.graph.is.rules.entry_rules.shape.precision in omega (arith, z.0))

  pub some_unit : 0 < plan.units
  some_unit = (let z = is.graph.is.rules.entry_rules.shape.units in omega (arith, z.0))

  some_ticks : 0 < plan.cycle
  some_ticks =
      let some_task : 0 < length net.tasks = (let z = is.graph.is.rules.entry_rules.counts.some_task in omega (arith, z)) in
      let n = sound.numbered 0 0 some_task (sound.every 0 some_task) in
      omega (arith, sound.long (plan.number 0 0) n.0, sound.within (plan.number 0 0) n.0)

  -- the cluster before a cycle: after events that may come, at the start of a cycle with these states, with no unit lost before
  pub record Before (events : List Event) (cycle : ℕ) (states : List (List ℤ)) : Type 0 where
    pub may : AllMay plan silences (IsLine net g.cycle) (first_state plan) events
    pub start : IsStart plan silences (steps plan silences (first_state plan) events)
    pub cycle_is : (settled plan (steps plan silences (first_state plan) events)).cycle ≡ cycle
    pub start_is : (settled plan (steps plan silences (first_state plan) events)).start ≡ states
    pub kept : (c u : ℕ) → c < cycle → u < plan.units → IsLost silences plan.cycle u c → ⊥

  fresh_at : (u : ℕ) (x : Side) → u < plan.units → member_of (first_state plan).members u x ≡ fresh_member plan u
  fresh_at u x l = listed_at (2 * plan.units) (λ n. fresh_member plan (n / 2)) (replica_number u x) no_member (number_within plan.units u x l) ∙ ap (fresh_member plan) (half u x)

  -- at first the replica with number 0 may act, so no cycle is over
  first_settled : settled plan (first_state plan) ≡ first_state plan
  first_settled = open_settled plan (first_state plan) 0 A (record {
    unit_is = some_unit;
    runs = ap (λ (m : Member). m.mode) (fresh_at 0 A some_unit);
    below = (let e : (member_of (first_state plan).members 0 A).held.clock ≡ 0 = ap (λ (m : Member). m.held.clock) (fresh_at 0 A some_unit) in omega (arith, e, some_ticks));
    close = λ v y l q. (let e : (member_of (first_state plan).members 0 A).held.clock ≡ 0 = ap (λ (m : Member). m.held.clock) (fresh_at 0 A some_unit) in omega (arith, e, some_skew));
  })

  first_starts : (first_state plan).start ≡ first_states words
  first_starts = ext_get_or [] (first_state plan).start (first_states words)
      (length_listed (length net.tasks) (λ task. replicate (slice_index words task) (pos 0)) ∙ sym (length-map words (λ (n : ℕ). replicate n (pos 0)) ∙ is.count))
      (λ task low.
      let l : task < length net.tasks = omega (arith, low, length_listed (length net.tasks) (λ task. replicate (slice_index words task) (pos 0))) in
      listed_at (length net.tasks) (λ task. replicate (slice_index words task) (pos 0)) task [] l
      ∙ sym (get_or-map (λ (n : ℕ). replicate n (pos 0)) words task 0 [] (omega (arith, l, is.count))))

  -- before the first cycle
  pub first_before : Before [] 0 (first_states words)
  first_before = record {
    may = tt;
    start = cycle_order.first plan silences some_ticks;
    cycle_is = ap (λ (w : State). w.cycle) first_settled;
    start_is = ap (λ (w : State). w.start) first_settled ∙ first_starts;
    kept = λ c u low l lost. omega (arith, low);
  }

  module _ (events : List Event) (cycle : ℕ) (states : List (List ℤ)) (h : Before events cycle states) (line : List ℤ) (fits : IsLine net g.cycle line)
      (kept : (u : ℕ) → u < plan.units → IsLost silences plan.cycle u cycle → ⊥) where
    abbrev pub s : State
    s = steps plan silences (first_state plan) events

    abbrev pub after : State
    after = after_cycle plan silences paces line s

    abbrev pub more : List Event
    more = events ++ cycle_events plan silences paces line s

    order : OfCycle plan silences paces line s
    order = cycle_order.each plan silences paces some_skew some_ticks line s h.start

    pub same : steps plan silences (first_state plan) more ≡ after
    same = steps_append plan silences (first_state plan) events (cycle_events plan silences paces line s)

    may : AllMay plan silences (IsLine net g.cycle) (first_state plan) more
    may = may_append plan silences (IsLine net g.cycle) (first_state plan) events (cycle_events plan silences paces line s) h.may
        (may_fit plan silences (IsLine net g.cycle) line fits s (cycle_events plan silences paces line s) order.may)

    after_is : after.cycle ≡ cycle
    after_is = order.cycle_is ∙ h.cycle_is

    none_lost : NoneLost plan silences after.cycle
    none_lost c u low l lost = elim (cases_lt c cycle) [
      | inl less ↦ h.kept c u less l lost
      | inr at ↦ kept u l (subst (IsLost silences plan.cycle u) (let z : c ≡ cycle = omega (arith, low, at, after_is) in z) lost)
    ]

    ends : Ends plan silences line after
    ends = order.ends (record { unit = 0; within = some_unit; kept = λ lost. kept 0 some_unit (subst (IsLost silences plan.cycle 0) h.cycle_is lost) })

    along_start : (start : List (List ℤ)) → Agrees plan (λ job. get_or (one_cycle net g.cycle exec start line).results job Skipped) (one_cycle net g.cycle exec start line).states after → start ≡ states
        → Agrees plan (λ job. result_at net g words exec cost states line job) (one_cycle net g.cycle exec states line).states after
    along_start start a e = subst (λ (w : List (List ℤ)). Agrees plan (λ job. get_or (one_cycle net g.cycle exec w line).results job Skipped) (one_cycle net g.cycle exec w line).states after) e a

    agrees : Agrees plan (λ job. result_at net g words exec cost states line job) (one_cycle net g.cycle exec states line).states after
    agrees =
        along_start after.start
        (subst (λ (w : State). AgreesAlong net g exec plan w line) same
        (agreement_holds net g t words exec cost silences is more may (subst (λ (w : State). NoneLost plan silences w.cycle) (sym same) none_lost) line
        (ap (λ (w : State). w.line) same ∙ ends.line_is)))
        (order.start_is ∙ h.start_is)

    -- what is shown of a job is its result along the net
    pub shown_right : (job : ℕ) → job < length g.jobs → shown_in plan after job ≡ told (result_at net g words exec cost states line job)
    shown_right job low =
        let u : ℕ = plan.unit job in
        let l : u < plan.units = sound.placed job low in
        let y = agrees.all_told ends.over u l in
        first_told (status_in (member_of after.members u A).held job) (status_in (member_of after.members u B).held job) (told (result_at net g words exec cost states line job))
        (told_true (result_at net g words exec cost states line job)) y.0 (λ x. status_in (member_of after.members u x).held job) refl refl (y.2 job low refl)
        (λ e. agrees.told_right u A job l low refl (is_told_at (status_in (member_of after.members u A).held job) e))

    -- and the next cycle may begin
    pub next_before : Before more (suc cycle) (one_cycle net g.cycle exec states line).states
    next_before =
        let turns : settled plan after ≡ turn plan after = ap (λ b. cond b (turn plan after) after) ends.over in
        let here = ap (settled plan) same ∙ turns in
        record {
          may = may;
          start = subst (IsStart plan silences) (sym same) ends.next;
          cycle_is = ap (λ (w : State). w.cycle) here ∙ ap suc after_is;
          start_is = ap (λ (w : State). w.start) here ∙ agrees.states ends.over;
          kept = λ c u low l lost. elim (cases_lt c cycle) [
            | inl less ↦ h.kept c u less l lost
            | inr at ↦ kept u l (subst (IsLost silences plan.cycle u) (let z : c ≡ cycle = omega (arith, low, at) in z) lost)
          ];
        }
