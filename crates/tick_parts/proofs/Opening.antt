-- The job of a unit that starts at a tick, and what the model has of all jobs then.
use Rattle.std.proofs.Common.{◌≡◌, ◌≢◌, ℕ, ◌<◌, inl, inr, List, [], length, get_or, set, map, ℤ, Option, None, Some, Bool, true, false, cond, refl, sym, ◌∙◌, ap, subst, arith}
use Rattle.std.specs.Prelude.{⊤, ◌&&◌, nat_eq, if◌then◌else◌}
use Rattle.std.specs.List.{position_or_len}
use Rattle.std.proofs.lemmas.Bool.{cases_eq, eq-eqb, ne_eqb}
use Rattle.std.proofs.lemmas.List.{get_or-map, length-map, length-set, get_or-set_same, get_or-set_other, ext_get_or}
use mathlib.Core.Path.{fun_ext}
use Rattle.agenda.specs.Due.{Agenda, FirstFrom}
use Rattle.graph.specs.Feeders.{from_task_of}
use Rattle.graph.specs.JobGraph.{JobGraph}
use Rattle.graph.specs.Jobs.{job_number}
use Rattle.graph.specs.NetGraph.{IsNetGraph}
use Rattle.graph.specs.declared.net.Net.{Net}
use Rattle.tables.specs.Named.{job_at, entry_at, no_entry}
use Rattle.tables.specs.Valid.{AreValid}
use Rattle.tables.specs.declared.rule.TableRule.TheVariants as rule
use Rattle.tables.specs.declared.table.JobEntry.{JobEntry}
use Rattle.tables.specs.declared.table.Tables.{Tables}
use Rattle.timetable.specs.Keys.{start_of, starts_in}
use Rattle.net_run.specs.NetRun.{Execution}
use Rattle.net_run.specs.Words.{carried, job_inputs}
use Rattle.job_book.specs.Known.{Known, Waiting, InHand, Gave, Broke, PassedOver, Book, known_in, status_of}
use Rattle.cluster_model.specs.State as status
use Rattle.replica_parts.specs.Inbox.{Taken, taken_at}
use Rattle.carried_words.specs.Says.{edge_says}
use Rattle.job_inputs.specs.Look.{looked_up, is_of}
use Rattle.cluster_plan.proofs.Inputs.{serves}
use Rattle.cluster_plan.proofs.Numbers.{ends_after}
use Rattle.cluster_model.specs.Effects.{starting, start_effects}
use Rattle.cluster_model.specs.Plan.{Plan, listed}
use Rattle.cluster_model.specs.PlanOf.{plan_of}
use Rattle.cluster_model.specs.Sound.{Serves}
use Rattle.cluster_model.specs.State.{Status, Held, Bus, given, status_in, state_in}
use Rattle.cluster_model.specs.Tick.{begun, fed, finds, took, opens}
use Rattle.cluster_model.specs.declared.effect.Effect.{Effect}
use Rattle.tick_parts.specs.Opens.{StartsAt}
use Rattle.tick_parts.specs.Tells.{Tells}
use Rattle.tick_parts.proofs.Lists.{listed_at, length_listed, flat_none, flat_one}

both_true : (a b : Bool) → a ≡ true → b ≡ true → (a && b) ≡ true
both_true a b ea eb = rw (ea, eb) refl

first_false : (a b : Bool) → a ≡ false → (a && b) ≡ false
first_false a b e = rw e refl

second_false : (a b : Bool) → b ≡ false → (a && b) ≡ false
second_false true b e = e
second_false false b e = refl

module _ (net : Net) (g : JobGraph) (t : Tables) (n : IsNetGraph net g) (v : AreValid net g t) (unit tick : ℕ) where
  -- the test that a job is the unit's and starts now
  abbrev pub opens_now : (job : ℕ) → Bool
  opens_now job = nat_eq (entry_at t job).unit unit && nat_eq (entry_at t job).start tick

  pub opens_true : (job : ℕ) → StartsAt t unit tick job → opens_now job ≡ true
  opens_true job is = both_true (nat_eq (entry_at t job).unit unit) (nat_eq (entry_at t job).start tick) (eq-eqb (entry_at t job).unit unit is.unit_is) (eq-eqb (entry_at t job).start tick is.start_is)

  pub opens_false : (job : ℕ) → (StartsAt t unit tick job → ⊥) → opens_now job ≡ false
  opens_false job other = elim (cases_eq (entry_at t job).unit unit) [
    | inl same ↦ elim (cases_eq (entry_at t job).start tick) [
      | inl now ↦ absurd (other (record { unit_is = same; start_is = now }))
      | inr later ↦ second_false (nat_eq (entry_at t job).unit unit) (nat_eq (entry_at t job).start tick) (ne_eqb (entry_at t job).start tick later)
    ]
    | inr differ ↦ first_false (nat_eq (entry_at t job).unit unit) (nat_eq (entry_at t job).start tick) (ne_eqb (entry_at t job).unit unit differ)
  ]

  -- at most one job of the unit starts at a tick
  pub one_starts : (job other : ℕ) → job < length g.jobs → other < length g.jobs → StartsAt t unit tick job → StartsAt t unit tick other → other ≡ job
  one_starts job other lj lo a b = elim (cases_eq other job) [
    | inl same ↦ same
    | inr differ ↦
        let ea = ends_after net g n t v job lj in let eb = ends_after net g n t v other lo in
        let sa = a.start_is in let sb = b.start_is in
        absurd ((v rule.Ticks) job other lj lo (λ e. differ (sym e)) (record { unit = a.unit_is ∙ sym b.unit_is; together = (tick, (omega (arith, sa), omega (arith, sa, ea)), (omega (arith, sb), omega (arith, sb, eb))) }))
  ]

  module _ (a : Agenda) (is : a ≡ starts_in g t unit) (low_tick : tick < g.cycle) where
    count : length a.due ≡ length g.jobs
    count = ap (λ (x : Agenda). length x.due) is ∙ length-map {B = ℕ} t.jobs (start_of g unit) ∙ (v rule.Jobs).count

    due_is : (job : ℕ) → job < length g.jobs → get_or a.due job 0 ≡ start_of g unit (entry_at t job)
    due_is job low = ap (λ (x : Agenda). get_or x.due job 0) is ∙ get_or-map (start_of g unit) t.jobs job no_entry 0 (omega (arith, low, (v rule.Jobs).count))

    by_start : (e : JobEntry) → start_of g unit e ≡ tick → (e.unit ≡ unit) × (e.start ≡ tick)
    by_start e h = elim (cases_eq e.unit unit) [
      | inl same ↦ (same, sym (ap (λ (b : Bool). if b then e.start else g.cycle) (eq-eqb e.unit unit same)) ∙ h)
      | inr differ ↦ (let c : g.cycle ≡ tick = sym (ap (λ (b : Bool). if b then e.start else g.cycle) (ne_eqb e.unit unit differ)) ∙ h in absurd (omega (arith, c, low_tick)))
    ]

    -- the first job of the agenda at the tick starts there
    pub first_starts : (o : Option ℕ) (job : ℕ) → o ≡ Some job → FirstFrom a.due 0 tick o → (job < length g.jobs) × StartsAt t unit tick job
    first_starts o job e first =
        let f : FirstFrom a.due 0 tick (Some job) = subst (λ (o : Option ℕ). FirstFrom a.due 0 tick o) e first in
        let w = f.is_due.within in
        let low : job < length g.jobs = omega (arith, w, count) in
        let s = by_start (entry_at t job) (sym (due_is job low) ∙ f.is_due.at) in
        (low, record { unit_is = s.0; start_is = s.1 })

    -- where there is none, no job does
    pub none_starts : FirstFrom a.due 0 tick None → (job : ℕ) → job < length g.jobs → StartsAt t unit tick job → ⊥
    none_starts none job low s = none job (omega arith) (record {
      within = omega (arith, low, count);
      at = due_is job low ∙ ap (λ (b : Bool). if b then (entry_at t job).start else g.cycle) (eq-eqb (entry_at t job).unit unit s.unit_is) ∙ s.start_is;
    })

  module _ (words : List ℕ) (exec : Execution) (cost : ℕ → List ℤ → List ℤ → ℕ) (bus : Bus) (line : List ℤ) (h : Held) (clock : h.clock ≡ tick) (book : Book) (tells : Tells book h)
      (taken : Taken) (takes : taken.words ≡ listed (length t.messages) (took (plan_of net g t words exec cost) bus unit h)) where
    abbrev pub plan : Plan
    plan = plan_of net g t words exec cost

    -- what a job takes
    abbrev pub ins_at : (job : ℕ) → Option (List ℤ)
    ins_at job = job_inputs net g.cycle line (looked_up net g t unit book taken (job_at g job).instance) (job_at g job).instance (job_at g job).task

    same_edge : (edge instance : ℕ) → fed (plan_of net g t words exec cost) (status_in h) edge instance ≡ edge_says net g.cycle book edge instance
    same_edge edge instance = ap (λ (f : ℕ → Option (List ℤ)). carried net f edge) (fun_ext (λ task. tells (job_number net g.cycle task instance)))

    same_look : (job edge : ℕ) → StartsAt t unit tick job → Serves (plan_of net g t words exec cost) job edge
        → finds (plan_of net g t words exec cost) bus unit h job edge ≡ looked_up net g t unit book taken (job_at g job).instance edge
    same_look job edge starts serves_it = by (nat_eq (entry_at t (job_number net g.cycle (from_task_of net edge) (job_at g job).instance)).unit unit) refl
      where
        by : (own : Bool) → nat_eq (entry_at t (job_number net g.cycle (from_task_of net edge) (job_at g job).instance)).unit unit ≡ own
            → cond own (fed (plan_of net g t words exec cost) (status_in h) edge (job_at g job).instance) (took (plan_of net g t words exec cost) bus unit h (position_or_len (is_of edge (job_at g job).instance) t.messages))
            ≡ cond own (edge_says net g.cycle book edge (job_at g job).instance) (taken_at taken (position_or_len (is_of edge (job_at g job).instance) t.messages))
        by true e = same_edge edge (job_at g job).instance
        by false e = elim serves_it.way [
          | inl here ↦ absurd (let s : true ≡ false = sym (eq-eqb (entry_at t (job_number net g.cycle (from_task_of net edge) (job_at g job).instance)).unit unit (here.0 ∙ starts.unit_is)) ∙ e in let clash : ⊥ = cc in clash)
          | inr there ↦
              sym (ap (λ (ws : List (Option (List ℤ))). get_or ws (position_or_len (is_of edge (job_at g job).instance) t.messages) None) takes
              ∙ listed_at (length t.messages) (took (plan_of net g t words exec cost) bus unit h) (position_or_len (is_of edge (job_at g job).instance) t.messages) None there.1.known)
        ]

    -- a job that starts takes what was put together
    pub inputs_are : (job : ℕ) → job < length g.jobs → StartsAt t unit tick job → (plan_of net g t words exec cost).inputs line (finds (plan_of net g t words exec cost) bus unit h job) job ≡ ins_at job
    inputs_are job low starts =
        serves net g t words exec cost n v job low line (finds (plan_of net g t words exec cost) bus unit h job) (looked_up net g t unit book taken (job_at g job).instance)
        (λ edge serves_it. same_look job edge starts serves_it)

    clock_test : (job : ℕ) → (nat_eq (entry_at t job).unit unit && nat_eq (entry_at t job).start h.clock) ≡ opens_now job
    clock_test job = ap (λ x. nat_eq (entry_at t job).unit unit && nat_eq (entry_at t job).start x) clock

    pub opens_it : (job : ℕ) → job < length g.jobs → StartsAt t unit tick job → opens (plan_of net g t words exec cost) bus unit h line job ≡ begun (state_in h (job_at g job).task) (ins_at job)
    opens_it job low starts =
        ap (λ (b : Bool). cond b (begun (state_in h (job_at g job).task) ((plan_of net g t words exec cost).inputs line (finds (plan_of net g t words exec cost) bus unit h job) job)) (status_in h job)) (clock_test job ∙ opens_true job starts)
        ∙ ap (begun (state_in h (job_at g job).task)) (inputs_are job low starts)

    pub opens_other : (job : ℕ) → (StartsAt t unit tick job → ⊥) → opens (plan_of net g t words exec cost) bus unit h line job ≡ status_in h job
    opens_other job other =
        ap (λ (b : Bool). cond b (begun (state_in h (job_at g job).task) ((plan_of net g t words exec cost).inputs line (finds (plan_of net g t words exec cost) bus unit h job) job)) (status_in h job)) (clock_test job ∙ opens_false job other)

    -- what is seen of it
    abbrev pub seen_at : (job : ℕ) → List Effect
    seen_at job = if nat_eq (entry_at t job).unit unit && nat_eq (entry_at t job).start h.clock then starting (plan_of net g t words exec cost) job (opens (plan_of net g t words exec cost) bus unit h line job) else []

    pub starts_none : ((job : ℕ) → job < length g.jobs → StartsAt t unit tick job → ⊥) → start_effects (plan_of net g t words exec cost) bus line unit h ≡ []
    starts_none none = flat_none seen_at 0 (length g.jobs)
        (λ job from to. ap (λ (b : Bool). if b then starting (plan_of net g t words exec cost) job (opens (plan_of net g t words exec cost) bus unit h line job) else []) (clock_test job ∙ opens_false job (none job (omega (arith, to)))))

    pub starts_one : (job : ℕ) → job < length g.jobs → StartsAt t unit tick job → start_effects (plan_of net g t words exec cost) bus line unit h ≡ starting (plan_of net g t words exec cost) job (begun (state_in h (job_at g job).task) (ins_at job))
    starts_one job low starts =
        flat_one seen_at 0 (length g.jobs) job (omega arith) (omega (arith, low))
        (λ other from to differ. ap (λ (b : Bool). if b then starting (plan_of net g t words exec cost) other (opens (plan_of net g t words exec cost) bus unit h line other) else [])
        (clock_test other ∙ opens_false other (λ s. differ (one_starts job other low (omega (arith, to)) starts s))))
        ∙ ap (λ (b : Bool). if b then starting (plan_of net g t words exec cost) job (opens (plan_of net g t words exec cost) bus unit h line job) else []) (clock_test job ∙ opens_true job starts)
        ∙ ap (starting (plan_of net g t words exec cost) job) (opens_it job low starts)

    module _ (state before : List ℤ) (held : h.jobs ≡ map (status_of state before) book.jobs) (size : length book.jobs ≡ length g.jobs) where
      status_at : (job : ℕ) → job < length g.jobs → status_in h job ≡ status_of state before (known_in book job)
      status_at job low = ap (λ (ss : List Status). get_or ss job status.Waiting) held ∙ get_or-map (status_of state before) book.jobs job Waiting status.Waiting (omega (arith, low, size))

      -- where no job starts, all stay
      pub all_stay : ((job : ℕ) → job < length g.jobs → StartsAt t unit tick job → ⊥) → map (status_of state before) book.jobs ≡ listed (length g.jobs) (opens (plan_of net g t words exec cost) bus unit h line)
      all_stay none = ext_get_or status.Waiting (map (status_of state before) book.jobs) (listed (length g.jobs) (opens (plan_of net g t words exec cost) bus unit h line))
          (length-map book.jobs (status_of state before) ∙ size ∙ sym (length_listed (length g.jobs) (opens (plan_of net g t words exec cost) bus unit h line)))
          (λ job low. let few : job < length g.jobs = omega (arith, low, length-map book.jobs (status_of state before), size) in
          sym (ap (λ (ss : List Status). get_or ss job status.Waiting) held)
          ∙ sym (opens_other job (none job few))
          ∙ sym (listed_at (length g.jobs) (opens (plan_of net g t words exec cost) bus unit h line) job status.Waiting few))

      -- where one starts, it is as it begins, and all others stay; none of them is in hand
      pub one_opens : (job : ℕ) (low : job < length g.jobs) → StartsAt t unit tick job → ((k : ℕ) → known_in book k ≢ InHand) → (s i : List ℤ) (known : Known) → status_of s i known ≡ begun (state_in h (job_at g job).task) (ins_at job)
          → map (status_of s i) (set book.jobs job known) ≡ listed (length g.jobs) (opens (plan_of net g t words exec cost) bus unit h line)
      one_opens job low starts free s i known is = ext_get_or status.Waiting (map (status_of s i) (set book.jobs job known)) (listed (length g.jobs) (opens (plan_of net g t words exec cost) bus unit h line))
          (length-map (set book.jobs job known) (status_of s i) ∙ length-set book.jobs job known ∙ size ∙ sym (length_listed (length g.jobs) (opens (plan_of net g t words exec cost) bus unit h line)))
          (λ k lk. let few : k < length g.jobs = omega (arith, lk, length-map (set book.jobs job known) (status_of s i), length-set book.jobs job known, size) in
          get_or-map (status_of s i) (set book.jobs job known) k Waiting status.Waiting (omega (arith, few, length-set book.jobs job known, size))
          ∙ elim (cases_eq k job) [
            | inl here ↦
                ap (λ x. status_of s i (get_or (set book.jobs job known) x Waiting)) here
                ∙ ap (status_of s i) (get_or-set_same book.jobs job known Waiting (omega (arith, low, size)))
                ∙ is ∙ sym (opens_it job low starts) ∙ ap (opens (plan_of net g t words exec cost) bus unit h line) (sym here)
                ∙ sym (listed_at (length g.jobs) (opens (plan_of net g t words exec cost) bus unit h line) k status.Waiting few)
            | inr other ↦
                ap (status_of s i) (get_or-set_other book.jobs job k known Waiting other)
                ∙ any_status s i state before (known_in book k) (free k)
                ∙ sym (status_at k few)
                ∙ sym (opens_other k (λ st. other (one_starts job k low few starts st)))
                ∙ sym (listed_at (length g.jobs) (opens (plan_of net g t words exec cost) bus unit h line) k status.Waiting few)
          ])
        where
          any_status : (s i s' i' : List ℤ) (known : Known) → known ≢ InHand → status_of s i known ≡ status_of s' i' known
          any_status s i s' i' Waiting other = refl
          any_status s i s' i' InHand other = absurd (other refl)
          any_status s i s' i' (Gave outs) other = refl
          any_status s i s' i' Broke other = refl
          any_status s i s' i' PassedOver other = refl

abbrev IsElse : Known → Type 0
IsElse Waiting = ⊤
IsElse InHand = ⊥
IsElse (Gave outs) = ⊤
IsElse Broke = ⊤
IsElse PassedOver = ⊤

-- where a job is skipped none is in hand but those that were
pub none_taken : (jobs : List Known) (job k : ℕ) → job < length jobs → get_or (set jobs job PassedOver) k Waiting ≡ InHand → get_or jobs k Waiting ≡ InHand
none_taken jobs job k low e = elim (cases_eq k job) [
  | inl here ↦ (let z : PassedOver ≡ InHand = sym (get_or-set_same jobs job PassedOver Waiting low) ∙ ap (λ x. get_or (set jobs job PassedOver) x Waiting) (sym here) ∙ e in absurd (subst IsElse z tt))
  | inr other ↦ sym (get_or-set_other jobs job k PassedOver Waiting other) ∙ e
]
