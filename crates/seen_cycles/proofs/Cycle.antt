-- The cycles that a cycle of a cluster shows of each job are those along the net.
use Rattle.std.proofs.Common.{◌≡◌, ℕ, suc, ◌*◌, ◌/◌, ◌<◌, ◌≤◌, inl, inr, ◌⊎◌, List, [], ◌∷◌, length, get_or, ℤ, true, false, cond, not, max, Option, Some, None, refl, sym, ◌∙◌, ap, subst, arith}
use Rattle.std.specs.List.{list_any, list_all}
use Rattle.std.proofs.lemmas.Bool.{cases_Bool, cases_lt, true≢false, and_parts}
use Rattle.std.proofs.lemmas.List.{get_or-map, length-map}
use Rattle.mars_base.specs.declared.shape.Side.{Side}
use Rattle.mars_base.specs.declared.shape.Side.TheVariants.{A, B}
use Rattle.script.specs.Running.{IsLost}
use Rattle.script.specs.declared.script.Pace.{Pace}
use Rattle.script.specs.declared.script.Silence.{Silence}
use Rattle.graph.proofs.Entries.{joined}
use Rattle.graph.specs.JobGraph.{JobGraph}
use Rattle.graph.specs.Jobs.{job_number}
use Rattle.graph.specs.Net.{instances}
use Rattle.graph.specs.declared.net.Net.{Net}
use Rattle.tables.specs.Named.{job_at}
use Rattle.tables.specs.declared.table.Tables.{Tables}
use Rattle.net_run.specs.Alike.{AreStates, IsLine}
use Rattle.net_run.specs.NetRun.{JobResult, Done, Broken, Skipped, Execution, given_by, state_of, state_before, result_of, inputs_of, one_cycle, first_states}
use Rattle.net_run.specs.Words.{carried}
use Rattle.net_run.proofs.Listed.{results_by_number}
use Rattle.net_run.proofs.Ports.{inputs_same, carried_same, edge_feeds, feeds}
use Rattle.cluster_model.specs.Cluster.{is_silent, is_through, is_over, turned, turn, settled, happens, IsLineOf, fresh_member, first_state}
use Rattle.cluster_model.specs.Plan.{Plan}
use Rattle.cluster_model.specs.PlanOf.{plan_of}
use Rattle.cluster_model.specs.PlanRun.{before, along, takes, AreResults}
use Rattle.cluster_model.specs.Silences.{falls}
use Rattle.cluster_model.specs.Sound.{IsSoundPlan, AreGiven}
use Rattle.cluster_model.specs.State.{Status, Waiting, Busy, Gave, Broke, PassedOver, told, given, status_in, Member, no_member, replica_number, member_of, State}
use Rattle.cluster_plan.specs.Follows.{out_count, along_graph}
use Rattle.cluster_plan.proofs.Numbers.{is_of}
use Rattle.cluster_plan.proofs.Results.{result_there, before_there}
use Rattle.cluster_plan.proofs.Whole.{sound_plans}
use Rattle.cluster_agreement.specs.Agreement.{IsSet}
use Rattle.cluster_agreement.specs.Runs.{Event, steps, NoneLost}
use Rattle.cluster_agreement.proofs.Along.{runs_graph}
use Rattle.cluster_agreement.proofs.Losses.{one_runs}
use Rattle.cluster_agreement.proofs.Reading.{listed_at, number_within}
use Rattle.cluster_agreement.proofs.Slots.{length_listed}
use Rattle.cluster_agreement.proofs.Whole.{RunsGraph, HoldsIn, Sits, left_fits, turn_holds, events_sit}
use Rattle.cycle_events.specs.Events.{cycle_events, after_cycle, paces_of}
use Rattle.cycle_events.specs.Order.{OfCycle, Ends}
use Rattle.cycle_events.proofs.Acting.{open_settled}
use Rattle.cycle_events.proofs.Lists.{AllHere, all_here}
use Rattle.cycle_events.proofs.Whole.{cycle_order}
use Rattle.event_effects.specs.Effects.{effects_in, most_taken, taken_in}
use Rattle.plant_run.specs.PlantRun.{Cost}
use Rattle.run_texts.specs.Along.{spent, result_at}
use Rattle.run_agreement.specs.ClusterRun.{is_told, shown_in}
use Rattle.run_agreement.proofs.Cycle.{Before, more, same, shown_right, next_before, first_before, some_unit}
use Rattle.seen_cycles.proofs.Event.{is_done, worth}
use Rattle.seen_cycles.proofs.Events.{all_most, all_least}

told_given : (r : JobResult) → given (told r) ≡ given_by r
told_given (Done results) = refl
told_given Broken = refl
told_given Skipped = refl

half : (u : ℕ) (x : Side) → replica_number u x / 2 ≡ u
half u A = omega arith
half u B = omega arith

-- events that are enabled in a state show there what they show of it between two cycles
taken_settled : (p : Plan) (silences : List Silence) (line : List ℤ) (job : ℕ) (s : State) (events : List Event) → AllHere p silences line (settled p s) events
    → taken_in p silences job s events ≡ taken_in p silences job (settled p s) events
taken_settled p silences line job s [] a = refl
taken_settled p silences line job s (e ∷ events) a = ap
    (λ (w : State). max (most_taken p silences job (effects_in p silences w e)) (taken_in p silences job (happens p silences e.line e.unit e.side w) events))
    (sym (open_settled p (settled p s) e.unit e.side a.0))

steps_settled : (p : Plan) (silences : List Silence) (line : List ℤ) (s : State) (e : Event) (events : List Event) → AllHere p silences line (settled p s) (e ∷ events)
    → steps p silences s (e ∷ events) ≡ steps p silences (settled p s) (e ∷ events)
steps_settled p silences line s e events a =
    ap (λ (w : State). steps p silences (happens p silences e.line e.unit e.side w) events) (sym (open_settled p (settled p s) e.unit e.side a.0))

-- of what is shown, one of the two replicas knows it
of_two : (a b : Status) → is_done (cond (is_told a) a b) ≡ true → (is_done a ≡ true) ⊎ (is_done b ≡ true)
of_two Waiting b e = inr e
of_two (Busy state ins) b e = inr e
of_two (Gave outs) b e = inl refl
of_two Broke b e = inl e
of_two PassedOver b e = inl e

done_or_nothing : (cost : Cost) (task : ℕ) (state : List ℤ) (o : Option (List ℤ)) (r : JobResult) → (is_done (told r) ≡ true) ⊎ (spent cost task state o r ≡ 0)
done_or_nothing cost task state o (Done results) = inl refl
done_or_nothing cost task state None Broken = inr refl
done_or_nothing cost task state (Some ins) Broken = inr refl
done_or_nothing cost task state None Skipped = inr refl
done_or_nothing cost task state (Some ins) Skipped = inr refl

-- all jobs wait
abbrev Fresh : Plan → State → Type 0
Fresh p s = (u : ℕ) (x : Side) (job : ℕ) → u < p.units → job < p.jobs → status_in (member_of s.members u x).held job ≡ Waiting

turned_fresh : (p : Plan) (s : State) → length s.members ≡ 2 * p.units → Fresh p (turn p s)
turned_fresh p s size u x job l b =
    ap (λ (m : Member). status_in m.held job) (get_or-map (turned p) s.members (replica_number u x) no_member no_member (omega (arith, number_within p.units u x l, size)))
    ∙ listed_at p.jobs (λ j. Waiting) job Waiting b

module _ (net : Net) (g : JobGraph) (t : Tables) (words : List ℕ) (exec : Execution) (cost : Cost) (silences : List Silence) (paces : List Pace) (is : IsSet net g t words exec) where
  abbrev plan : Plan
  plan = plan_of net g t words exec cost

  abbrev sound : IsSoundPlan plan (out_count net)
  sound = sound_plans net g t words exec cost is.graph is.tables

  abbrev graphs : RunsGraph plan (out_count net) (AreStates net words) (IsLine net g.cycle) (along_graph net plan exec)
  graphs = runs_graph net g t words exec cost is

  some_skew : 0 < plan.skew
  some_skew = (let z = is.graph.is.rules.entry_rules.shape.precision in omega (arith, z.0))

  some_ticks : 0 < plan.cycle
  some_ticks =
      let some_task : 0 < length net.tasks = (let z = is.graph.is.rules.entry_rules.counts.some_task in omega (arith, z)) in
      let n = sound.numbered 0 0 some_task (sound.every 0 some_task) in
      omega (arith, sound.long (plan.number 0 0) n.0, sound.within (plan.number 0 0) n.0)

  abbrev IsBefore : (events : List Event) → (cycle : ℕ) → (states : List (List ℤ)) → Type 0
  IsBefore events cycle states = Before net g t words exec cost silences paces is events cycle states

  -- the cluster before a cycle, and then each job waits
  pub record Begins (events : List Event) (cycle : ℕ) (states : List (List ℤ)) : Type 0 where
    pub before_is : IsBefore events cycle states
    pub fresh : Fresh plan (settled plan (steps plan silences (first_state plan) events))

  fresh_at : (u : ℕ) (x : Side) → u < plan.units → member_of (first_state plan).members u x ≡ fresh_member plan u
  fresh_at u x l = listed_at (2 * plan.units) (λ n. fresh_member plan (n / 2)) (replica_number u x) no_member (number_within plan.units u x l) ∙ ap (fresh_member plan) (half u x)

  first_fresh : Fresh plan (first_state plan)
  first_fresh u x job l b = ap (λ (m : Member). status_in m.held job) (fresh_at u x l) ∙ listed_at plan.jobs (λ j. Waiting) job Waiting b

  abbrev SitsHere : State → Type 0
  SitsHere s = Sits plan silences (out_count net) (AreStates net words) (IsLine net g.cycle) (along_graph net plan exec) sound graphs s

  pub first_begins : Begins [] 0 (first_states words)
  first_begins = record {
    before_is = first_before net g t words exec cost silences paces is;
    fresh = elim (cases_Bool (is_over plan (first_state plan).members)) [
      | inr n ↦ subst (Fresh plan) (sym (ap (λ b. cond b (turn plan (first_state plan)) (first_state plan)) n)) first_fresh
      | inl o ↦ subst (Fresh plan) (sym (ap (λ b. cond b (turn plan (first_state plan)) (first_state plan)) o))
          (turned_fresh plan (first_state plan) (length_listed (2 * plan.units) (λ n. fresh_member plan (n / 2))))
    ];
  }

  -- what a job takes along the net is what it takes along the plan
  module _ (start : List (List ℤ)) (line : List ℤ) (job : ℕ) (low : job < length g.jobs) where
    abbrev res : ℕ → JobResult
    res = along_graph net plan exec start line

    takes_there : inputs_of net g.cycle exec line start (job_at g job).instance (job_at g job).task ≡ takes plan line res job
    takes_there =
        let h = is_of net g is.graph job low in
        inputs_same net g.cycle line
        (carried net (λ from. given_by (result_of net g.cycle exec line start (job_at g job).instance from)))
        (λ edge. along plan res edge (job_at g job).instance) (job_at g job).instance (job_at g job).task
        (λ port edge inside e.
        let f = edge_feeds net (job_at g job).task port edge e in
        let w = joined net is.graph.is.rules.entry_rules.entries f.edge.from_task (job_at g job).task (feeds net (job_at g job).task port edge f) in
        let run : (job_at g job).instance < instances net g.cycle f.edge.from_task =
        subst (λ period. (job_at g job).instance < g.cycle / period) (sym w.2) h.instance in
        carried_same net
        (λ from. given_by (result_of net g.cycle exec line start (job_at g job).instance from))
        (λ from. given (told (res (job_number net g.cycle from (job_at g job).instance))))
        (job_at g job).task port edge f
        (sym (told_given (result_of net g.cycle exec line start (job_at g job).instance f.edge.from_task))
        ∙ ap (λ r. given (told r)) (sym (result_there net g t words exec cost is.graph start line f.edge.from_task (job_at g job).instance w.0 run))))

    result_is : result_at net g words exec cost start line job ≡ res job
    result_is =
        let h = is_of net g is.graph job low in
        ap (λ k. get_or (one_cycle net g.cycle exec start line).results k Skipped) (sym h.number)
        ∙ results_by_number net g.cycle exec start line (job_at g job).instance (job_at g job).task h.task h.instance

    -- the cycles of a job along the net
    abbrev along_cost : ℕ
    along_cost =
        spent cost (job_at g job).task (state_before net g.cycle exec line start (job_at g job).instance (job_at g job).task)
        (inputs_of net g.cycle exec line start (job_at g job).instance (job_at g job).task) (result_at net g words exec cost start line job)

    spent_is : spent cost (job_at g job).task (before plan (state_of start) res (job_at g job).task (job_at g job).instance) (takes plan line res job) (res job) ≡ along_cost
    spent_is =
        let h = is_of net g is.graph job low in
        ap (λ st. spent cost (job_at g job).task st (takes plan line res job) (res job))
        (before_there net g t words exec cost is.graph start line (job_at g job).task (job_at g job).instance h.task (omega (arith, h.instance)))
        ∙ ap (λ o. spent cost (job_at g job).task (state_before net g.cycle exec line start (job_at g job).instance (job_at g job).task) o (res job)) (sym takes_there)
        ∙ ap
        (spent cost (job_at g job).task (state_before net g.cycle exec line start (job_at g job).instance (job_at g job).task)
        (inputs_of net g.cycle exec line start (job_at g job).instance (job_at g job).task))
        (sym result_is)

  module _ (events : List Event) (cycle : ℕ) (states : List (List ℤ)) (h : Begins events cycle states) (line : List ℤ) (fits : IsLine net g.cycle line)
      (kept : (u : ℕ) → u < plan.units → IsLost silences plan.cycle u cycle → ⊥) where
    abbrev s : State
    s = steps plan silences (first_state plan) events

    abbrev at : State
    at = settled plan s

    abbrev here_events : List Event
    here_events = cycle_events plan silences paces line s

    grows : s.cycle ≤ at.cycle
    grows = elim (is_over plan s.members) as (λ b. s.cycle ≤ (cond b (turn plan s) s).cycle) [ true ↦ omega arith | false ↦ omega arith ]

    none_lost : (k : ℕ) → k ≤ cycle → NoneLost plan silences k
    none_lost k most c u low l lost = elim (cases_lt c cycle) [
      | inl less ↦ h.before_is.kept c u less l lost
      | inr up ↦ kept u l (subst (IsLost silences plan.cycle u) (let z : c ≡ cycle = omega (arith, low, up, most) in z) lost)
    ]

    runs_in : (k : ℕ) → k ≤ cycle → (u : ℕ) → u < plan.units → (x : Side) × ((tick : ℕ) → tick < plan.cycle → falls silences u x k tick ≡ false)
    runs_in k most u l = one_runs silences plan.cycle k u (none_lost k most k u (omega arith) l)

    sits : SitsHere s
    sits = events_sit plan silences (out_count net) (AreStates net words) (IsLine net g.cycle) (along_graph net plan exec) sound graphs events
        (none_lost s.cycle (omega (arith, grows, h.before_is.cycle_is))) h.before_is.may

    some_line : (l : List ℤ) × IsLineOf s l × IsLine net g.cycle l
    some_line = by s.line refl
      where
        by : (o : Option (List ℤ)) → s.line ≡ o → (l : List ℤ) × IsLineOf s l × IsLine net g.cycle l
        by None e = (line, λ other f. absurd (let z : None ≡ Some other = sym e ∙ f in cc), fits)
        by (Some l) e = (l, λ other f. (let z : Some other ≡ Some l = sym f ∙ e in cc), sits.line l e)

    abbrev Stands : State → Type 0
    Stands w = HoldsIn plan silences (out_count net) (AreStates net words) (IsLine net g.cycle) (along_graph net plan exec) sound graphs w.cycle w.start line w.members × AreStates net words w.start

    stands : Stands at
    stands = elim (cases_Bool (is_over plan s.members)) [
      | inr n ↦
          let same_state : at ≡ s = ap (λ b. cond b (turn plan s) s) n in
          let none : s.line ≡ None = ap (λ (w : State). w.line) (sym same_state) ∙ h.before_is.start.fresh in
          subst Stands (sym same_state) (sits.holds line (λ other f. absurd (let z : None ≡ Some other = sym none ∙ f in cc)) fits, sits.start)
      | inl o ↦
          let through = (and_parts (list_any (λ (m : Member). not (is_silent m.mode)) s.members) (list_all (is_through plan) s.members) o).1 in
          let runs = runs_in s.cycle (omega (arith, grows, h.before_is.cycle_is)) in
          subst Stands (sym (ap (λ b. cond b (turn plan s) s) o)) (
            turn_holds plan silences (out_count net) (AreStates net words) (IsLine net g.cycle) (along_graph net plan exec) sound graphs s sits runs through some_line.0 some_line.1 some_line.2 line,
            left_fits plan silences (out_count net) (AreStates net words) (IsLine net g.cycle) (along_graph net plan exec) sound graphs s sits runs through some_line.0 some_line.1 some_line.2,
          )
    ]

    order : OfCycle plan silences paces line s
    order = cycle_order.each plan silences paces some_skew some_ticks line s h.before_is.start

    enabled : AllHere plan silences line at here_events
    enabled = all_here plan silences line at (paces_of paces at.cycle)

    after_is : after_cycle plan silences paces line s ≡ steps plan silences at here_events
    after_is = by here_events refl enabled
      where
        by : (l : List Event) → here_events ≡ l → AllHere plan silences line at l → steps plan silences s l ≡ steps plan silences at l
        by [] e a = elim (cases_Bool (is_over plan s.members)) [
          | inr n ↦ sym (ap (λ b. cond b (turn plan s) s) n)
          | inl o ↦
              let turns : at.cycle ≡ suc s.cycle = ap (λ b. (cond b (turn plan s) s).cycle) o in
              let stays : (after_cycle plan silences paces line s).cycle ≡ s.cycle = ap (λ l. (steps plan silences s l).cycle) e in
              absurd (omega (arith, turns, stays, order.cycle_is))
        ]
        by (e ∷ l) q a = steps_settled plan silences line s e l a

    ends : Ends plan silences line (after_cycle plan silences paces line s)
    ends = order.ends (record { unit = 0; within = some_unit net g t words exec cost silences paces is; kept = λ lost. kept 0 (some_unit net g t words exec cost silences paces is) (subst (IsLost silences plan.cycle 0) h.before_is.cycle_is lost) })

    pub next_begins : Begins (more net g t words exec cost silences paces is events cycle states h.before_is line fits kept) (suc cycle) (one_cycle net g.cycle exec states line).states
    next_begins =
        let done : State = after_cycle plan silences paces line s in
        let turns : settled plan done ≡ turn plan done = ap (λ b. cond b (turn plan done) done) ends.over in
        let size : length done.members ≡ 2 * plan.units =
        sym (length-map done.members (turned plan)) ∙ ap (λ (w : State). length w.members) (sym turns) ∙ ends.next.stands.size in
        record {
          before_is = next_before net g t words exec cost silences paces is events cycle states h.before_is line fits kept;
          fresh = subst (λ (w : State). Fresh plan (settled plan w)) (sym (same net g t words exec cost silences paces is events cycle states h.before_is line fits kept))
              (subst (Fresh plan) (sym turns) (turned_fresh plan done size));
        }

    module _ (job : ℕ) (low : job < length g.jobs) where
      abbrev results : AreResults plan (state_of at.start) line (along_graph net plan exec at.start line)
      results = graphs.results at.start line stands.1 fits

      abbrev given_fit : AreGiven plan (out_count net) (λ j. told (along_graph net plan exec at.start line j))
      given_fit = graphs.given at.start line stands.1 fits

      abbrev value : ℕ
      value = worth plan silences at.cycle (state_of at.start) line (along_graph net plan exec at.start line) (out_count net) sound results given_fit (runs_in at.cycle (omega (arith, h.before_is.cycle_is))) job low

      idle : (u : ℕ) (x : Side) → u < plan.units → (plan.unit job ≡ u → ⊥) → status_in (member_of at.members u x).held job ≡ Waiting
      idle u x l n = h.fresh u x job l low

      not_yet : (y : Side) → is_done (status_in (member_of at.members (plan.unit job) y).held job) ≡ true → ⊥
      not_yet y e = true≢false (sym e ∙ ap is_done (h.fresh (plan.unit job) y job (sound.placed job low) low))

      shown : (y : Side) → is_done (status_in (member_of (after_cycle plan silences paces line s).members (plan.unit job) y).held job) ≡ true → value ≤ taken_in plan silences job at here_events
      shown y e = all_least plan silences at.cycle (state_of at.start) line (along_graph net plan exec at.start line) (out_count net) sound results given_fit (runs_in at.cycle (omega (arith, h.before_is.cycle_is))) job low
          here_events at refl stands.0 idle enabled y (not_yet y)
          (subst (λ (w : State). is_done (status_in (member_of w.members (plan.unit job) y).held job) ≡ true) after_is e)

      at_least : value ≤ taken_in plan silences job at here_events
      at_least = elim (done_or_nothing cost (plan.task job) (before plan (state_of at.start) (along_graph net plan exec at.start line) (plan.task job) (plan.instance job)) (takes plan line (along_graph net plan exec at.start line) job) (along_graph net plan exec at.start line job)) [
        | inr none ↦ omega (arith, none)
        | inl done ↦
            let known : shown_in plan (after_cycle plan silences paces line s) job ≡ told (along_graph net plan exec at.start line job) =
            shown_right net g t words exec cost silences paces is events cycle states h.before_is line fits kept job low
            ∙ ap told (result_is states line job low)
            ∙ ap (λ st. told (along_graph net plan exec st line job)) (sym h.before_is.start_is) in
            elim (of_two (status_in (member_of (after_cycle plan silences paces line s).members (plan.unit job) A).held job) (status_in (member_of (after_cycle plan silences paces line s).members (plan.unit job) B).held job) (ap is_done known ∙ done)) [
              | inl a ↦ shown A a
              | inr b ↦ shown B b
            ]
      ]

      -- what the events of a cycle show of a job is what it takes along the net
      pub taken_right : taken_in plan silences job s here_events ≡ along_cost states line job low
      taken_right =
          let most = all_most plan silences at.cycle (state_of at.start) line (along_graph net plan exec at.start line) (out_count net) sound results given_fit (runs_in at.cycle (omega (arith, h.before_is.cycle_is))) job low
          here_events at refl stands.0 idle enabled in
          taken_settled plan silences line job s here_events enabled
          ∙ (let z : taken_in plan silences job at here_events ≡ value = omega (arith, most, at_least) in z)
          ∙ spent_is at.start line job low
          ∙ ap (λ st. along_cost st line job low) h.before_is.start_is
