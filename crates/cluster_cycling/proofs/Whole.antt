-- A run cycle by cycle writes the text of a cluster's run, and of its trace.
use Rattle.std.proofs.Common.{◌≡◌, ℕ, zero, suc, ◌+◌, ◌<◌, ◌≤◌, List, [], ◌++◌, length, ℤ, Bool, true, false, cond, max, refl, sym, ◌∙◌, ap, arith}
use Rattle.std.specs.Prelude.{slice_index}
use Rattle.std.specs.List.{range_with_len, flat_map}
use Rattle.std.proofs.lemmas.Bool.{cases_Bool, true≢false}
use Rattle.std.proofs.lemmas.List.{append_assoc, append-nil}
use Rattle.script.specs.declared.script.Pace.{Pace}
use Rattle.script.specs.declared.script.Silence.{Silence}
use Rattle.lines.specs.Lines.{Lines, End, Bad, Line}
use Rattle.graph.specs.JobGraph.{JobGraph}
use Rattle.graph.specs.Net.{instances}
use Rattle.graph.specs.declared.net.Net.{Net}
use Rattle.tables.specs.declared.table.Tables.{Tables}
use Rattle.net_run.specs.NetRun.{Execution}
use Rattle.cluster_plan.proofs.Whole.{sound_plans}
use Rattle.cluster_agreement.specs.Agreement.{IsSet}
use Rattle.cluster_agreement.proofs.Reading.{listed_at}
use Rattle.cluster_model.specs.Cluster.{turn, settled, first_state}
use Rattle.cluster_model.specs.Plan.{Plan, listed}
use Rattle.cluster_model.specs.PlanOf.{plan_of}
use Rattle.cluster_model.specs.State.{State}
use Rattle.cycle_events.specs.Events.{cycle_events, after_cycle}
use Rattle.cycle_events.specs.Order.{IsStart, SomeIsKept, Ends, OfCycle}
use Rattle.cycle_events.proofs.Whole.{cycle_order}
use Rattle.cycle_runs.specs.Cycling.{text_from, ending_from as ending_along, by_end}
use Rattle.cycle_runs.specs.declared.ended.CycleEnd.{CycleEnd}
use Rattle.cycle_runs.specs.declared.ended.CycleEnd.TheVariants as cycle_end
use Rattle.event_effects.specs.Effects.{taken_in}
use Rattle.plant_run.specs.PlantRun.{Cost}
use Rattle.run_texts.specs.Lines.{task_line}
use Rattle.run_texts.specs.RunText.{Going, RunEnding, Lost, Broken, lost_text, broken_text, some_broke, outs_text, most, closing, closed, cycles_from, ending_from, seen_from}
use Rattle.run_texts.specs.Setting.{Setting, name_of_task, is_lost, some_lost}
use Rattle.run_agreement.specs.Agreement.{setting}
use Rattle.run_agreement.specs.ClusterRun.{along_cluster}
use Rattle.run_agreement.specs.Trace.{events_text, trace_from}
use Rattle.run_agreement.proofs.Cycle.{first_before}
use Rattle.run_agreement.proofs.Losses.{any_from, lost_units}
use Rattle.cluster_cycling.specs.Cycling.{cycle_of, status_after, seen_after, run_cycling, trace_cycling, first_ongoing}
use Rattle.cluster_cycling.specs.Laws.{CyclingIsText}

flat_same : (f h : ℕ → List ℕ) (a n : ℕ) → ((j : ℕ) → a ≤ j → j < a + n → f j ≡ h j) → flat_map f (range_with_len a n) ≡ flat_map h (range_with_len a n)
flat_same f h a zero q = refl
flat_same f h a (suc n) q =
    ap (λ x. x ++ flat_map f (range_with_len (a + 1) n)) (q a (omega arith) (omega arith))
    ∙ ap (λ x. h a ++ x) (flat_same f h (a + 1) n (λ j low high. q j (omega (arith, low)) (omega (arith, high))))

-- what a list has at a place, by its numbers
at_listed : (n : ℕ) (f : ℕ → ℕ) (k : ℕ) → k < n → slice_index (listed n f) k ≡ f k
at_listed n f k low = listed_at n f k 0 low

module _ (s : Setting) where
  closing_same : (one two : ℕ → ℕ) → ((task : ℕ) → task < length s.net.tasks → one task ≡ two task) → closing s one ≡ closing s two
  closing_same one two h =
      flat_same (λ task. task_line (name_of_task s task) (slice_index s.maxts task) (one task)) (λ task. task_line (name_of_task s task) (slice_index s.maxts task) (two task)) 0 (length s.net.tasks)
      (λ task low high. ap (task_line (name_of_task s task) (slice_index s.maxts task)) (h task (omega (arith, high))))

  -- a cycle's text with what comes after it, by whether a unit is lost and a job is broken
  run_chosen : (b c : Bool) (lost broken outs more rest : List ℕ) (ending : RunEnding) (seen : ℕ → ℕ) → (b ≡ false → more ≡ rest ++ closed s ending seen)
      → cond b lost (cond c broken outs) ++ by_end (cond b cycle_end.Lost (cond c cycle_end.Broken cycle_end.Clean)) more [] []
      ≡ cond b lost (cond c broken (outs ++ rest)) ++ closed s (cond b Lost (cond c Broken ending)) seen
  run_chosen true c lost broken outs more rest ending seen h = refl
  run_chosen false true lost broken outs more rest ending seen h = refl
  run_chosen false false lost broken outs more rest ending seen h = ap (λ x. outs ++ x) (h refl) ∙ sym (append_assoc outs rest (closed s ending seen))

  trace_chosen : (b c : Bool) (events lost broken more rest : List ℕ) (ending : RunEnding) (seen : ℕ → ℕ) → (b ≡ false → more ≡ rest ++ closed s ending seen)
      → (events ++ cond b lost (cond c broken [])) ++ by_end (cond b cycle_end.Lost (cond c cycle_end.Broken cycle_end.Clean)) more [] []
      ≡ (events ++ cond b lost (cond c broken rest)) ++ closed s (cond b Lost (cond c Broken ending)) seen
  trace_chosen true c events lost broken more rest ending seen h = refl
  trace_chosen false true events lost broken more rest ending seen h = refl
  trace_chosen false false events lost broken more rest ending seen h =
      ap (λ x. x ++ more) (append-nil events) ∙ ap (λ x. events ++ x) (h refl) ∙ sym (append_assoc events rest (closed s ending seen))

-- how it ends, by the same
end_chosen : (b c : Bool) (one two : RunEnding) → (b ≡ false → one ≡ two)
    → by_end (cond b cycle_end.Lost (cond c cycle_end.Broken cycle_end.Clean)) one Broken Lost ≡ cond b Lost (cond c Broken two)
end_chosen true c one two h = refl
end_chosen false true one two h = refl
end_chosen false false one two h = h refl

module _ (net : Net) (g : JobGraph) (t : Tables) (words maxts : List ℕ) (exec : Execution) (cost : Cost) (silences : List Silence) (paces : List Pace) (is : IsSet net g t words exec) where
  abbrev plan : Plan
  plan = plan_of net g t words exec cost

  abbrev here : Setting
  here = setting net g t maxts silences

  abbrev cluster : Going State
  cluster = along_cluster plan silences paces

  abbrev number : State → ℕ
  number state = (settled plan state).cycle

  some_skew : 0 < plan.skew
  some_skew = (let z = is.graph.is.rules.entry_rules.shape.precision in omega (arith, z.0))

  some_unit : 0 < plan.units
  some_unit = (let z = is.graph.is.rules.entry_rules.shape.units in omega (arith, z.0))

  some_ticks : 0 < plan.cycle
  some_ticks =
      let sound = sound_plans net g t words exec cost is.graph is.tables in
      let some_task : 0 < length net.tasks = (let z = is.graph.is.rules.entry_rules.counts.some_task in omega (arith, z)) in
      let n = sound.numbered 0 0 some_task (sound.every 0 some_task) in
      omega (arith, sound.long (plan.number 0 0) n.0, sound.within (plan.number 0 0) n.0)

  -- a cycle in which no unit is lost leads to the start of the next
  module _ (state : State) (line : List ℤ) (start : IsStart plan silences state) (n : some_lost here (number state) ≡ false) where
    abbrev after : State
    after = after_cycle plan silences paces line state

    order : OfCycle plan silences paces line state
    order = cycle_order.each plan silences paces some_skew some_ticks line state start

    kept : SomeIsKept plan silences (number state)
    kept = record {
      unit = 0;
      within = some_unit;
      kept = λ lost. true≢false (sym (any_from (is_lost here (number state)) 0 net.shape.units 0 (omega arith) (omega (arith, some_unit)) ((lost_units here (number state) 0).1 lost)) ∙ n);
    }

    ends : Ends plan silences line after
    ends = order.ends kept

    next_start : IsStart plan silences after
    next_start = ends.next

    next_number : number after ≡ suc (number state)
    next_number = ap (λ b. (cond b (turn plan after) after).cycle) ends.over ∙ ap suc order.cycle_is

  -- the most cycles of each task after a cycle
  module _ (state : State) (line : List ℤ) (seen : List ℕ) (known : ℕ → ℕ) (h : (task : ℕ) → task < length net.tasks → slice_index seen task ≡ known task) where
    abbrev then_known : ℕ → ℕ
    then_known task = max (known task) (most here (cluster.cycles state line) task (instances net g.cycle task))

    then_same : (task : ℕ) → task < length net.tasks → slice_index (seen_after here plan paces (record { state = state; seen = seen }) line) task ≡ then_known task
    then_same task low =
        at_listed (length net.tasks) (λ task. max (slice_index seen task) (most here (cluster.cycles state line) task (instances net g.cycle task))) task low
        ∙ ap (λ k. max k (most here (cluster.cycles state line) task (instances net g.cycle task))) (h task low)

  run_from : (lines : Lines) (state : State) (seen : List ℕ) (known : ℕ → ℕ) → IsStart plan silences state → ((task : ℕ) → task < length net.tasks → slice_index seen task ≡ known task)
      → (text_from (run_cycling here plan paces) (record { state = state; seen = seen }) lines
      ≡ cycles_from here cluster (number state) state lines ++ closed here (ending_from here cluster (number state) state lines) (seen_from here cluster state known lines))
      × (ending_along (run_cycling here plan paces) (record { state = state; seen = seen }) lines ≡ ending_from here cluster (number state) state lines)
  run_from End state seen known start h = (closing_same here (slice_index seen) known h, refl)
  run_from (Bad n) state seen known start h = (refl, refl)
  run_from (Line line rest) state seen known start h =
      let then : State = after_cycle plan silences paces line state in
      let more : List ℕ = seen_after here plan paces (record { state = state; seen = seen }) line in
      let grown : ℕ → ℕ = then_known state line seen known h in
      let b : Bool = some_lost here (number state) in
      let c : Bool = some_broke here (number state) (cluster.status state line) in
      let go = λ (n : b ≡ false). run_from rest then more grown (next_start state line start n) (then_same state line seen known h) in
      let up = λ (n : b ≡ false). next_number state line start n in (
        run_chosen here b c (lost_text here (number state)) (broken_text here (number state) (cluster.status state line)) (outs_text here (number state) (cluster.status state line))
            (text_from (run_cycling here plan paces) (record { state = then; seen = more }) rest) (cycles_from here cluster (suc (number state)) then rest)
            (ending_from here cluster (suc (number state)) then rest) (seen_from here cluster then grown rest)
            (λ n. (go n).0 ∙ ap (λ k. cycles_from here cluster k then rest ++ closed here (ending_from here cluster k then rest) (seen_from here cluster then grown rest)) (up n)),
        end_chosen b c (ending_along (run_cycling here plan paces) (record { state = then; seen = more }) rest) (ending_from here cluster (suc (number state)) then rest)
            (λ n. (go n).1 ∙ ap (λ k. ending_from here cluster k then rest) (up n)),
      )

  traced_from : (lines : Lines) (state : State) (seen : List ℕ) (known : ℕ → ℕ) → IsStart plan silences state → ((task : ℕ) → task < length net.tasks → slice_index seen task ≡ known task)
      → (text_from (trace_cycling here plan paces) (record { state = state; seen = seen }) lines
      ≡ trace_from here plan paces (number state) state lines ++ closed here (ending_from here cluster (number state) state lines) (seen_from here cluster state known lines))
      × (ending_along (trace_cycling here plan paces) (record { state = state; seen = seen }) lines ≡ ending_from here cluster (number state) state lines)
  traced_from End state seen known start h = (closing_same here (slice_index seen) known h, refl)
  traced_from (Bad n) state seen known start h = (refl, refl)
  traced_from (Line line rest) state seen known start h =
      let then : State = after_cycle plan silences paces line state in
      let more : List ℕ = seen_after here plan paces (record { state = state; seen = seen }) line in
      let grown : ℕ → ℕ = then_known state line seen known h in
      let b : Bool = some_lost here (number state) in
      let c : Bool = some_broke here (number state) (cluster.status state line) in
      let go = λ (n : b ≡ false). traced_from rest then more grown (next_start state line start n) (then_same state line seen known h) in
      let up = λ (n : b ≡ false). next_number state line start n in (
        trace_chosen here b c (events_text here plan paces state (cycle_events plan silences paces line state)) (lost_text here (number state)) (broken_text here (number state) (cluster.status state line))
            (text_from (trace_cycling here plan paces) (record { state = then; seen = more }) rest) (trace_from here plan paces (suc (number state)) then rest)
            (ending_from here cluster (suc (number state)) then rest) (seen_from here cluster then grown rest)
            (λ n. (go n).0 ∙ ap (λ k. trace_from here plan paces k then rest ++ closed here (ending_from here cluster k then rest) (seen_from here cluster then grown rest)) (up n)),
        end_chosen b c (ending_along (trace_cycling here plan paces) (record { state = then; seen = more }) rest) (ending_from here cluster (suc (number state)) then rest)
            (λ n. (go n).1 ∙ ap (λ k. ending_from here cluster k then rest) (up n)),
      )

pub cycling_is_text : CyclingIsText
cycling_is_text net g t words maxts exec cost silences paces is lines =
    let p : Plan = plan_of net g t words exec cost in
    let s : Setting = setting net g t maxts silences in
    let first : State = first_state p in
    let before = first_before net g t words exec cost silences paces is in
    let none = λ (task : ℕ) (low : task < length net.tasks). at_listed (length net.tasks) (λ task. 0) task low in
    let seen : List ℕ = listed (length net.tasks) (λ task. 0) in
    let run = run_from net g t words maxts exec cost silences paces is lines first seen (λ task. 0) before.start none in
    let trace = traced_from net g t words maxts exec cost silences paces is lines first seen (λ task. 0) before.start none in
    let going : Going State = along_cluster p silences paces in
    let end_is = ap (λ k. ending_from s going k first lines) before.cycle_is in
    record {
      run = run.0 ∙ ap (λ k. cycles_from s going k first lines ++ closed s (ending_from s going k first lines) (seen_from s going first (λ task. 0) lines)) before.cycle_is;
      run_ends = run.1 ∙ end_is;
      trace = trace.0 ∙ ap (λ k. trace_from s p paces k first lines ++ closed s (ending_from s going k first lines) (seen_from s going first (λ task. 0) lines)) before.cycle_is;
      trace_ends = trace.1 ∙ end_is;
    }
