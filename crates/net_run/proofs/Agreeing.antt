-- Two meanings of the programs that agree on words that fit the tasks give equal runs.
use Rattle.std.proofs.Common.{◌≡◌, ℕ, zero, suc, ◌<◌, ◌≤◌, ◌/◌, List, [], ◌∷◌, ◌++◌, length, replicate, ℤ, pos, cond, Option, Some, None, refl, sym, ◌∙◌, ap, subst, arith}
use Rattle.std.specs.Prelude.{slice_index, sum, All}
use Rattle.std.proofs.lemmas.List.{get_or-map, length-map, length-replicate}
use Rattle.std.proofs.lemmas.List.Elements.{All-replicate, All-head, All-tail}
use Rattle.processor.specs.Ends.{End, Halted, Broken as Breaks}
use Rattle.processor.specs.Results.{IsWord, Results}
use Rattle.graph.specs.Feeders.{feeder_of}
use Rattle.graph.specs.Net.{ins_of, outs_of, instances}
use Rattle.graph.specs.Sound.{KeepsRules}
use Rattle.graph.specs.declared.feeder.Feeder.TheVariants as feeder
use Rattle.graph.specs.declared.net.Net.{Net}
use Rattle.graph.proofs.Entries.{joined}
use Rattle.net_run.specs.Alike.{HasWords, FitsTask, AreStates, IsLine, AgreeingRuns, StatesFit, FirstStatesFit, OutsFit}
use Rattle.net_run.specs.NetRun.{JobResult, Done, Broken, Skipped, Execution, ended_as, given_by, kept, outcome, by_depth, state_before, result_of, task_results, results_to, states_to, CycleRun, one_cycle, some_broken, run_of}
use Rattle.net_run.specs.Words.{carried, job_inputs}
use Rattle.net_run.proofs.Listed.{states_by_task}
use Rattle.net_run.proofs.Ports.{inputs_same, carried_same, edge_feeds, feeds}
use Rattle.net_run.proofs.Widths.{FitsIn, edge_fits, inputs_fit}

module _ (net : Net) (cycle : ℕ) (words : List ℕ) (f g : Execution) (rules : KeepsRules net) (fit : (task : ℕ) → task < length net.tasks → FitsTask net words f g task) where
  -- what a job leaves and gives fits its task
  abbrev pub FitsResult : (task : ℕ) → JobResult → Type 0
  FitsResult task (Done results) = HasWords (slice_index words task) results.0 × HasWords (sum (outs_of net task)) results.1
  FitsResult task Broken = Unit {0}
  FitsResult task Skipped = Unit {0}

  abbrev pub Agree : (task : ℕ) → JobResult → JobResult → Type 0
  Agree task a b = (a ≡ b) × FitsResult task a

  ended_fits : (task : ℕ) (state ins : List ℤ) → task < length net.tasks → HasWords (slice_index words task) state → HasWords (sum (ins_of net task)) ins → FitsResult task (ended_as (f task state ins))
  ended_fits task state ins low a b = by (f task state ins) refl
    where
      by : (end : End Results) → f task state ins ≡ end → FitsResult task (ended_as end)
      by (Halted results) e = (fit task low).left state ins results.0 results.1 a b e
      by Breaks e = tt

  outcomes : (task : ℕ) (state : List ℤ) (ins : Option (List ℤ)) → task < length net.tasks → HasWords (slice_index words task) state → FitsIn (sum (ins_of net task)) ins
      → Agree task (outcome net cycle f task state ins) (outcome net cycle g task state ins)
  outcomes task state None low a b = (refl, tt)
  outcomes task state (Some ins) low a b = (ap ended_as ((fit task low).same state ins a b), ended_fits task state ins low a b)

  given_fits : (task : ℕ) (result : JobResult) → FitsResult task result → FitsIn (sum (outs_of net task)) (given_by result)
  given_fits task (Done results) h = h.1
  given_fits task Broken h = tt
  given_fits task Skipped h = tt

  kept_fits : (task : ℕ) (state : List ℤ) (result : JobResult) → HasWords (slice_index words task) state → FitsResult task result → HasWords (slice_index words task) (kept state result)
  kept_fits task state (Done results) a h = h.0
  kept_fits task state Broken a h = a
  kept_fits task state Skipped a h = a

  -- tasks that an edge joins have as many instances
  as_many : (task port edge : ℕ) (e : feeder_of net task port ≡ Some (feeder.Edge edge)) →
      ((edge_feeds net task port edge e).edge.from_task < length net.tasks) × (instances net cycle (edge_feeds net task port edge e).edge.from_task ≡ instances net cycle task)
  as_many task port edge e =
      let at = edge_feeds net task port edge e in
      let w = joined net rules.entry_rules.entries at.edge.from_task task (feeds net task port edge at) in
      (w.0, ap (λ period. cycle / period) w.2)

  module _ (line : List ℤ) (is_line : IsLine net cycle line) where
    depths : (one two : ℕ → List ℤ) (instance : ℕ)
        → ((task : ℕ) → task < length net.tasks → instance < instances net cycle task → (one task ≡ two task) × HasWords (slice_index words task) (one task))
        → (depth task : ℕ) → task < length net.tasks → instance < instances net cycle task
        → Agree task (by_depth net cycle f line one instance depth task) (by_depth net cycle g line two instance depth task)
    depths one two instance states zero task low run = (refl, tt)
    depths one two instance states (suc depth) task low run =
        let from = λ (port edge : ℕ) (e : feeder_of net task port ≡ Some (feeder.Edge edge)).
        let at = edge_feeds net task port edge e in
        let w = as_many task port edge e in
        depths one two instance states depth at.edge.from_task w.0 (omega (arith, run, w.1)) in
        let given_f : ℕ → Option (List ℤ) = λ t. given_by (by_depth net cycle f line one instance depth t) in
        let given_g : ℕ → Option (List ℤ) = λ t. given_by (by_depth net cycle g line two instance depth t) in
        let ins = inputs_same net cycle line (carried net given_f) (carried net given_g) instance task
        (λ port edge inside e. carried_same net given_f given_g task port edge (edge_feeds net task port edge e) (ap given_by (from port edge e).0)) in
        let fits = inputs_fit net cycle line is_line rules.entry_rules (carried net given_f) task instance run
        (λ port edge inside e.
        let at = edge_feeds net task port edge e in
        edge_fits net cycle line is_line rules.entry_rules given_f task port edge at (given_fits at.edge.from_task (by_depth net cycle f line one instance depth at.edge.from_task) (from port edge e).1)) in
        let state = states task low run in
        let here = outcomes task (one task) (job_inputs net cycle line (carried net given_f) instance task) low state.1 fits in (
          here.0
              ∙ ap (λ s. outcome net cycle g task s (job_inputs net cycle line (carried net given_f) instance task)) state.0
              ∙ ap (outcome net cycle g task (two task)) ins,
          here.1,
        )

    module _ (start : List (List ℤ)) (is_start : AreStates net words start) where
      states : (instance task : ℕ) → task < length net.tasks → instance ≤ instances net cycle task
          → (state_before net cycle f line start instance task ≡ state_before net cycle g line start instance task) × HasWords (slice_index words task) (state_before net cycle f line start instance task)
      states zero task low run = (refl, is_start.each task low)
      states (suc instance) task low run =
          let before = states instance task low (omega (arith, run)) in
          let result = depths (state_before net cycle f line start instance) (state_before net cycle g line start instance) instance
          (λ t l r. states instance t l (omega (arith, r))) (length net.tasks) task low (omega (arith, run)) in (
            ap (λ s. kept s (result_of net cycle f line start instance task)) before.0 ∙ ap (kept (state_before net cycle g line start instance task)) result.0,
            kept_fits task (state_before net cycle f line start instance task) (result_of net cycle f line start instance task) before.1 result.1,
          )

      results : (instance task : ℕ) → task < length net.tasks → instance < instances net cycle task → result_of net cycle f line start instance task ≡ result_of net cycle g line start instance task
      results instance task low run =
          (depths (state_before net cycle f line start instance) (state_before net cycle g line start instance) instance
          (λ t l r. states instance t l (omega (arith, r))) (length net.tasks) task low run).0

      results_fit : (instance task : ℕ) → task < length net.tasks → instance < instances net cycle task → FitsResult task (result_of net cycle f line start instance task)
      results_fit instance task low run =
          (depths (state_before net cycle f line start instance) (state_before net cycle g line start instance) instance
          (λ t l r. states instance t l (omega (arith, r))) (length net.tasks) task low run).1

      pub given_words : (instance task : ℕ) (outs : List ℤ) → task < length net.tasks → instance < instances net cycle task
          → given_by (result_of net cycle f line start instance task) ≡ Some outs → HasWords (sum (outs_of net task)) outs
      given_words instance task outs low run e =
          subst (FitsIn (sum (outs_of net task))) e (given_fits task (result_of net cycle f line start instance task) (results_fit instance task low run))

      of_task : (task n : ℕ) → task < length net.tasks → n ≤ instances net cycle task → task_results net cycle f line start task n ≡ task_results net cycle g line start task n
      of_task task zero low run = refl
      of_task task (suc n) low run =
          ap (λ rs. rs ++ result_of net cycle f line start n task ∷ []) (of_task task n low (omega (arith, run)))
          ∙ ap (λ r. task_results net cycle g line start task n ++ r ∷ []) (results n task low (omega (arith, run)))

      of_tasks : (n : ℕ) → n ≤ length net.tasks → results_to net cycle f line start n ≡ results_to net cycle g line start n
      of_tasks zero low = refl
      of_tasks (suc n) low =
          ap (λ rs. rs ++ task_results net cycle f line start n (instances net cycle n)) (of_tasks n (omega (arith, low)))
          ∙ ap (λ rs. results_to net cycle g line start n ++ rs) (of_task n (instances net cycle n) (omega (arith, low)) (omega arith))

      left : (n : ℕ) → n ≤ length net.tasks → states_to net cycle f line start n ≡ states_to net cycle g line start n
      left zero low = refl
      left (suc n) low =
          ap (λ ss. ss ++ state_before net cycle f line start (instances net cycle n) n ∷ []) (left n (omega (arith, low)))
          ∙ ap (λ s. states_to net cycle g line start n ++ s ∷ []) (states (instances net cycle n) n (omega (arith, low)) (omega arith)).0

      pub cycles_agree : one_cycle net cycle f start line ≡ one_cycle net cycle g start line
      cycles_agree =
          ap (λ rs. record { results = rs; states = states_to net cycle f line start (length net.tasks) }) (of_tasks (length net.tasks) (omega arith))
          ∙ ap (λ ss. record { results = results_to net cycle g line start (length net.tasks); states = ss }) (left (length net.tasks) (omega arith))

      pub states_fit : AreStates net words (one_cycle net cycle f start line).states
      states_fit = record {
        count = states_by_task.count net cycle f start line;
        each = λ task low. subst (HasWords (slice_index words task)) (sym (states_by_task.each net cycle f start line task low)) (states (instances net cycle task) task low (omega arith)).1;
      }

  runs : (start : List (List ℤ)) → AreStates net words start → (lines : List (List ℤ)) → All (IsLine net cycle) lines → run_of net cycle f start lines ≡ run_of net cycle g start lines
  runs start is_start [] all = refl
  runs start is_start (line ∷ lines) all =
      let is_line = All-head (IsLine net cycle) line lines all in
      ap (λ rest. one_cycle net cycle f start line ∷ cond (some_broken (one_cycle net cycle f start line).results) [] rest)
      (runs (one_cycle net cycle f start line).states (states_fit line is_line start is_start) lines (All-tail (IsLine net cycle) line lines all))
      ∙ ap (λ (c : CycleRun). c ∷ cond (some_broken c.results) [] (run_of net cycle g c.states lines)) (cycles_agree line is_line start is_start)

pub agreeing_runs_hold : AgreeingRuns
agreeing_runs_hold net cycle words f g rules fit start is_start lines all = runs net cycle words f g rules fit start is_start lines all

pub states_fit_hold : StatesFit
states_fit_hold net cycle words f g rules fit start is_start line is_line = states_fit net cycle words f g rules fit line is_line start is_start

pub outs_fit_hold : OutsFit
outs_fit_hold net cycle words f g rules fit start is_start line is_line instance task outs low run e = given_words net cycle words f g rules fit line is_line start is_start instance task outs low run e

zero_word : IsWord (pos 0)
zero_word = grind arith

pub first_states_fit_hold : FirstStatesFit
first_states_fit_hold net words count = record {
  count = length-map words (λ (n : ℕ). replicate n (pos 0)) ∙ count;
  each = λ task low.
      subst (HasWords (slice_index words task)) (sym (get_or-map (λ (n : ℕ). replicate n (pos 0)) words task 0 [] (omega (arith, low, count))))
      (record { count_is = length-replicate (slice_index words task) (pos 0); are_words = All-replicate IsWord (slice_index words task) (pos 0) zero_word });
}
