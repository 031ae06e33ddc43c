-- Runs along a net whose executions agree on words that fit the tasks see the same cycles.
use Rattle.std.proofs.Common.{◌≡◌, ℕ, zero, suc, ◌<◌, ◌≤◌, ◌/◌, List, length, get_or, ℤ, max, Option, Some, None, refl, sym, ◌∙◌, ap, subst, arith}
use Rattle.lines.specs.Lines.{Lines, End, Bad, Line}
use Rattle.script.specs.declared.script.Silence.{Silence}
use Rattle.graph.proofs.Entries.{joined}
use Rattle.graph.specs.JobGraph.{JobGraph}
use Rattle.graph.specs.Jobs.{job_number}
use Rattle.graph.specs.Net.{instances}
use Rattle.graph.specs.NetGraph.{IsNetGraph}
use Rattle.graph.specs.declared.job.Job.{Job}
use Rattle.graph.specs.declared.net.Net.{Net}
use Rattle.tables.specs.Named.{job_at}
use Rattle.net_run.specs.Alike.{FitsTask, AreStates, IsLine}
use Rattle.net_run.specs.NetRun.{JobResult, Done, Broken, Skipped, Execution, given_by, kept, state_before, result_of, inputs_of, CycleRun, one_cycle}
use Rattle.net_run.specs.Words.{carried}
use Rattle.net_run.proofs.Agreeing.{cycles_agree, states_fit_hold}
use Rattle.net_run.proofs.Listed.{results_by_number}
use Rattle.net_run.proofs.Ports.{inputs_same, carried_same, edge_feeds, feeds}
use Rattle.cluster_plan.proofs.Numbers.{at_number, inside, is_of}
use Rattle.plant_run.specs.PlantRun.{Cost}
use Rattle.run_texts.specs.Along.{spent, result_at, along_net}
use Rattle.run_texts.specs.RunText.{most, seen_from}
use Rattle.run_texts.specs.Setting.{Setting}
use Rattle.run_agreement.specs.Agreement.{AreLines}

module _ (net : Net) (g : JobGraph) (n : IsNetGraph net g) (words : List ℕ) (f h : Execution) (cost : Cost) (fit : (task : ℕ) → task < length net.tasks → FitsTask net words f h task) where
  module _ (states : List (List ℤ)) (are : AreStates net words states) (line : List ℤ) (is_line : IsLine net g.cycle line) where
    same_cycle : one_cycle net g.cycle f states line ≡ one_cycle net g.cycle h states line
    same_cycle = cycles_agree net g.cycle words f h n.is.rules fit line is_line states are

    same_result : (instance task : ℕ) → task < length net.tasks → instance < instances net g.cycle task → result_of net g.cycle f line states instance task ≡ result_of net g.cycle h line states instance task
    same_result instance task low run =
        sym (results_by_number net g.cycle f states line instance task low run)
        ∙ ap (λ (c : CycleRun). get_or c.results (job_number net g.cycle task instance) Skipped) same_cycle
        ∙ results_by_number net g.cycle h states line instance task low run

    same_before : (instance task : ℕ) → task < length net.tasks → instance ≤ instances net g.cycle task → state_before net g.cycle f line states instance task ≡ state_before net g.cycle h line states instance task
    same_before zero task low run = refl
    same_before (suc instance) task low run =
        ap (λ s. kept s (result_of net g.cycle f line states instance task)) (same_before instance task low (omega (arith, run)))
        ∙ ap (kept (state_before net g.cycle h line states instance task)) (same_result instance task low (omega (arith, run)))

    same_inputs : (instance task : ℕ) → task < length net.tasks → instance < instances net g.cycle task → inputs_of net g.cycle f line states instance task ≡ inputs_of net g.cycle h line states instance task
    same_inputs instance task low run =
        inputs_same net g.cycle line
        (carried net (λ from. given_by (result_of net g.cycle f line states instance from)))
        (carried net (λ from. given_by (result_of net g.cycle h line states instance from))) instance task
        (λ port edge within e.
        let at = edge_feeds net task port edge e in
        let w = joined net n.is.rules.entry_rules.entries at.edge.from_task task (feeds net task port edge at) in
        let runs : instance < instances net g.cycle at.edge.from_task = subst (λ period. instance < g.cycle / period) (sym w.2) run in
        carried_same net
        (λ from. given_by (result_of net g.cycle f line states instance from))
        (λ from. given_by (result_of net g.cycle h line states instance from))
        task port edge at (ap given_by (same_result instance at.edge.from_task w.0 runs)))

    same_cost : (job : ℕ) → job < length g.jobs
        → spent cost (job_at g job).task (state_before net g.cycle f line states (job_at g job).instance (job_at g job).task)
        (inputs_of net g.cycle f line states (job_at g job).instance (job_at g job).task) (result_at net g words f cost states line job)
        ≡ spent cost (job_at g job).task (state_before net g.cycle h line states (job_at g job).instance (job_at g job).task)
        (inputs_of net g.cycle h line states (job_at g job).instance (job_at g job).task) (result_at net g words h cost states line job)
    same_cost job low =
        let is = is_of net g n job low in
        let i = (job_at g job).instance in
        let t = (job_at g job).task in
        ap (λ s. spent cost t s (inputs_of net g.cycle f line states i t) (result_at net g words f cost states line job)) (same_before i t is.task (omega (arith, is.instance)))
        ∙ ap (λ o. spent cost t (state_before net g.cycle h line states i t) o (result_at net g words f cost states line job)) (same_inputs i t is.task is.instance)
        ∙ ap (λ (c : CycleRun). spent cost t (state_before net g.cycle h line states i t) (inputs_of net g.cycle h line states i t) (get_or c.results job Skipped)) same_cycle

  module _ (ends : ℕ → ℕ) (maxts : List ℕ) (silences : List Silence) where
    abbrev at : Setting
    at = record { net = net; graph = g; ends = ends; maxts = maxts; silences = silences }

    most_same : (one two : ℕ → ℕ) → ((job : ℕ) → job < length g.jobs → one job ≡ two job) → (task k : ℕ) → task < length net.tasks → k ≤ instances net g.cycle task → most at one task k ≡ most at two task k
    most_same one two q task zero low run = refl
    most_same one two q task (suc k) low run =
        ap (λ x. max x (one (job_number net g.cycle task k))) (most_same one two q task k low (omega (arith, run)))
        ∙ ap (max (most at two task k)) (q (job_number net g.cycle task k) (inside net g n task k low (omega (arith, run))))

    -- over any lines both have seen the same
    pub same_seen : (lines : Lines) (states : List (List ℤ)) → AreStates net words states → AreLines net g.cycle lines → (one two : ℕ → ℕ) → ((task : ℕ) → task < length net.tasks → one task ≡ two task)
        → (task : ℕ) → task < length net.tasks → seen_from at (along_net net g words f cost) states one lines task ≡ seen_from at (along_net net g words h cost) states two lines task
    same_seen End states are fits one two q task low = q task low
    same_seen (Bad k) states are fits one two q task low = q task low
    same_seen (Line line rest) states are fits one two q task low =
        let one2 : ℕ → ℕ = λ k. max (one k) (most at ((along_net net g words f cost).cycles states line) k (instances net g.cycle k)) in
        let two2 : ℕ → ℕ = λ k. max (two k) (most at ((along_net net g words h cost).cycles states line) k (instances net g.cycle k)) in
        same_seen rest (one_cycle net g.cycle f states line).states (states_fit_hold net g.cycle words f h n.is.rules fit states are line fits.0) fits.1 one2 two2
        (λ k b.
        ap (λ x. max x (most at ((along_net net g words f cost).cycles states line) k (instances net g.cycle k))) (q k b)
        ∙ ap (max (two k)) (most_same ((along_net net g words f cost).cycles states line) ((along_net net g words h cost).cycles states line) (same_cost states are line fits.0) k (instances net g.cycle k) b (omega arith)))
        task low
        ∙ ap (λ (c : CycleRun). seen_from at (along_net net g words h cost) c.states two2 rest task) (same_cycle states are line fits.0)

-- what a task has seen is within a bound of its cost
module _ (net : Net) (g : JobGraph) (n : IsNetGraph net g) (words : List ℕ) (f : Execution) (cost : Cost) (bounds : ℕ → ℕ) (bound : (task : ℕ) (state ins : List ℤ) → cost task state ins ≤ bounds task)
    (ends : ℕ → ℕ) (maxts : List ℕ) (silences : List Silence) where
  abbrev in_ : Setting
  in_ = record { net = net; graph = g; ends = ends; maxts = maxts; silences = silences }

  spent_within : (task : ℕ) (state : List ℤ) (o : Option (List ℤ)) (r : JobResult) → spent cost task state o r ≤ bounds task
  spent_within task state None r = omega arith
  spent_within task state (Some ins) (Done results) = bound task state ins
  spent_within task state (Some ins) Broken = omega arith
  spent_within task state (Some ins) Skipped = omega arith

  most_within : (cycles : ℕ → ℕ) → ((job : ℕ) → cycles job ≤ bounds (job_at g job).task) → (task k : ℕ) → task < length net.tasks → k ≤ instances net g.cycle task → most in_ cycles task k ≤ bounds task
  most_within cycles q task zero low run = omega arith
  most_within cycles q task (suc k) low run =
      let e = ap (λ (j : Job). bounds j.task) (at_number net g n task k low (omega (arith, run))) in
      omega (arith, most_within cycles q task k low (omega (arith, run)), q (job_number net g.cycle task k), e)

  pub seen_within : (lines : Lines) (states : List (List ℤ)) (seen : ℕ → ℕ) → ((task : ℕ) → task < length net.tasks → seen task ≤ bounds task)
      → (task : ℕ) → task < length net.tasks → seen_from in_ (along_net net g words f cost) states seen lines task ≤ bounds task
  seen_within End states seen q task low = q task low
  seen_within (Bad k) states seen q task low = q task low
  seen_within (Line line rest) states seen q task low =
      seen_within rest (one_cycle net g.cycle f states line).states (λ k. max (seen k) (most in_ ((along_net net g words f cost).cycles states line) k (instances net g.cycle k)))
      (λ k b. omega (
        arith,
        q k b,
        most_within ((along_net net g words f cost).cycles states line)
            (λ job. spent_within (job_at g job).task (state_before net g.cycle f line states (job_at g job).instance (job_at g job).task)
            (inputs_of net g.cycle f line states (job_at g job).instance (job_at g job).task) (result_at net g words f cost states line job))
            k (instances net g.cycle k) b (omega arith),
      ))
      task low
