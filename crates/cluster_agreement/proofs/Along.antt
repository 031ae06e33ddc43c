-- The plan of valid tables and fitting programs runs the graph, so a cluster of it agrees with the graph.
use Rattle.std.proofs.Common.{◌≡◌, ℕ, ◌<◌, List, [], length, get_or, replicate, ℤ, pos, sym, ◌∙◌, ap, subst, arith}
use Rattle.std.specs.Prelude.{slice_index}
use Rattle.std.proofs.lemmas.List.{length-replicate, ext_get_or}
use Rattle.std.proofs.lemmas.List.Elements.{All-replicate}
use Rattle.processor.specs.Results.{IsWord}
use Rattle.graph.specs.Cycle.{sensor_words}
use Rattle.graph.specs.JobGraph.{JobGraph}
use Rattle.graph.specs.Net.{instances}
use Rattle.graph.specs.declared.net.Net.{Net}
use Rattle.tables.specs.Named.{job_at}
use Rattle.tables.specs.declared.table.Tables.{Tables}
use Rattle.net_run.specs.Alike.{HasWords, AreStates, IsLine}
use Rattle.net_run.specs.NetRun.{Skipped, Execution, state_of, one_cycle}
use Rattle.net_run.proofs.Agreeing.{states_fit_hold, outs_fit_hold}
use Rattle.net_run.proofs.Listed.{results_by_number, states_by_task}
use Rattle.cluster_model.specs.Cluster.{first_state}
use Rattle.cluster_model.specs.Plan.{Plan}
use Rattle.cluster_model.specs.PlanOf.{plan_of}
use Rattle.cluster_model.specs.PlanRun.{after}
use Rattle.cluster_plan.specs.Follows.{out_count, along_graph}
use Rattle.cluster_plan.proofs.Numbers.{is_of}
use Rattle.cluster_plan.proofs.Results.{graph_results, before_there}
use Rattle.cluster_plan.proofs.Whole.{sound_plans}
use Rattle.cluster_agreement.specs.Agreement.{IsSet, Agreement}
use Rattle.cluster_agreement.specs.Runs.{steps}
use Rattle.cluster_agreement.proofs.Ends.{given_told}
use Rattle.cluster_agreement.proofs.Reading.{listed_at}
use Rattle.cluster_agreement.proofs.Slots.{length_listed}
use Rattle.cluster_agreement.proofs.Whole.{RunsGraph, events_agree}

zero_word : IsWord (pos 0)
zero_word = grind arith

zeros : (n : ℕ) → HasWords n (replicate n (pos 0))
zeros n = record { count_is = length-replicate n (pos 0); are_words = All-replicate IsWord n (pos 0) zero_word }

module _ (net : Net) (g : JobGraph) (t : Tables) (words : List ℕ) (exec : Execution) (cost : ℕ → List ℤ → List ℤ → ℕ) (is : IsSet net g t words exec) where
  abbrev pub plan : Plan
  plan = plan_of net g t words exec cost

  -- the states that the graph leaves, by task
  left_is : (start : List (List ℤ)) (line : List ℤ) (task : ℕ) → task < length net.tasks
      → after plan (state_of start) (along_graph net plan exec start line) task ≡ state_of (one_cycle net g.cycle exec start line).states task
  left_is start line task low =
      before_there net g t words exec cost is.graph start line task (instances net g.cycle task) low (omega arith)
      ∙ sym (states_by_task.each net g.cycle exec start line task low)

  pub runs_graph : RunsGraph plan (out_count net) (AreStates net words) (IsLine net g.cycle) (along_graph net plan exec)
  runs_graph = record {
    results = λ start line fits line_fits. graph_results net g t words exec cost is.graph is.tables start line;
    given = λ start line fits line_fits job outs low e.
        let h = is_of net g is.graph job low in
        (outs_fit_hold net g.cycle words exec exec is.graph.is.rules is.fits start fits line line_fits (job_at g job).instance (job_at g job).task outs h.task h.instance
        (sym (given_told (along_graph net plan exec start line job)) ∙ e)).count_is;
    next = λ start line fits line_fits left count each. record {
      count = count;
      each = λ task low.
          subst (HasWords (slice_index words task)) (sym (each task low ∙ left_is start line task low))
          ((states_fit_hold net g.cycle words exec exec is.graph.is.rules is.fits start fits line line_fits).each task low);
    };
    first = record {
      count = length_listed (length net.tasks) (λ task. replicate (slice_index words task) (pos 0));
      each = λ task low.
          subst (HasWords (slice_index words task)) (sym (listed_at (length net.tasks) (λ k. replicate (slice_index words k) (pos 0)) task [] low)) (zeros (slice_index words task));
    };
    line = replicate (sensor_words net g.cycle) (pos 0);
    line_fits = zeros (sensor_words net g.cycle);
  }

  result_is : (start : List (List ℤ)) (line : List ℤ) (job : ℕ) → job < length g.jobs → get_or (one_cycle net g.cycle exec start line).results job Skipped ≡ along_graph net plan exec start line job
  result_is start line job low =
      let h = is_of net g is.graph job low in
      ap (λ k. get_or (one_cycle net g.cycle exec start line).results k Skipped) (sym h.number)
      ∙ results_by_number net g.cycle exec start line (job_at g job).instance (job_at g job).task h.task h.instance

  states_are : (start : List (List ℤ)) (line : List ℤ) (l : List (List ℤ)) → length l ≡ length net.tasks
      → ((task : ℕ) → task < length net.tasks → state_of l task ≡ after plan (state_of start) (along_graph net plan exec start line) task) → l ≡ (one_cycle net g.cycle exec start line).states
  states_are start line l count each =
      ext_get_or [] l (one_cycle net g.cycle exec start line).states (count ∙ sym (states_by_task.count net g.cycle exec start line))
      (λ task low. let low2 : task < length net.tasks = omega (arith, low, count) in each task low2 ∙ left_is start line task low2)

pub agreement_holds : Agreement
agreement_holds net g t words exec cost silences is events may kept line e =
    let p = plan_of net g t words exec cost in
    let s = steps p silences (first_state p) events in
    events_agree p silences (out_count net) (AreStates net words) (IsLine net g.cycle) (along_graph net p exec) (sound_plans net g t words exec cost is.graph is.tables)
    (runs_graph net g t words exec cost is) events may kept line e
    (λ job. get_or (one_cycle net g.cycle exec s.start line).results job Skipped)
    (result_is net g t words exec cost is s.start line)
    (one_cycle net g.cycle exec s.start line).states
    (states_are net g t words exec cost is s.start line)
