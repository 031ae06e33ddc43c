-- The results along the graph meet the plan's equation.
use Rattle.std.proofs.Common.{◌≡◌, ℕ, zero, suc, ◌<◌, ◌≤◌, List, length, ℤ, Option, Some, None, refl, sym, ◌∙◌, ap, subst, arith}
use Rattle.graph.specs.JobGraph.{JobGraph}
use Rattle.graph.specs.Jobs.{job_number}
use Rattle.graph.specs.Net.{instances}
use Rattle.graph.specs.NetGraph.{IsNetGraph}
use Rattle.graph.specs.declared.job.Job.{Job}
use Rattle.graph.specs.declared.net.Net.{Net}
use Rattle.graph.proofs.Entries.{joined}
use Rattle.tables.specs.Named.{job_at}
use Rattle.tables.specs.declared.table.Tables.{Tables}
use Rattle.net_run.specs.NetRun.{JobResult, Done, Broken, Skipped, Execution, given_by, kept, state_of, outcome, state_before, result_of, inputs_of}
use Rattle.net_run.specs.Words.{carried}
use Rattle.net_run.proofs.Equation.{cycle_results_hold}
use Rattle.net_run.proofs.Ports.{inputs_same, carried_same, edge_feeds, feeds}
use Rattle.cluster_model.specs.Plan.{Plan}
use Rattle.cluster_model.specs.PlanOf.{plan_of}
use Rattle.cluster_model.specs.PlanRun.{comes_to, before, along, takes}
use Rattle.cluster_model.specs.State.{told, given}
use Rattle.cluster_plan.specs.Follows.{along_graph, GraphResults}
use Rattle.cluster_plan.proofs.Numbers.{at_number, is_of}

told_given : (r : JobResult) → given (told r) ≡ given_by r
told_given (Done results) = refl
told_given Broken = refl
told_given Skipped = refl

module _ (net : Net) (g : JobGraph) (t : Tables) (words : List ℕ) (exec : Execution) (cost : ℕ → List ℤ → List ℤ → ℕ) (n : IsNetGraph net g) (start : List (List ℤ)) (line : List ℤ) where
  abbrev plan : Plan
  plan = plan_of net g t words exec cost

  abbrev res : ℕ → JobResult
  res = along_graph net plan exec start line

  -- the result at the number of a task's instance
  pub result_there : (task instance : ℕ) → task < length net.tasks → instance < instances net g.cycle task → res (job_number net g.cycle task instance) ≡ result_of net g.cycle exec line start instance task
  result_there task instance low run =
      let e = at_number net g n task instance low run in
      ap (λ (j : Job). result_of net g.cycle exec line start j.instance j.task) e

  pub before_there : (task i : ℕ) → task < length net.tasks → i ≤ instances net g.cycle task → before plan (state_of start) res task i ≡ state_before net g.cycle exec line start i task
  before_there task zero low run = refl
  before_there task (suc i) low run =
      ap (λ s. kept s (res (job_number net g.cycle task i))) (before_there task i low (omega (arith, run)))
      ∙ ap (kept (state_before net g.cycle exec line start i task)) (result_there task i low (omega (arith, run)))

  comes : (job : ℕ) (state : List ℤ) (o : Option (List ℤ)) → outcome net g.cycle exec (job_at g job).task state o ≡ comes_to plan job state o
  comes job state None = refl
  comes job state (Some ins) = refl

  takes_there : (job : ℕ) → job < length g.jobs → inputs_of net g.cycle exec line start (job_at g job).instance (job_at g job).task ≡ takes plan line res job
  takes_there job low =
      let h = is_of net g n job low in
      inputs_same net g.cycle line
      (carried net (λ from. given_by (result_of net g.cycle exec line start (job_at g job).instance from)))
      (λ edge. along plan res edge (job_at g job).instance) (job_at g job).instance (job_at g job).task
      (λ port edge inside e.
      let f = edge_feeds net (job_at g job).task port edge e in
      let w = joined net n.is.rules.entry_rules.entries f.edge.from_task (job_at g job).task (feeds net (job_at g job).task port edge f) in
      let run : (job_at g job).instance < instances net g.cycle f.edge.from_task =
      subst (λ period. (job_at g job).instance < Rattle.std.specs.Prelude.◌/◌ g.cycle period) (sym w.2) h.instance in
      carried_same net
      (λ from. given_by (result_of net g.cycle exec line start (job_at g job).instance from))
      (λ from. given (told (res (job_number net g.cycle from (job_at g job).instance))))
      (job_at g job).task port edge f
      (sym (told_given (result_of net g.cycle exec line start (job_at g job).instance f.edge.from_task))
      ∙ ap (λ r. given (told r)) (sym (result_there f.edge.from_task (job_at g job).instance w.0 run))))

  equation : (job : ℕ) → job < length g.jobs → res job ≡ comes_to plan job (before plan (state_of start) res (job_at g job).task (job_at g job).instance) (takes plan line res job)
  equation job low =
      let h = is_of net g n job low in
      cycle_results_hold net g.cycle exec line start n.is.rules (job_at g job).instance (job_at g job).task h.task
      ∙ ap (λ s. outcome net g.cycle exec (job_at g job).task s (inputs_of net g.cycle exec line start (job_at g job).instance (job_at g job).task))
      (sym (before_there (job_at g job).task (job_at g job).instance h.task (omega (arith, h.instance))))
      ∙ ap (outcome net g.cycle exec (job_at g job).task (before plan (state_of start) res (job_at g job).task (job_at g job).instance)) (takes_there job low)
      ∙ comes job (before plan (state_of start) res (job_at g job).task (job_at g job).instance) (takes plan line res job)

pub graph_results : GraphResults
graph_results net g t words exec cost n v start line job low = equation net g t words exec cost n start line job low
