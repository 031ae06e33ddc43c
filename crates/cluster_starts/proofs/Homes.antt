-- Each task's unit is one of the cluster's.
use Rattle.std.proofs.Common.{◌≡◌, ℕ, ◌<◌, List, [], length, ℤ, refl, sym, ◌∙◌, ap, subst, arith, slice_index}
use Rattle.graph.specs.Cycle.{first_job}
use Rattle.graph.specs.JobGraph.{JobGraph}
use Rattle.graph.specs.NetGraph.{IsNetGraph}
use Rattle.graph.specs.declared.net.Net.{Net}
use Rattle.tables.specs.Named.{entry_at}
use Rattle.tables.specs.Valid.{AreValid}
use Rattle.tables.specs.declared.table.Tables.{Tables}
use Rattle.processor.specs.Ends.{End, Broken}
use Rattle.processor.specs.Results.{Results}
use Rattle.cluster_model.specs.Plan.{Plan}
use Rattle.cluster_model.specs.PlanOf.{plan_of}
use Rattle.cluster_plan.proofs.Whole.{sound_plans}
use Rattle.cluster_starts.specs.Left.{home_of}

-- the same by the plan
pub home_is : (net : Net) (g : JobGraph) (t : Tables) → IsNetGraph net g → (task : ℕ) → task < length net.tasks
    → home_of g t task ≡ (entry_at t (first_job net g.cycle task)).unit
home_is net g t n task low = ap (λ job. (entry_at t job).unit) (n.is.graph.first_jobs task low)

pub home_within : (net : Net) (g : JobGraph) (t : Tables) → IsNetGraph net g → AreValid net g t → (task : ℕ) → task < length net.tasks → home_of g t task < net.shape.units
home_within net g t n v task low =
    let exec : ℕ → List ℤ → List ℤ → End Results = λ k s i. Broken in
    let cost : ℕ → List ℤ → List ℤ → ℕ = λ k s i. 0 in
    let words : List ℕ = [] in
    let p : Plan = plan_of net g t words exec cost in
    let d = sound_plans net g t words exec cost n v in
    let job = p.number task 0 in
    let w = d.numbered task 0 low (d.every task low) in
    omega (arith, home_is net g t n task low, ap p.home w.1, d.home job w.0, d.placed job w.0)
