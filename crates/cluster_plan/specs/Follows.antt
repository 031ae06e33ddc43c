-- That the plan of valid tables is sound, and that its results are those along the graph.
use Rattle.std.specs.Prelude.{ℕ, List, sum, ℤ}
use Rattle.graph.specs.JobGraph.{JobGraph}
use Rattle.graph.specs.Net.{outs_of}
use Rattle.graph.specs.NetGraph.{IsNetGraph}
use Rattle.graph.specs.declared.net.Net.{Net}
use Rattle.tables.specs.Valid.{AreValid}
use Rattle.tables.specs.declared.table.Tables.{Tables}
use Rattle.net_run.specs.NetRun.{JobResult, Execution, state_of, result_of}
use Rattle.cluster_model.specs.Plan.{Plan}
use Rattle.cluster_model.specs.PlanOf.{plan_of}
use Rattle.cluster_model.specs.PlanRun.{AreResults}
use Rattle.cluster_model.specs.Sound.{IsSoundPlan}

-- how many words a task gives
abbrev pub out_count : Net → (task : ℕ) → ℕ
out_count net task = sum (outs_of net task)

-- the plan of valid tables is sound
abbrev pub SoundPlans : Type 0
SoundPlans = (net : Net) (g : JobGraph) (t : Tables) (words : List ℕ) (exec : Execution) (cost : ℕ → List ℤ → List ℤ → ℕ) → IsNetGraph net g → AreValid net g t
    → IsSoundPlan (plan_of net g t words exec cost) (out_count net)

-- the results along the graph, by job number
abbrev pub along_graph : Net → (p : Plan) → Execution → (start : List (List ℤ)) → (line : List ℤ) → ℕ → JobResult
along_graph net p exec start line job = result_of net p.cycle exec line start (p.instance job) (p.task job)

-- they meet the plan's equation
abbrev pub GraphResults : Type 0
GraphResults = (net : Net) (g : JobGraph) (t : Tables) (words : List ℕ) (exec : Execution) (cost : ℕ → List ℤ → List ℤ → ℕ) → IsNetGraph net g → AreValid net g t → (start : List (List ℤ)) (line : List ℤ)
    → AreResults (plan_of net g t words exec cost) (state_of start) line (along_graph net (plan_of net g t words exec cost) exec start line)
