-- That a cluster agrees with the graph over every list of enabled events.
use Rattle.std.specs.Prelude.{◌≡◌, ℕ, ◌<◌, List, length, get_or, ℤ, Some}
use Rattle.script.specs.declared.script.Silence.{Silence}
use Rattle.graph.specs.JobGraph.{JobGraph}
use Rattle.graph.specs.NetGraph.{IsNetGraph}
use Rattle.graph.specs.declared.net.Net.{Net}
use Rattle.tables.specs.Valid.{AreValid}
use Rattle.tables.specs.declared.table.Tables.{Tables}
use Rattle.net_run.specs.Alike.{FitsTask, IsLine}
use Rattle.net_run.specs.NetRun.{Skipped, Execution, one_cycle}
use Rattle.cluster_model.specs.Cluster.{first_state}
use Rattle.cluster_model.specs.Plan.{Plan}
use Rattle.cluster_model.specs.PlanOf.{plan_of}
use Rattle.cluster_model.specs.State.{State}
use Rattle.cluster_agreement.specs.Agrees.{Agrees}
use Rattle.cluster_agreement.specs.Runs.{Event, steps, AllMay, NoneLost}

-- the tables are valid for the net and its graph, and each task's program fits it; `words` has the number of state words of each task
pub record IsSet (net : Net) (g : JobGraph) (t : Tables) (words : List ℕ) (exec : Execution) : Type 0 where
  pub graph : IsNetGraph net g
  pub tables : AreValid net g t
  pub count : length words ≡ length net.tasks
  pub fits : (task : ℕ) → task < length net.tasks → FitsTask net words exec exec task

-- the state agrees with the cycle along the graph from the states that it keeps for the cycle's start, over this line
abbrev pub AgreesAlong : Net → JobGraph → Execution → Plan → State → (line : List ℤ) → Type 0
AgreesAlong net g exec p s line =
    Agrees p (λ job. get_or (one_cycle net g.cycle exec s.start line).results job Skipped) (one_cycle net g.cycle exec s.start line).states s

-- over every list of enabled events, as long as no unit is lost
abbrev pub Agreement : Type 0
Agreement = (net : Net) (g : JobGraph) (t : Tables) (words : List ℕ) (exec : Execution) (cost : ℕ → List ℤ → List ℤ → ℕ) (silences : List Silence) → IsSet net g t words exec
    → (events : List Event) → AllMay (plan_of net g t words exec cost) silences (IsLine net g.cycle) (first_state (plan_of net g t words exec cost)) events
    → NoneLost (plan_of net g t words exec cost) silences (steps (plan_of net g t words exec cost) silences (first_state (plan_of net g t words exec cost)) events).cycle
    → (line : List ℤ) → (steps (plan_of net g t words exec cost) silences (first_state (plan_of net g t words exec cost)) events).line ≡ Some line
    → AgreesAlong net g exec (plan_of net g t words exec cost) (steps (plan_of net g t words exec cost) silences (first_state (plan_of net g t words exec cost)) events) line
