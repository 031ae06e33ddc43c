-- A project with its tables, as stages.
use Rattle.std.specs.Prelude.{◌≡◌, ℕ, List, length, map}
use Rattle.std.specs.List.{All}
use Rattle.graph.specs.declared.net.Net.{Net}
use Rattle.graph.specs.JobGraph.{JobGraph}
use Rattle.graph.specs.NetGraph.{IsNetGraphFor}
use Rattle.plant.specs.Lengths.{lengths_of}
use Rattle.project_graph.specs.Graphed.{GraphedProject, graphed}
use Rattle.net_tables.specs.Gives.{TablesGive}
use Rattle.project_tables.specs.declared.plan.ProjectPlan.{ProjectPlan}
use Rattle.project_tasks.specs.Entries.{IsRead}
use Rattle.stages.specs.Stage.{Stage, in_turn, judging, giving}
use Rattle.tables.specs.declared.table.Tables.{Tables}
use Rattle.task_source.specs.Built.{Built, plain_built}
use Rattle.task_source.specs.declared.built.BuiltTask.{BuiltTask}

-- a net, the graph of its jobs, its tasks and its tables
pub record PlannedProject : Type 0 where
  pub net : Net
  pub graph : JobGraph
  pub built : List Built
  pub tables : Tables

abbrev pub plain_planned : ProjectPlan → PlannedProject
plain_planned p = record { net = p.net; graph = p.graph; built = map plain_built p.tasks; tables = p.tables }

abbrev pub with_tables : GraphedProject → Tables → PlannedProject
with_tables p tables = record { net = p.net; graph = p.graph; built = p.built; tables = tables }

-- the tables of a project that was read
abbrev pub tabled : ℕ → GraphedProject → Stage PlannedProject
tabled budget p = in_turn (judging (TablesGive p.net p.graph budget)) (λ tables. giving (with_tables p tables))

-- the project, and then its tables
abbrev pub planned : List ℕ → ℕ → Stage PlannedProject
planned project budget = in_turn (graphed project) (tabled budget)

-- A project that was planned: each task is checked and has its own code and bound, there are as many as the net has, and the
-- graph is that of the net and the bounds.
pub record IsPlanned (p : ProjectPlan) : Type 0 where
  pub tasks : All IsRead p.tasks
  pub count : length p.tasks ≡ length p.net.tasks
  pub graph : IsNetGraphFor p.net (lengths_of (map (λ (b : BuiltTask). b.maxt) p.tasks) p.net.shape.cycles_per_tick) p.graph
