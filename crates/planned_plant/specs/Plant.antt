-- The plant of a project that was planned, and its source project.
use Rattle.std.specs.Prelude.{◌≡◌, ℕ, List, map, Ok}
use Rattle.graph.specs.NetGraph.{IsNetGraphFor}
use Rattle.net_tables.specs.Gives.{TablesGive}
use Rattle.plant.specs.Lengths.{lengths_of}
use Rattle.plant.specs.declared.system.Plant.{Plant}
use Rattle.project_graph.specs.Source.{IsSourceOf}
use Rattle.project_plant.specs.Planned.{maxt_in, plant_in, source_of, IsWhole}
use Rattle.project_source.specs.Project.{SourceProject}
use Rattle.project_tables.specs.Planned.{PlannedProject}
use Rattle.stages.specs.World.{Held}
use Rattle.word_code.specs.declared.code.Code.{Code}

-- the plant: each task's program is the translation of the task with its constants folded
abbrev pub plant_of : PlannedProject → Plant Code
plant_of p = plant_in p.net p.graph p.tables p.built

-- the source project
abbrev pub project_of : PlannedProject → SourceProject
project_of p = source_of p.net p.built

-- the parts of its plant are whole
abbrev pub IsWholePlan : PlannedProject → Type 0
IsWholePlan p = IsWhole p.net p.graph p.tables p.built

-- What was planned is the source project of the file's name, the graph is its net's for its tasks' bounds, and the tables
-- are those that a search within the budget gives. Nothing outside changed.
pub record WasPlanned (before now : Held) (project : List ℕ) (budget : ℕ) (p : PlannedProject) : Type 0 where
  pub stays : now ≡ before
  pub source : IsSourceOf before.files project p.net p.built
  pub graph : IsNetGraphFor p.net (lengths_of (map maxt_in p.built) p.net.shape.cycles_per_tick) p.graph
  pub tables : TablesGive p.net p.graph budget (Ok p.tables)
