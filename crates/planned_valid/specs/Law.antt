-- What holds of the tables that a search finds, and of those of a planned project.
use Rattle.std.specs.Prelude.{ℕ, List, Ok}
use Rattle.decisions.specs.ProblemOf.{problem_of}
use Rattle.graph.specs.declared.net.Net.{Net}
use Rattle.graph.specs.JobGraph.{JobGraph}
use Rattle.graph.specs.NetGraph.{IsNetGraph}
use Rattle.net_tables.specs.Gives.{TablesGive}
use Rattle.planned_plant.specs.Plant.{IsWholePlan}
use Rattle.project_tables.specs.Planned.{PlannedProject, planned}
use Rattle.search.specs.Search.{IsAnswer}
use Rattle.stages.specs.World.{Held}
use Rattle.tables.specs.declared.table.Tables.{Tables}
use Rattle.tables.specs.Valid.{AreValid}

-- the tables that a search answers keep the eight rules
abbrev pub AnswersAreValid : Type 0
AnswersAreValid = (net : Net) (g : JobGraph) (budget from to : ℕ) (tables : Tables) → IsNetGraph net g → IsAnswer (problem_of net g) budget from to (Ok tables) → AreValid net g tables

-- so do those that a net gives within a budget
abbrev pub FoundAreValid : Type 0
FoundAreValid = (net : Net) (g : JobGraph) (budget : ℕ) (tables : Tables) → IsNetGraph net g → TablesGive net g budget (Ok tables) → AreValid net g tables

-- so do those of a project that was planned, and the parts of its plant are whole
abbrev pub PlansAreValid : Type 0
PlansAreValid = (project : List ℕ) (budget : ℕ) (before now : Held) (p : PlannedProject) → (planned project budget).meant before now (Ok p) → AreValid p.net p.graph p.tables

abbrev pub PlansAreWhole : Type 0
PlansAreWhole = (project : List ℕ) (budget : ℕ) (before now : Held) (p : PlannedProject) → (planned project budget).meant before now (Ok p) → IsWholePlan p
