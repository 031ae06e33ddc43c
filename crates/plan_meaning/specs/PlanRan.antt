-- What a run of `plan` came to, in the meaning of its source project.
use Rattle.std.specs.Prelude.{◌≡◌, ◌⊎◌, ◌<◌, ◌≤◌, ℕ, List, map, Option, Some, Result}
use Rattle.std.specs.Io.KnownBytes.{append_known}
use Rattle.decisions.specs.Decision.{Decision}
use Rattle.decisions.specs.ProblemOf.{problem_of}
use Rattle.decisions.specs.TablesOf.{tables_of}
use Rattle.graph.specs.JobGraph.{JobGraph}
use Rattle.graph.specs.NetGraph.{IsNetGraphFor}
use Rattle.graph.specs.declared.net.Net.{Net}
use Rattle.mars_base.specs.declared.file.File.{File}
use Rattle.net_tables.specs.Gives.{HasNoList, IsFirstList, NeedsSteps}
use Rattle.plan_command.specs.Plan.{planning}
use Rattle.plant.specs.Lengths.{lengths_of}
use Rattle.project_graph.specs.Graphed.{bound_of_built}
use Rattle.project_graph.specs.Source.{IsSourceOf}
use Rattle.refusals.specs.Causes.{Counts}
use Rattle.refusals.specs.Status.{status_of_result}
use Rattle.refusals.specs.declared.refusal.Refusal.{Refusal}
use Rattle.stages.specs.Stage.{Does}
use Rattle.stages.specs.World.{Held}
use Rattle.tables_text.specs.Text.{tables_text}
use Rattle.task_source.specs.Built.{Built}

-- the statuses of a search that was made: tables were found, the budget is spent, there are no tables
abbrev pub IsSearchStatus : ℕ → Type 0
IsSearchStatus status = (status ≡ 0) ⊎ ((status ≡ 4) ⊎ (status ≡ 5))

-- How the search ended, and what was put behind what was put before. A search needs so many steps whatever its budget is.
-- Where the budget has as many, the tables of the first feasible list of decisions were put, or nothing, if no list is
-- feasible; where it has fewer, nothing was put.
pub data Ended (net : Net) (g : JobGraph) (bounds : List ℕ) (budget : ℕ) (old new : Option (List ℕ)) (status : ℕ) : Type 0 where
  Found : (list : List Decision) (need : ℕ) → status ≡ 0 → IsFirstList net g list → NeedsSteps net g need → need ≤ budget
      → new ≡ append_known old (tables_text net g (tables_of (problem_of net g) list) bounds) → Ended net g bounds budget old new status
  Spent : (need : ℕ) → status ≡ 4 → NeedsSteps net g need → budget < need → new ≡ old → Ended net g bounds budget old new status
  NoTables : (need : ℕ) → status ≡ 5 → HasNoList net g → NeedsSteps net g need → need ≤ budget → new ≡ old → Ended net g bounds budget old new status

-- The net and its tasks are the source project that the files hold, each task with the bound of its code; the graph is that of
-- the net's jobs, each as long as its task's bound; and the search for their tables ended so.
pub record PlanRan (project : List ℕ) (budget : ℕ) (files : List File) (old new : Option (List ℕ)) (status : ℕ) : Type 0 where
  pub net : Net
  pub built : List Built
  pub graph : JobGraph
  pub is_source : IsSourceOf (Some files) project net built
  pub is_graph : IsNetGraphFor net (lengths_of (map bound_of_built built) net.shape.cycles_per_tick) graph
  pub ended : Ended net graph (map bound_of_built built) budget old new status

-- where the files are told, a planning that ended in its search came to what its source project means
abbrev pub PlansMean : Type 0
PlansMean = (project : List ℕ) (budget : ℕ) (before now : Held) (counts counts' : Counts) (answer : Result (Unit {0}) Refusal) → Does (planning project budget) before now counts counts' answer
    → IsSearchStatus (status_of_result answer) → (files : List File) → before.files ≡ Some files → PlanRan project budget files before.out now.out (status_of_result answer)
