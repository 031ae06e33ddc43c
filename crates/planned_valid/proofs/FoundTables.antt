-- The tables that are found are those of the first whole list, which are valid.
use Rattle.std.proofs.Common.{◌≡◌, ℕ, List, map, Ok, sym, subst}
use Rattle.decisions.specs.ProblemOf.{problem_of}
use Rattle.decisions.specs.TablesOf.{tables_of}
use Rattle.graph.specs.declared.net.Net.{Net}
use Rattle.graph.specs.JobGraph.{JobGraph}
use Rattle.graph.specs.NetGraph.{IsNetGraph}
use Rattle.net_tables.specs.Gives.{TablesGive, Found, Spent, NoTable}
use Rattle.plant.specs.Lengths.{lengths_of}
use Rattle.planned_plant.proofs.WasPlanned.{was_planned, was_whole}
use Rattle.planned_plant.specs.Plant.{IsWholePlan}
use Rattle.project_plant.specs.Planned.{maxt_in}
use Rattle.project_tables.specs.Planned.{PlannedProject, planned}
use Rattle.search.specs.Search.{IsAnswer}
use Rattle.stages.specs.World.{Held}
use Rattle.tables.specs.declared.table.Tables.{Tables}
use Rattle.tables.specs.Valid.{AreValid}
use Rattle.valid_lists.proofs.Valid.{first_valid}

pub answer_valid : (net : Net) (g : JobGraph) (budget from to : ℕ) (tables : Tables) → IsNetGraph net g → IsAnswer (problem_of net g) budget from to (Ok tables) → AreValid net g tables
answer_valid net g budget from to tables h (list, (need, needs, low, count, first), is) = subst (AreValid net g) (sym is) (first_valid net g list h first)

pub found_valid : (net : Net) (g : JobGraph) (budget : ℕ) (tables : Tables) → IsNetGraph net g → TablesGive net g budget (Ok tables) → AreValid net g tables
found_valid net g budget tables h (Found list need is first needs low) =
    let same : tables_of (problem_of net g) list ≡ tables = cc in subst (AreValid net g) same (first_valid net g list h first)
found_valid net g budget tables h (Spent need is needs past) = absurd (cc)
found_valid net g budget tables h (NoTable need is none needs low) = absurd (cc)

pub plan_valid : (project : List ℕ) (budget : ℕ) (before now : Held) (p : PlannedProject) → (planned project budget).meant before now (Ok p) → AreValid p.net p.graph p.tables
plan_valid project budget before now p meant =
    let was = was_planned project budget before now p meant in
    found_valid p.net p.graph budget p.tables (record { lengths = lengths_of (map maxt_in p.built) p.net.shape.cycles_per_tick; is = was.graph }) was.tables

pub plan_whole : (project : List ℕ) (budget : ℕ) (before now : Held) (p : PlannedProject) → (planned project budget).meant before now (Ok p) → IsWholePlan p
plan_whole project budget before now p meant = was_whole project budget before now p meant (plan_valid project budget before now p meant)
