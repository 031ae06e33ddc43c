-- What a search for the tables of a net gives within a budget.
use Rattle.std.specs.Prelude.{◌≡◌, ◌<◌, ◌≤◌, ℕ, List, length, Result, Ok, Err}
use Rattle.decisions.specs.Choices.{rules_of}
use Rattle.decisions.specs.Decision.{Decision}
use Rattle.decisions.specs.ProblemOf.{problem_of}
use Rattle.decisions.specs.TablesOf.{tables_of}
use Rattle.graph.specs.declared.net.Net.{Net}
use Rattle.graph.specs.JobGraph.{JobGraph}
use Rattle.refusals.specs.declared.refusal.Refusal.{Refusal}
use Rattle.refusals.specs.declared.refusal.Refusal.TheVariants as refusal
use Rattle.tables.specs.declared.table.Tables.{Tables}
use Rattle.walks.specs.First.{IsFirst, HasNone}
use Rattle.walks.specs.Walk.{IsNeed}

-- the steps that a search for the tables of the net needs
abbrev pub NeedsSteps : Net → JobGraph → ℕ → Type 0
NeedsSteps net g need = IsNeed (rules_of (problem_of net g)) (length (problem_of net g).works) need

-- the first feasible list of decisions on all jobs of the net
abbrev pub IsFirstList : Net → JobGraph → List Decision → Type 0
IsFirstList net g list = IsFirst (rules_of (problem_of net g)) (length (problem_of net g).works) list

-- no list of decisions on all jobs is feasible
abbrev pub HasNoList : Net → JobGraph → Type 0
HasNoList net g = HasNone (rules_of (problem_of net g)) (length (problem_of net g).works)

-- The tables of the first feasible list, where the budget is at least what the search needs; or that the budget is spent,
-- exactly where it's below; or that there is no table, where it isn't below and no list is feasible.
pub data TablesGive (net : Net) (g : JobGraph) (budget : ℕ) (answer : Result Tables Refusal) : Type 0 where
  Found : (list : List Decision) (need : ℕ) → answer ≡ Ok (tables_of (problem_of net g) list) → IsFirstList net g list → NeedsSteps net g need → need ≤ budget → TablesGive net g budget answer
  Spent : (need : ℕ) → answer ≡ Err (refusal.Spent budget) → NeedsSteps net g need → budget < need → TablesGive net g budget answer
  NoTable : (need : ℕ) → answer ≡ Err refusal.NoTable → HasNoList net g → NeedsSteps net g need → need ≤ budget → TablesGive net g budget answer
