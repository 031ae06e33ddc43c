-- What a search answers is what the net gives.
use Rattle.std.proofs.Common.{◌≡◌, ◌⊎◌, inl, ℕ, Result, Ok, Err, refl, ap}
use Rattle.decisions.specs.ProblemOf.{problem_of}
use Rattle.graph.specs.declared.net.Net.{Net}
use Rattle.graph.specs.JobGraph.{JobGraph}
use Rattle.net_tables.specs.Gives.{TablesGive, Found, Spent, NoTable}
use Rattle.passes.specs.declared.SearchFault.TheVariants as search
use Rattle.refusals.specs.declared.refusal.Refusal.{Refusal}
use Rattle.refusals.specs.declared.refusal.Refusal.TheVariants as refusal
use Rattle.search.specs.Search.{IsAnswer}
use Rattle.stages.proofs.Turns.{passes}
use Rattle.tables.specs.declared.table.Tables.{Tables}

abbrev pub Gives : Net → JobGraph → ℕ → Result Tables Refusal → Type 0
Gives net g budget r = TablesGive net g budget r ⊎ (r ≡ Err refusal.Memory)

pub give_found : (net : Net) (g : JobGraph) (budget from to : ℕ) (tables : Tables) → IsAnswer (problem_of net g) budget from to (Ok tables) → Gives net g budget (Ok tables)
give_found net g budget from to tables (list, (need, needs, low, count, first), is) = inl (Found list need (ap (passes Tables) is) first needs low)

pub give_spent : (net : Net) (g : JobGraph) (budget from to : ℕ) → IsAnswer (problem_of net g) budget from to (Err search.Spent) → Gives net g budget (Err (refusal.Spent budget))
give_spent net g budget from to (need, needs, past, count) = inl (Spent need refl needs past)

pub give_none : (net : Net) (g : JobGraph) (budget from to : ℕ) → IsAnswer (problem_of net g) budget from to (Err search.NoTable) → Gives net g budget (Err refusal.NoTable)
give_none net g budget from to (need, needs, low, count, none) = inl (NoTable need refl none needs low)
