-- What holds of the tables of lists of decisions.
use Rattle.std.specs.Prelude.{ℕ, List, [], length}
use Rattle.decisions.specs.Choices.{rules_of}
use Rattle.decisions.specs.Decision.{Decision}
use Rattle.decisions.specs.ProblemOf.{problem_of}
use Rattle.decisions.specs.TablesOf.{tables_of}
use Rattle.graph.specs.declared.net.Net.{Net}
use Rattle.graph.specs.JobGraph.{JobGraph}
use Rattle.graph.specs.NetGraph.{IsNetGraph}
use Rattle.tables.specs.Valid.{AreValid}
use Rattle.walks.specs.First.{Whole}

-- where choices lead to a list in which each job of the net is placed, its tables keep the eight rules
abbrev pub ListsAreValid : Type 0
ListsAreValid = (net : Net) (g : JobGraph) (ranks : List ℕ) (l : List Decision) → IsNetGraph net g → Whole (rules_of (problem_of net g)) (length (problem_of net g).works) [] ranks l → AreValid net g (tables_of (problem_of net g) l)
