-- What a search for tables answers.
use Rattle.std.specs.Prelude.{◌≡◌, ℕ, List, length, Result, Ok, Err}
use Rattle.decisions.specs.declared.problem.Problem.{Problem}
use Rattle.decisions.specs.Decision.{Decision}
use Rattle.decisions.specs.Choices.{rules_of}
use Rattle.decisions.specs.TablesOf.{tables_of}
use Rattle.passes.specs.declared.SearchFault.{SearchFault}
use Rattle.passes.specs.Answers.{Searched}
use Rattle.tables.specs.declared.table.Tables.{Tables}

-- the list that was found, or why there is none
abbrev pub found_in : List Decision → Result (Unit {0}) SearchFault → Result (List Decision) SearchFault
found_in l (Ok u) = Ok l
found_in l (Err fault) = Err fault

-- the tables are those of the first feasible list, and each fault comes exactly where it should; `from` and `to` steps were
-- taken before and after
abbrev pub IsAnswer : Problem → (budget from to : ℕ) → Result Tables SearchFault → Type 0
IsAnswer pr budget from to (Ok tables) = (l : List Decision) × Searched (rules_of pr) (length pr.works) budget from to (Ok l) × (tables ≡ tables_of pr l)
IsAnswer pr budget from to (Err fault) = Searched (rules_of pr) (length pr.works) budget from to (Err fault)
