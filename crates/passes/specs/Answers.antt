-- What a walk answers within a limit of steps, and what a search answers within a budget.
use Rattle.std.specs.Prelude.{◌≡◌, ℕ, ◌+◌, ◌<◌, ◌≤◌, List, Some, None, Result, Ok, Err}
use Rattle.walks.specs.First.{Rules, IsFirst, HasNone}
use Rattle.walks.specs.Walk.{Walked, IsNeed}
use Rattle.passes.specs.declared.Ended.{Ended}
use Rattle.passes.specs.declared.Ended.TheVariants.{Found, Missing, Stopped}
use Rattle.passes.specs.declared.SearchFault.{SearchFault}
use Rattle.passes.specs.declared.SearchFault.TheVariants.{Spent, NoTable, Memory}

-- the walk w of the list l went to its end within the limit, or stopped at the limit; `from` and `to` steps were taken
-- before it and after it, and m is the list that stands after it
abbrev pub Answers : {C : Type 0} → Walked C → List C → (limit from to : ℕ) → List C → Ended → Type 0
Answers w l limit from to m Found = (w.list ≡ Some m) × (to ≡ from + w.count) × (to ≤ limit)
Answers w l limit from to m (Missing cut) = (w.list ≡ None) × (w.cut ≡ cut) × (to ≡ from + w.count) × (to ≤ limit) × (m ≡ l)
Answers w l limit from to m Stopped = (to ≡ limit) × (limit < from + w.count)

-- what a search for a list of so many decisions answers within a budget; `from` and `to` steps were taken before it and
-- after it: the first whole list, or that there is none, each after as many steps as are needed; and that the budget is
-- spent exactly where more are needed
abbrev pub Searched : {C : Type 0} → Rules C → (decisions budget from to : ℕ) → Result (List C) SearchFault → Type 0
Searched ru n budget from to (Ok m) = (need : ℕ) × IsNeed ru n need × (need ≤ budget) × (to ≡ from + need) × IsFirst ru n m
Searched ru n budget from to (Err Spent) = (need : ℕ) × IsNeed ru n need × (budget < need) × (to ≡ from + budget)
Searched ru n budget from to (Err NoTable) = (need : ℕ) × IsNeed ru n need × (need ≤ budget) × (to ≡ from + need) × HasNone ru n
Searched ru n budget from to (Err Memory) = Unit {0}
