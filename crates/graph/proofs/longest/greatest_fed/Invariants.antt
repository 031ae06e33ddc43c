use Rattle.std.proofs.Common.{◌≡◌, ◌<◌, ◌≤◌, ◌⊎◌, ℕ, get_or}
use Rattle.graph.specs.Net.{Feeds}
use Rattle.graph.proofs.longest.greatest_fed.Given as goal

abbrev pub invariant-loop-next : goal.invariant-loop-next
invariant-loop-next l =
    ((q : ℕ) → q < l.next → Feeds l.fn.net l.fn.task q → get_or l.list q 0 ≤ l.greatest)
    × ((l.greatest ≡ 0) ⊎ ((q : ℕ) × Feeds l.fn.net l.fn.task q × (get_or l.list q 0 ≡ l.greatest)))
