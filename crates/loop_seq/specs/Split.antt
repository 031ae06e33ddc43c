-- Splits of a number of turns over loops: the bounded knapsack problem with items of size 1 (S. Martello and
-- P. Toth, 'Knapsack Problems', 1990). Each loop has a cap on its turns and a weight for each turn.
use Rattle.std.specs.Prelude.{◌≡◌, ℕ, ◌+◌, ◌*◌, ◌≤◌, List, [], ◌∷◌, length, slice_index, EachIndex}
use Rattle.std.specs.List.{sum}

-- each loop has a number of turns, at most its cap, and all of them are at most the total
pub record IsSplit (caps : List ℕ) (total : ℕ) (turns : List ℕ) : Type 0 where
  pub each : length turns ≡ length caps
  pub within : EachIndex turns (λ i. slice_index turns i ≤ slice_index caps i)
  pub sum_within : sum turns ≤ total

-- the sum of each loop's turns times its weight
abbrev pub worth : List ℕ → List ℕ → ℕ
worth [] weights = 0
worth (k ∷ turns) [] = 0
worth (k ∷ turns) (w ∷ weights) = k * w + worth turns weights

-- some split is worth v, and none is worth more
pub record IsBestSplit (caps weights : List ℕ) (total v : ℕ) : Type 0 where
  pub reached : (turns : List ℕ) × IsSplit caps total turns × (worth turns weights ≡ v)
  pub bound : (turns : List ℕ) → IsSplit caps total turns → worth turns weights ≤ v
