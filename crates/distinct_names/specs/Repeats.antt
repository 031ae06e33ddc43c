-- Names that stand twice in a list.
use Rattle.std.specs.Prelude.{◌≡◌, ℕ, ◌<◌, ◌≤◌, List, Option, Some, None, slice_get}

-- what stands at an index stands before it too
pub record Repeats (names : List (List ℕ)) (i : ℕ) : Type 0 where
  pub name : List ℕ
  pub stands : slice_get names i ≡ Some name
  pub earlier : ℕ
  pub before : earlier < i
  pub same : slice_get names earlier ≡ Some name

-- it's the first index whose name stands before it too; None where no name stands twice
abbrev pub IsFirstRepeat : List (List ℕ) → Option ℕ → Type 0
IsFirstRepeat names None = (i : ℕ) → Repeats names i → ⊥
IsFirstRepeat names (Some i) = Repeats names i × ((j : ℕ) → Repeats names j → i ≤ j)
