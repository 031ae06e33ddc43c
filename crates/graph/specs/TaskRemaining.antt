-- The remaining ticks of tasks: those of their jobs, as the instances of a task have the same successors.
use Rattle.std.specs.Prelude.{◌≡◌, ℕ, ◌+◌, ◌*◌, ◌^◌, ◌<◌, ◌≤◌, ◌⊎◌, List, length, slice_index}
use Rattle.graph.specs.declared.net.Net.{Net}
use Rattle.graph.specs.Net.{Feeds}

-- m is the greatest number that the list has for a task that this one feeds; 0 where it feeds none
pub record IsGreatestFed (net : Net) (list : List ℕ) (task m : ℕ) : Type 0 where
  pub above : (next : ℕ) → Feeds net task next → slice_index list next ≤ m
  pub reached : (m ≡ 0) ⊎ ((next : ℕ) × Feeds net task next × (slice_index list next ≡ m))

-- a task's number is its length and the greatest of those that it feeds
abbrev pub HasRemaining : Net → (lengths list : List ℕ) → (task : ℕ) → Type 0
HasRemaining net lengths list task = (m : ℕ) × IsGreatestFed net list task m × (slice_index list task ≡ slice_index lengths task + m)

-- the tasks from a place on have their numbers, none of which is too great
pub record HasRemainingFrom (net : Net) (lengths tasks list : List ℕ) (place : ℕ) : Type 0 where
  pub size : length list ≡ length net.tasks
  pub later : (k : ℕ) → place ≤ k → k < length tasks → HasRemaining net lengths list (slice_index tasks k)
  pub few : (task : ℕ) → slice_index list task + place * 2 ^ 32 ≤ length tasks * 2 ^ 32
