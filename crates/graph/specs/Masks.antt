-- Sets of tasks as masks: bit n stands for task n.
use Rattle.std.specs.Prelude.{◌≡◌, ℕ, ◌<◌, ◌↔◌, List, Any, slice_index, bit_and}
use Rattle.std.specs.Int.{bit_at, bit_not, w64}
use Rattle.graph.specs.declared.net.Edge.{Edge}

-- an edge of the list goes from a task to a task
abbrev pub GoesBetween : List Edge → (from to : ℕ) → Type 0
GoesBetween edges from to = Any (λ (e : Edge). (e.from_task ≡ from) × (e.to_task ≡ to)) edges

-- the mask of each task has the tasks from which an edge of the list goes to it
abbrev pub AreMasks : List Edge → (masks : List ℕ) → Type 0
AreMasks edges masks = (from to : ℕ) → from < 64 → to < 64 → (bit_at (slice_index masks to) from ≡ 1) ↔ GoesBetween edges from to

-- the task isn't named, and all tasks of its mask are
abbrev pub IsOpen : (masks : List ℕ) → (named task : ℕ) → Type 0
IsOpen masks named task = (bit_at named task ≡ 0) × (bit_and (slice_index masks task) (bit_not w64 named) ≡ 0)
