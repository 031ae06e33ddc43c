-- The rows of units as they are kept. Only this crate cites this.
use Rattle.std.specs.Prelude.{◌≡◌, ℕ, ◌≤◌, List, slice_get, Some, vec_capacity}
use Rattle.std.specs.Global.{Vec}
use Rattle.decisions.specs.declared.placed.Ticks.{Ticks}
use Rattle.unit_ticks.specs.Busy.{InTurn}

abbrev pub ticks_in : Vec Ticks → List Ticks
ticks_in row = row.items

-- a row in the order of time, with room for so many
pub record IsRow (room : ℕ) (row : Vec Ticks) : Type 0 where
  pub holds : room ≤ vec_capacity row
  pub turn : InTurn row.items

abbrev pub AreRows : (room : ℕ) → List (Vec Ticks) → Type 0
AreRows room rows = (i : ℕ) (row : Vec Ticks) → slice_get rows i ≡ Some row → IsRow room row
