-- That the silences of the model are those of a script.
use Rattle.std.specs.Prelude.{◌≡◌, ℕ, ◌-◌, ◌<◌, ◌↔◌, true, false, List}
use Rattle.mars_base.specs.declared.shape.Side.{Side}
use Rattle.mars_base.specs.declared.shape.Side.TheVariants.{A, B}
use Rattle.script.specs.Running.{IsRunning, IsLost}
use Rattle.script.specs.declared.script.Silence.{Silence}
use Rattle.cluster_model.specs.Silences.{falls}

-- the script names a moment or an earlier one for a replica exactly where that doesn't run there
abbrev pub FallsWhereNotRunning : Type 0
FallsWhereNotRunning = (silences : List Silence) (unit : ℕ) (side : Side) (cycle tick : ℕ) → (falls silences unit side cycle tick ≡ false) ↔ IsRunning silences unit side cycle tick

-- a unit is lost in a cycle exactly where both replicas are named by its last tick
abbrev pub LostWhereBothFall : Type 0
LostWhereBothFall = (silences : List Silence) (ticks unit cycle : ℕ) → 0 < ticks
    → IsLost silences ticks unit cycle ↔ ((falls silences unit A cycle (ticks - 1) ≡ true) × (falls silences unit B cycle (ticks - 1) ≡ true))
