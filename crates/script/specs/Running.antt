-- When a replica runs, and when a unit is lost, after the silences of a script. Moments are ordered by cycle and then by
-- tick. That a replica falls silent and stays so is the fault model of the Mars approach (H. Kopetz et al., IEEE Micro 9(1),
-- 1989); scripts are this project's own.
use Rattle.std.specs.Prelude.{◌≡◌, ◌≢◌, ℕ, ◌<◌, ◌⊎◌, List, All}
use Rattle.mars_base.specs.declared.shape.Side.{Side}
use Rattle.mars_base.specs.declared.shape.Side.TheVariants.{A, B}
use Rattle.script.specs.declared.script.Silence.{Silence}

-- the first moment is before the second
abbrev pub IsBefore : (cycle tick cycle' tick' : ℕ) → Type 0
IsBefore cycle tick cycle' tick' = (cycle < cycle') ⊎ ((cycle ≡ cycle') × (tick < tick'))

-- the silence is another replica's, or the moment is before it
abbrev pub LeavesRunning : Silence → (unit : ℕ) → Side → (cycle tick : ℕ) → Type 0
LeavesRunning s unit side cycle tick = (s.unit ≢ unit) ⊎ ((s.side ≢ side) ⊎ IsBefore cycle tick s.cycle s.tick)

-- the replica runs: no silence of its own is at that moment or before it
abbrev pub IsRunning : List Silence → (unit : ℕ) → Side → (cycle tick : ℕ) → Type 0
IsRunning silences unit side cycle tick = All (λ s. LeavesRunning s unit side cycle tick) silences

-- at some tick of the cycle neither replica of the unit runs
pub record IsLost (silences : List Silence) (ticks unit cycle : ℕ) : Type 0 where
  pub tick : ℕ
  pub within : tick < ticks
  pub a : IsRunning silences unit A cycle tick → ⊥
  pub b : IsRunning silences unit B cycle tick → ⊥
