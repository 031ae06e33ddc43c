-- The first silence of a replica, as the moment from which on it is silent.
use Rattle.std.specs.Prelude.{◌≡◌, ℕ, Bool, false, ◌&&◌, ◌||◌, nat_eq, nat_le, nat_lt, if◌then◌else◌, List, Option, Some, None}
use Rattle.mars_base.specs.declared.shape.Side.{Side}
use Rattle.script.specs.declared.script.Silence.{Silence}
use Rattle.cluster_model.specs.Silences.{same_side, falls}
use Rattle.first_silence.specs.declared.moment.Moment.{Moment}

-- the moment is this one or an earlier one
abbrev pub is_reached : Option Moment → (cycle tick : ℕ) → Bool
is_reached None cycle tick = false
is_reached (Some m) cycle tick = nat_lt m.cycle cycle || (nat_eq m.cycle cycle && nat_le m.tick tick)

-- the first moment is before the second
abbrev pub is_sooner : (m n : Moment) → Bool
is_sooner m n = nat_lt m.cycle n.cycle || (nat_eq m.cycle n.cycle && nat_lt m.tick n.tick)

abbrev pub sooner : Option Moment → Option Moment → Option Moment
sooner None other = other
sooner (Some m) None = Some m
sooner (Some m) (Some n) = if is_sooner n m then Some n else Some m

-- the moment of a silence, where it is this replica's
abbrev pub own : (unit : ℕ) → Side → Silence → Option Moment
own unit side s = if nat_eq s.unit unit && same_side s.side side then Some (record { cycle = s.cycle; tick = s.tick }) else None

-- the replica falls silent exactly from this moment on, or never
pub record IsFirstSilence (silences : List Silence) (unit : ℕ) (side : Side) (first : Option Moment) : Type 0 where
  pub falls_then : (cycle tick : ℕ) → is_reached first cycle tick ≡ falls silences unit side cycle tick
