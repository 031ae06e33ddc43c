-- When a script names a replica's silence.
use Rattle.std.specs.Prelude.{ℕ, Bool, true, false, ◌&&◌, ◌||◌, nat_eq, nat_le, nat_lt, List}
use Rattle.std.specs.List.{list_any}
use Rattle.mars_base.specs.declared.shape.Side.{Side}
use Rattle.mars_base.specs.declared.shape.Side.TheVariants.{A, B}
use Rattle.script.specs.declared.script.Silence.{Silence}

abbrev pub same_side : Side → Side → Bool
same_side A A = true
same_side A B = false
same_side B A = false
same_side B B = true

-- the silence is this replica's, at this tick of this cycle or at an earlier moment
abbrev pub names : (unit : ℕ) → Side → (cycle tick : ℕ) → Silence → Bool
names unit side cycle tick s = (nat_eq s.unit unit && same_side s.side side) && (nat_lt s.cycle cycle || (nat_eq s.cycle cycle && nat_le s.tick tick))

-- the script names such a silence: the replica falls silent rather than perform this tick
abbrev pub falls : List Silence → (unit : ℕ) → Side → (cycle tick : ℕ) → Bool
falls silences unit side cycle tick = list_any (names unit side cycle tick) silences
