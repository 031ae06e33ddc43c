-- The ticks of a TDMA bus, after the Mars approach (H. Kopetz et al., IEEE Micro 9(1), 1989); that each
-- unit has an A slot and then a B slot, and that idle ticks end each slot, is this project's own.
use Rattle.std.specs.Prelude.{ℕ, ◌+◌, ◌-◌, ◌*◌, ◌/◌, ◌^◌, ◌<◌, ◌≤◌}
use Rattle.mars_base.specs.Shape.{slot_length, least_round_of}
use Rattle.mars_base.specs.declared.shape.ClusterShape.{ClusterShape}
use Rattle.mars_base.specs.declared.shape.Side.{Side}
use Rattle.mars_base.specs.declared.shape.Side.TheVariants.{A, B}

-- the bus of one cycle
pub record Layout : Type 0 where
  -- how many units have slots
  pub units : ℕ
  -- how many ticks of a slot have a word
  pub slot_words : ℕ
  -- how many idle ticks end a slot
  pub precision : ℕ
  -- the ticks of a round
  pub round_ticks : ℕ
  -- the rounds of a cycle
  pub rounds : ℕ

-- the bus of a cluster's cycle of so many ticks: a whole number of rounds
abbrev pub layout_of : ClusterShape → (cycle : ℕ) → Layout
layout_of s cycle = record { units = s.units; slot_words = s.slot_words; precision = s.precision; round_ticks = s.round; rounds = cycle / s.round }

-- the numbers are in their limits, and the slots of all units fit in a round
pub record IsLayout (l : Layout) : Type 0 where
  pub some_unit : 1 ≤ l.units
  pub few_units : l.units ≤ 8
  pub some_words : 2 ≤ l.slot_words
  pub few_words : l.slot_words ≤ 64
  pub some_idle : 1 ≤ l.precision
  pub few_idle : l.precision ≤ 8
  pub fits : least_round_of l.units l.slot_words l.precision ≤ l.round_ticks
  pub cycle : l.rounds * l.round_ticks < 2 ^ 32

-- the ticks of a cycle
abbrev pub cycle_ticks : Layout → ℕ
cycle_ticks l = l.rounds * l.round_ticks

-- the ticks of a slot
abbrev pub slot_ticks : Layout → ℕ
slot_ticks l = slot_length l.slot_words l.precision

-- which of a unit's two slots comes first
abbrev pub side_number : Side → ℕ
side_number A = 0
side_number B = 1

-- the tick at which the slot of a unit's side begins: the rounds before, the slots of the units before,
-- and for B the unit's A slot
abbrev pub slot_start_of : Layout → (round unit : ℕ) → Side → ℕ
slot_start_of l round unit side = round * l.round_ticks + 2 * unit * slot_ticks l + side_number side * slot_ticks l

-- the tick of the slot's last word
abbrev pub last_word_tick : Layout → (round unit : ℕ) → Side → ℕ
last_word_tick l round unit side = slot_start_of l round unit side + (l.slot_words - 1)

-- the first tick at which the unit's frame of the round may be used: its two slots are over
abbrev pub usable_of : Layout → (round unit : ℕ) → ℕ
usable_of l round unit = round * l.round_ticks + (2 * unit + 2) * slot_ticks l
