-- The lengths of the TDMA bus, in ticks; the layout is this project's own.
use Rattle.std.specs.Prelude.{ℕ, ◌+◌, ◌*◌, ◌≤◌}
use Rattle.mars_base.specs.declared.shape.ClusterShape.{ClusterShape}

-- a slot: a tick for each word, and then idle ticks
abbrev pub slot_length : ℕ → ℕ → ℕ
slot_length slot_words precision = slot_words + precision

-- an A slot and a B slot for each unit
abbrev pub least_round_of : ℕ → ℕ → ℕ → ℕ
least_round_of units slot_words precision = 2 * units * slot_length slot_words precision

-- a cluster's numbers are in their limits, and the slots of all its units fit in a round
pub record IsShape (s : ClusterShape) : Type 0 where
  pub units : (1 ≤ s.units) × (s.units ≤ 8)
  pub slot_words : (2 ≤ s.slot_words) × (s.slot_words ≤ 64)
  pub precision : (1 ≤ s.precision) × (s.precision ≤ 8)
  pub cycles_per_tick : (1 ≤ s.cycles_per_tick) × (s.cycles_per_tick ≤ 10000)
  pub round : s.round ≤ 65536
  pub fits : least_round_of s.units s.slot_words s.precision ≤ s.round
