-- What is read behind each word of a silence and of a pace.
use Rattle.std.proofs.Common.{ℕ, List, Option}
use Rattle.mars_base.specs.declared.shape.Side.{Side}
use Rattle.script_reader.specs.Entry.{Entry, Silent, Paced, unit_of, side_of, number_in, takes, ends}

abbrev pub silence_end : (unit : ℕ) → Side → (cycle tick : ℕ) → List (List ℕ) → Option Entry
silence_end unit side cycle tick = ends (Silent (record { unit = unit; side = side; cycle = cycle; tick = tick }))

abbrev pub silence_tick : (ticks unit : ℕ) → Side → (cycle : ℕ) → List (List ℕ) → Option Entry
silence_tick ticks unit side cycle = takes (number_in 0 ticks) (silence_end unit side cycle)

abbrev pub silence_cycle : (ticks unit : ℕ) → Side → List (List ℕ) → Option Entry
silence_cycle ticks unit side = takes (number_in 0 1000000) (silence_tick ticks unit side)

abbrev pub silence_side : (ticks unit : ℕ) → List (List ℕ) → Option Entry
silence_side ticks unit = takes side_of (silence_cycle ticks unit)

abbrev pub pace_end : (cycle unit : ℕ) → Side → (count : ℕ) → List (List ℕ) → Option Entry
pace_end cycle unit side count = ends (Paced (record { cycle = cycle; unit = unit; side = side; count = count }))

abbrev pub pace_count : (cycle unit : ℕ) → Side → List (List ℕ) → Option Entry
pace_count cycle unit side = takes (number_in 1 65537) (pace_end cycle unit side)

abbrev pub pace_side : (cycle unit : ℕ) → List (List ℕ) → Option Entry
pace_side cycle unit = takes side_of (pace_count cycle unit)

abbrev pub pace_unit : (units cycle : ℕ) → List (List ℕ) → Option Entry
pace_unit units cycle = takes (unit_of units) (pace_side cycle)
