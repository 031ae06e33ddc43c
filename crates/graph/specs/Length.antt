-- How many ticks a job takes.
use Rattle.std.specs.Prelude.{ℕ, max}
use Rattle.std.specs.Int.{div_ceil}

-- the ticks of a job that takes at most so many cycles: the rounded-up quotient, so enough for all its cycles, and
-- at least 1
abbrev pub length_of : (maxt cycles_per_tick : ℕ) → ℕ
length_of maxt cycles_per_tick = max 1 (div_ceil maxt cycles_per_tick)
