-- Where an execution stands. This project's own.
use Rattle.std.specs.Prelude.{ℕ, ℤ, List}

-- the number of the next instruction, the operands with the top first, the words of data, the counters,
-- and the numbers that calls return to, the last call first
pub record State : Type 0 where
  pub pc : ℕ
  pub stack : List ℤ
  pub words : List ℤ
  pub counters : List ℕ
  pub returns : List ℕ

abbrev pub at : ℕ → List ℤ → List ℤ → List ℕ → List ℕ → State
at pc stack words counters returns =
    record { pc = pc; stack = stack; words = words; counters = counters; returns = returns }
