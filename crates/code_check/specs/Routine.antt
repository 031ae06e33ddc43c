-- The routine of an instruction, by where it begins and where the next one does. This project's own.
use Rattle.std.specs.Prelude.{◌≡◌, ℕ, ◌<◌, ◌≤◌, slice_get, Some}
use Rattle.word_code.specs.Typing.{IsWhole}
use Rattle.word_code.specs.declared.code.Code.{Code}
use Rattle.code_check.specs.Ends.{EndsAt}
use Rattle.code_check.specs.declared.routine.Routine.{Routine}

-- the routine of this number begins and ends so
pub record IsRoutine (code : Code) (r : Routine) : Type 0 where
  pub begins : slice_get code.starts r.number ≡ Some r.first
  pub ends : EndsAt code r.number r.end

-- whole code has this routine, and the instruction at the number is in it
pub record StandsIn (code : Code) (r : Routine) (k : ℕ) : Type 0 where
  pub whole : IsWhole code
  pub routine : IsRoutine code r
  pub after : r.first ≤ k
  pub before : k < r.end
