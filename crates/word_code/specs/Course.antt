-- Where verified code stands between two steps, and that it never is stuck. This project's own.
use Rattle.std.specs.Prelude.{◌≡◌, ◌≢◌, ℕ, ◌<◌, ◌≤◌, ℤ, List, [], ◌∷◌, length, Some}
use Rattle.word_code.specs.Cells.{start_of, width_of, is_in, is_state}
use Rattle.word_code.specs.Runs.{Reaches}
use Rattle.processor.specs.Ends.{Stuck}
use Rattle.word_code.specs.State.{State}
use Rattle.word_code.specs.Step.{step}
use Rattle.word_code.specs.Typing.{height_at, routine_of}
use Rattle.word_code.specs.declared.code.Code.{Code}

-- the numbers that the calls of a routine return to: none in the first, and in another routine each has height 1
-- and stands in the first routine or in a later one than this
abbrev pub IsCalled : Code → ℕ → List ℕ → Type 0
IsCalled code routine [] = routine ≡ 0
IsCalled code routine (r ∷ rs) =
    (1 ≤ routine) × (height_at code.instrs r ≡ Some 1)
    × (1 ≤ routine_of code.starts r → routine < routine_of code.starts r) × IsCalled code (routine_of code.starts r) rs

-- the stack has the height of the next instruction, the places and counters are there, and so are the calls
pub record IsOnCourse (code : Code) (s : State) : Type 0 where
  pub height : height_at code.instrs s.pc ≡ Some (length s.stack)
  pub places : length s.words ≡ code.places
  pub counters : length s.counters ≡ code.counters
  pub calls : IsCalled code (routine_of code.starts s.pc) s.returns

-- no step lacks an operand, a place, a counter, a number to return to or an instruction, whatever the state and the
-- inputs, and no more than 64 operands and 16 calls are open
pub record NeverStuck (code : Code) : Type 0 where
  pub goes : (state ins : List ℤ) → length state ≡ width_of is_state code.cells → length ins ≡ width_of is_in code.cells
      → (s : State) → Reaches code.instrs (start_of code state ins) s → step code.instrs s ≢ Stuck
  pub bounds : (state ins : List ℤ) → length state ≡ width_of is_state code.cells → length ins ≡ width_of is_in code.cells
      → (s : State) → Reaches code.instrs (start_of code state ins) s → (length s.stack ≤ 64) × (length s.returns ≤ 16)
