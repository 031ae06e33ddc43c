-- Where a machine stands in an execution. This project's own.
use Rattle.std.specs.Prelude.{◌≡◌, ◌≢◌, ◌⊎◌, ℕ, ◌≤◌, ℤ, List, length, Option, Some, None}
use Rattle.processor.specs.Ends.{Halted, Broken, Limited, Over, Cut}
use Rattle.processor.specs.declared.cpu.Turn.{Turn}
use Rattle.processor.specs.declared.cpu.Turn.TheVariants as turn
use Rattle.word_code.specs.Cells.{start_of}
use Rattle.word_code.specs.Course.{IsOnCourse}
use Rattle.word_code.specs.Execution.{exec_from}
use Rattle.word_code.specs.State.{State}
use Rattle.word_code.specs.Typing.{height_at}
use Rattle.word_code.specs.declared.code.Code.{Code}
use Rattle.word_machine.specs.Acts.{state_of}
use Rattle.word_machine.specs.declared.machine.Machine.{Machine}
use Rattle.word_machine.specs.declared.registers.Registers.{Registers}

abbrev pub or_none : Option ℕ → ℕ
or_none None = 0
or_none (Some height) = height

-- the height of the instruction at a number
abbrev pub height_of : Code → ℕ → ℕ
height_of code pc = or_none (height_at code.instrs pc)

-- before the instruction at a number of the code
abbrev pub standing_at : Code → ℕ → Registers → State
standing_at code pc r = state_of pc (height_of code pc) r

abbrev pub standing : Code → Machine → State
standing code m = standing_at code m.pc m.registers

-- what the execution has come to, by the machine's turn
abbrev pub end_of : Turn → Machine → Limited (List ℤ)
end_of turn.Halted m = Over (Halted m.registers.words) m.cycles
end_of turn.Broken m = Over Broken m.cycles
end_of turn.Short m = Cut m.cycles

-- from this limit on, an execution goes on from the second as from the first
abbrev pub IsSame : Code → ℕ → State → ℕ → State → ℕ → Type 0
IsSame code limit s cycles t more = (top : ℕ) → limit ≤ top → exec_from code.instrs top s cycles ≡ exec_from code.instrs top t more

-- the machine has come to where the next instruction would pass the limit
pub record StopsShort (code : Code) (limit : ℕ) (old new : Machine) : Type 0 where
  pub course : IsOnCourse code (standing code new)
  pub below : new.cycles ≤ limit
  pub same : IsSame code limit (standing code old) old.cycles (standing code new) new.cycles
  pub short : exec_from code.instrs limit (standing code new) new.cycles ≡ Cut new.cycles

-- the execution is over
pub record StopsOver (code : Code) (limit : ℕ) (old new : Machine) (t : Turn) : Type 0 where
  pub places : length new.registers.words ≡ code.places
  pub done : (top : ℕ) → limit ≤ top → exec_from code.instrs top (standing code old) old.cycles ≡ end_of t new

-- the machine after its steps under a limit
abbrev pub Stopped : Code → ℕ → Machine → Machine → Turn → Type 0
Stopped code limit old new turn.Short = StopsShort code limit old new
Stopped code limit old new turn.Halted = StopsOver code limit old new turn.Halted
Stopped code limit old new turn.Broken = StopsOver code limit old new turn.Broken

-- the machine has run the execution up to the limit, and the next instruction would pass it
pub record IsRunning (m : Machine) (code : Code) (state ins : List ℤ) (limit : ℕ) : Type 0 where
  pub course : IsOnCourse code (standing code m)
  pub going : m.turn ≡ turn.Short
  pub below : m.cycles ≤ limit
  pub kept : m.limit ≡ limit
  pub same : IsSame code limit (start_of code state ins) 0 (standing code m) m.cycles
  pub short : exec_from code.instrs limit (standing code m) m.cycles ≡ Cut m.cycles

-- the execution was over at the limit or below
pub record IsFinished (m : Machine) (code : Code) (state ins : List ℤ) (limit : ℕ) : Type 0 where
  pub over : m.turn ≢ turn.Short
  pub places : length m.registers.words ≡ code.places
  pub done : (top : ℕ) → limit ≤ top → exec_from code.instrs top (start_of code state ins) 0 ≡ end_of m.turn m

-- the machine runs the code from this state and these inputs, and this is the greatest limit so far
abbrev pub Runs : Machine → Code → List ℤ → List ℤ → ℕ → Type 0
Runs m code state ins limit = IsRunning m code state ins limit ⊎ IsFinished m code state ins limit
