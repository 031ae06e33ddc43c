-- Executions of code from its state and its inputs: whole, and under a limit. This project's own.
use Rattle.std.specs.Prelude.{◌≡◌, ℕ, ℤ, List}
use Rattle.word_code.specs.Cells.{cell_words, is_out, is_state, start_of}
use Rattle.processor.specs.Ends.{Halted, Broken, Limited, limited_map}
use Rattle.processor.specs.Results.{Results, Ran}
use Rattle.word_code.specs.Runs.{Run}
use Rattle.word_code.specs.State.{State}
use Rattle.word_code.specs.Step.{machine_of}
use Rattle.processor.specs.System.{cycles_of, exec_by}
use Rattle.word_code.specs.declared.code.Code.{Code}
use Rattle.word_code.specs.declared.code.Slot.{Slot}

-- without a limit it halts, leaving this state and giving these outputs, after so many cycles
pub record Halts (code : Code) (state ins left outs : List ℤ) (cycles : ℕ) : Type 0 where
  pub words : List ℤ
  pub run : Run code.instrs (start_of code state ins) (Halted words)
  pub state_is : cell_words is_state code.cells words ≡ left
  pub outs_are : cell_words is_out code.cells words ≡ outs
  pub cycles_are : cycles_of run ≡ cycles

-- without a limit it breaks
abbrev pub Breaks : Code → List ℤ → List ℤ → Type 0
Breaks code state ins = Run code.instrs (start_of code state ins) Broken

-- under a limit, from a state of the machine with the cycles so far
abbrev pub exec_from : List Slot → ℕ → State → ℕ → Limited (List ℤ)
exec_from instrs = exec_by (machine_of instrs)

-- the results in the words of data
abbrev pub results_of : Code → List ℤ → Results
results_of code words = (cell_words is_state code.cells words, cell_words is_out code.cells words)

-- the execution of code under a limit, from a state and inputs
abbrev pub exec : Code → ℕ → List ℤ → List ℤ → Ran
exec code limit state ins = limited_map (results_of code) (exec_from code.instrs limit (start_of code state ins) 0)
