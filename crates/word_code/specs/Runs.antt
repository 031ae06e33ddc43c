-- Whole runs of the word machine, without a limit. This project's own.
use Rattle.std.specs.Prelude.{ℤ, List}
use Rattle.processor.specs.Ends.{End}
use Rattle.word_code.specs.State.{State}
use Rattle.word_code.specs.Step.{machine_of}
use Rattle.processor.specs.System.{RunOf, ReachesBy}
use Rattle.word_code.specs.declared.code.Slot.{Slot}

-- a run from a state to its end, which leaves the words of data where it halts
abbrev pub Run : List Slot → State → End (List ℤ) → Type 0
Run instrs = RunOf (machine_of instrs)

-- some steps lead from the first state to the second
abbrev pub Reaches : List Slot → State → State → Type 0
Reaches instrs = ReachesBy (machine_of instrs)
