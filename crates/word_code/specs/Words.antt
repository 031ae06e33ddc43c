-- The words that code itself has. This project's own.
use Rattle.std.specs.Prelude.{ℕ, ℤ, List, All}
use Rattle.processor.specs.Results.{IsWord}
use Rattle.word_code.specs.Action.{Action, Pushes, action_of}
use Rattle.word_code.specs.declared.code.Code.{Code}
use Rattle.word_code.specs.declared.code.Slot.{Slot}

-- what the action pushes by itself is a word
abbrev pub PushesWord : Action → Type 0
PushesWord (Pushes w) = IsWord w
PushesWord _ = Unit {0}

-- each PUSH of the code has a word
abbrev pub HasWords : Code → Type 0
HasWords code = All (λ (slot : Slot). PushesWord (action_of slot.instr)) code.instrs
