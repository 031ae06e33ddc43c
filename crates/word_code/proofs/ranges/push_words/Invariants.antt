use Rattle.std.proofs.Common.{All, take}
use Rattle.word_code.specs.Action.{action_of}
use Rattle.word_code.specs.Words.{PushesWord}
use Rattle.word_code.specs.declared.code.Slot.{Slot}
use Rattle.word_code.proofs.ranges.push_words.Given as goal

-- those so far have words
abbrev pub invariant-loop-slot : goal.invariant-loop-slot
invariant-loop-slot l = All (λ (slot : Slot). PushesWord (action_of slot.instr)) (take l.slot-index l.slots)
