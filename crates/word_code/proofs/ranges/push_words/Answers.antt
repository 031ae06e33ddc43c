use Rattle.std.proofs.Common.{◌≡◌, sym, take, length}
use Rattle.std.proofs.lemmas.List.Elements.{All-more, All-same}
use Rattle.std.proofs.lemmas.List.{take_all}
use Rattle.word_code.specs.Action.{action_of}
use Rattle.word_code.specs.Words.{PushesWord}
use Rattle.word_code.specs.declared.code.Slot.{Slot}
use Rattle.word_code.proofs.ranges.push_words.Goals as goal

abbrev Pushes : Slot → Type 0
Pushes slot = PushesWord (action_of slot.instr)

pub loop-slot-preserved : goal.loop-slot-preserved
loop-slot-preserved c = All-more Pushes c.args.slots.now c.loop-slot.slot-index _ c.loop-slot-test.true c.loop-slot.invariant c.pushes_word.ensures

pub returns : goal.returns
returns c =
    All-same Pushes c.args.slots.now (take c.loop-slot.slot-index c.args.slots.now)
    (sym (take_all c.loop-slot.slot-index c.args.slots.now c.loop-slot-test.false)) c.loop-slot.invariant
