use Rattle.std.proofs.Common.{◌≡◌, sym, take, length}
use Rattle.std.proofs.lemmas.List.Elements.{All-more, All-same}
use Rattle.std.proofs.lemmas.List.{take_all}
use Rattle.word_code.specs.declared.code.Slot.{Slot}
use Rattle.image_parts.specs.Slot.{slot}
use Rattle.image_parts.proofs.ranges.slots_fit.Goals as goal

pub loop-s-preserved : goal.loop-s-preserved
loop-s-preserved c = All-more slot.fits c.args.slots.now c.loop-s.s-index _ c.loop-s-test.true c.loop-s.invariant c.slot_fits.ensures

pub returns : goal.returns
returns c = All-same slot.fits c.args.slots.now (take c.loop-s.s-index c.args.slots.now) (sym (take_all c.loop-s.s-index c.args.slots.now c.loop-s-test.false)) c.loop-s.invariant
