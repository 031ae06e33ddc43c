use Rattle.std.proofs.Common.{◌≡◌, map, take}
use Rattle.image_plant.specs.Said.{message_of}
use Rattle.image.proofs.entries.messages_of.Given as goal

abbrev pub invariant-loop-part : goal.invariant-loop-part
invariant-loop-part l = l.messages ≡ map (message_of) (take l.part-index l.parts)
