use Rattle.std.proofs.Common.{◌≡◌, map, take}
use Rattle.image_plant.specs.Fields.{message_part}
use Rattle.image.proofs.entries.message_parts.Given as goal

abbrev pub invariant-loop-message : goal.invariant-loop-message
invariant-loop-message l = l.parts.items ≡ map (message_part) (take l.message-index l.messages)
