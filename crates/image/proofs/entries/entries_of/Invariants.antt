use Rattle.std.proofs.Common.{◌≡◌, map, take}
use Rattle.image_plant.specs.Said.{entry_of}
use Rattle.image.proofs.entries.entries_of.Given as goal

abbrev pub invariant-loop-part : goal.invariant-loop-part
invariant-loop-part l = l.entries ≡ map (entry_of l.net l.graph.cycle) (take l.part-index l.parts)
