use Rattle.std.proofs.Common.{◌≡◌, map, take}
use Rattle.image_plant.specs.Fields.{job_part}
use Rattle.image.proofs.entries.job_parts.Given as goal

abbrev pub invariant-loop-entry : goal.invariant-loop-entry
invariant-loop-entry l = l.parts.items ≡ map (job_part l.graph) (take l.entry-index l.entries)
