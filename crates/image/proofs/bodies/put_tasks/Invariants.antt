use Rattle.std.proofs.Common.{◌≡◌, ◌++◌, take}
use Rattle.std.specs.List.{flat_map}
use Rattle.image_tasks.specs.Task.{task}
use Rattle.image_plant.specs.Fields.{task_parts}
use Rattle.image.proofs.bodies.put_tasks.Given as goal

abbrev pub invariant-loop-place : goal.invariant-loop-place
invariant-loop-place l = l.into.items ≡ l.fn.into.items ++ flat_map task.writes (take l.place (task_parts l.tasks l.maxts l.programs))
