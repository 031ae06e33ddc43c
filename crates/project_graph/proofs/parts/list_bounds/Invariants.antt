use Rattle.std.proofs.Common.{◌≡◌, map, take}
use Rattle.task_source.specs.declared.built.BuiltTask.{BuiltTask}
use Rattle.project_graph.proofs.parts.list_bounds.Given as goal

abbrev pub invariant-loop-task : goal.invariant-loop-task
invariant-loop-task l = l.list.items ≡ map (λ (b : BuiltTask). b.maxt) (take l.task-index l.tasks)
