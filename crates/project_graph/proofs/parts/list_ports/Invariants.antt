use Rattle.std.proofs.Common.{◌≡◌, map, take}
use Rattle.std.specs.List.{All}
use Rattle.task_ports.specs.Ports.{ports_of, IsTaskPorts}
use Rattle.task_source.specs.declared.built.BuiltTask.{BuiltTask}
use Rattle.project_graph.proofs.parts.list_ports.Given as goal

abbrev pub invariant-loop-task : goal.invariant-loop-task
invariant-loop-task l = record {
  ports : l.list ≡ map (λ (b : BuiltTask). ports_of b.task) (take l.task-index l.tasks);
  kept : All IsTaskPorts l.list;
}
