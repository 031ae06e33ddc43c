use Rattle.std.specs.Prelude.{All}
use Rattle.task_ports.specs.Ports.{IsTaskPorts}
use Rattle.project_binder_rows.proofs.tasks_of.Given as goal

abbrev pub invariant-loop-row : goal.invariant-loop-row
invariant-loop-row l = All IsTaskPorts l.tasks.items
