use Rattle.std.proofs.Common.{◌≡◌, take}
use Rattle.task_ports.specs.Ports.{ports_in}
use Rattle.task_ports.proofs.ports.ports_of.Given as goal

abbrev pub invariant-loop-cell : goal.invariant-loop-cell
invariant-loop-cell l = record {
  cells : l.cell-items ≡ l.task.cells;
  ports : l.ports ≡ ports_in (take l.cell-index l.cell-items);
}
