use Rattle.std.proofs.Common.{◌≡◌, ◌≤◌, ◌+◌, ◌*◌, drop}
use Rattle.mc_tree.specs.Instance.{is_state, width_of}
use Rattle.task_run.proofs.width.state_words.Given as goal

abbrev pub invariant-loop-cell : goal.invariant-loop-cell
invariant-loop-cell l = record {
  counted : l.total + width_of is_state (drop l.cell-index l.cells) ≡ width_of is_state l.cells;
  small : l.total ≤ 65535 * l.cell-index;
}
