use Rattle.std.proofs.Common.{◌≡◌, ◌≤◌, ◌+◌, ◌*◌, drop}
use Rattle.mc_tree.specs.Instance.{is_in, width_of}
use Rattle.task_run.proofs.width.in_words.Given as goal

abbrev pub invariant-loop-cell : goal.invariant-loop-cell
invariant-loop-cell l = record {
  counted : l.total + width_of is_in (drop l.cell-index l.cells) ≡ width_of is_in l.cells;
  small : l.total ≤ 65535 * l.cell-index;
}
