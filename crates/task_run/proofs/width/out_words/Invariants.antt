use Rattle.std.proofs.Common.{◌≡◌, ◌≤◌, ◌+◌, ◌*◌, drop}
use Rattle.mc_tree.specs.Instance.{is_out, width_of}
use Rattle.task_run.proofs.width.out_words.Given as goal

abbrev pub invariant-loop-cell : goal.invariant-loop-cell
invariant-loop-cell l = record {
  counted : l.total + width_of is_out (drop l.cell-index l.cells) ≡ width_of is_out l.cells;
  small : l.total ≤ 65535 * l.cell-index;
}
