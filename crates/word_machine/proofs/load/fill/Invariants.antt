use Rattle.std.proofs.Common.{◌≡◌, ◌+◌, ◌++◌, length, drop}
use Rattle.word_code.specs.Cells.{cells_at_start, total_width, width_of, is_in, is_state}
use Rattle.word_machine.proofs.load.fill.Given as goal

-- the words so far and those of the cells that are left are the cells' words
abbrev pub invariant-loop-cell : goal.invariant-loop-cell
invariant-loop-cell l = record {
  words : l.words ++ cells_at_start (drop l.cell-index l.cell-items) l.state l.ins ≡ cells_at_start l.fn.code.cells l.fn.state l.fn.ins;
  total : length l.words + total_width (drop l.cell-index l.cell-items) ≡ total_width l.fn.code.cells;
  ins : length l.ins ≡ width_of is_in (drop l.cell-index l.cell-items);
  state : length l.state ≡ width_of is_state (drop l.cell-index l.cell-items);
}
