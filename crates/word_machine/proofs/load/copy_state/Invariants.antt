use Rattle.std.proofs.Common.{◌≡◌, ◌+◌, ◌≤◌, ◌++◌, length, drop, take}
use Rattle.word_code.specs.Cells.{cell_words, width_of, total_width, is_state}
use Rattle.word_machine.proofs.load.copy_state.Given as goal

-- what is copied and the words of the cells that are left are the cells' words
abbrev pub invariant-loop-cell : goal.invariant-loop-cell
invariant-loop-cell l = record {
  copied : take l.filled l.into ++ cell_words is_state (drop l.cell-index l.cell-items) l.words ≡ cell_words is_state l.fn.code.cells l.fn.words;
  room : l.filled + width_of is_state (drop l.cell-index l.cell-items) ≡ length l.into;
  words : total_width (drop l.cell-index l.cell-items) ≤ length l.words;
}
