use Rattle.std.proofs.Common.{◌↔◌, ◌≤◌, drop}
use Rattle.word_code.specs.Cells.{total_width}
use Rattle.code_check.proofs.whole.has_room.Given as goal

abbrev pub invariant-loop-cell : goal.invariant-loop-cell
invariant-loop-cell l = (total_width l.cells ≤ l.places) ↔ (total_width (drop l.cell-index l.cells) ≤ l.left)
