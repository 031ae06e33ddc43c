use Rattle.std.proofs.Common.{◌≡◌, ◌+◌, drop}
use Rattle.word_code.specs.Cells.{width_of, is_state}
use Rattle.image_sides.proofs.state.state_width.Given as goal

abbrev pub invariant-loop-cell : goal.invariant-loop-cell
invariant-loop-cell l = l.words + width_of is_state (drop l.cell-index l.cells) ≡ width_of is_state l.cells
