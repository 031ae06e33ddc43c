use Rattle.std.proofs.Common.{◌≡◌, ◌++◌, drop}
use Rattle.word_code.specs.Cells.{is_in, is_out}
use Rattle.image_sides.specs.Sides.{widths_of}
use Rattle.image_sides.proofs.net_tasks.in_widths.Given as goal

abbrev pub invariant-loop-cell : goal.invariant-loop-cell
invariant-loop-cell l = l.widths ++ widths_of is_in (drop l.cell-index l.cells) ≡ widths_of is_in l.cells
