use Rattle.std.proofs.Common.{◌≡◌, ◌+◌, drop}
use Rattle.mc_tree.specs.Checked.{words_in}
use Rattle.mc_compile.proofs.task.words.Given as goal

abbrev pub invariant-loop-cell : goal.invariant-loop-cell
invariant-loop-cell l = l.total + words_in (drop l.cell-index l.cells) ≡ words_in l.cells
