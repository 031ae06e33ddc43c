use Rattle.std.proofs.Common.{◌≡◌, ◌++◌, drop}
use Rattle.mc_compile.specs.Whole.{shapes_of}
use Rattle.mc_compile.proofs.task.shapes.Given as goal

abbrev pub invariant-loop-cell : goal.invariant-loop-cell
invariant-loop-cell l = l.shapes ++ shapes_of (drop l.cell-index l.cells) ≡ shapes_of l.cells
