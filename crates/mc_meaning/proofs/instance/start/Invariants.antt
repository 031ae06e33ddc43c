use Rattle.std.proofs.Common.{◌≡◌, ◌++◌, drop}
use Rattle.mc_tree.specs.Instance.{words_at_start}
use Rattle.mc_meaning.proofs.instance.start.Given as goal

abbrev pub invariant-loop-cell : goal.invariant-loop-cell
invariant-loop-cell l = l.words.items ++ words_at_start (drop l.cell-index l.cells) l.state l.ins ≡ words_at_start l.cells l.initial.state l.initial.ins
