use Rattle.std.proofs.Common.{◌≡◌, ◌++◌, drop}
use Rattle.mc_tree.specs.Instance.{words_of}
use Rattle.mc_meaning.specs.Outcome.{has_role}
use Rattle.mc_meaning.proofs.instance.given.Given as goal

abbrev pub invariant-loop-cell : goal.invariant-loop-cell
invariant-loop-cell l = l.list.items ++ words_of (has_role l.role) (drop l.cell-index l.cells) l.from ≡ words_of (has_role l.role) l.cells l.words
