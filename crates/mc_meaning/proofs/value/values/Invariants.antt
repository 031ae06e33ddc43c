use Rattle.std.proofs.Common.{◌≡◌, drop}
use Rattle.mc_tree.specs.Plain.{plain_args}
use Rattle.mc_tree.specs.Meaning.{values_of}
use Rattle.mc_meaning.specs.Run.{behind}
use Rattle.mc_meaning.proofs.value.values.Given as goal

abbrev pub invariant-loop-arg : goal.invariant-loop-arg
invariant-loop-arg l = behind l.list.items (values_of (plain_args l.cells (drop l.arg-index l.args)) l.words) ≡ values_of (plain_args l.cells l.args) l.words
