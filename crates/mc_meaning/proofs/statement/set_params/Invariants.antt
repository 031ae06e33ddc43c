use Rattle.std.proofs.Common.{◌≡◌, ◌≤◌, length, drop, map}
use Rattle.mc_tree.specs.Plain.{place_in}
use Rattle.mc_tree.specs.Meaning.{set_all}
use Rattle.mc_meaning.proofs.statement.set_params.Given as goal

abbrev pub invariant-loop-left : goal.invariant-loop-left
invariant-loop-left l = (l.left ≤ length l.params) × (l.left ≤ length l.args) × (l.words ≡ set_all (map (place_in l.cells) (drop l.left l.params)) (drop l.left l.args) l.initial.words)

abbrev pub decreases-loop-left : goal.decreases-loop-left
decreases-loop-left l = l.left
