use Rattle.std.proofs.Common.{◌≡◌, length}
use Rattle.mc_tree.specs.RawPlain.{plain_expr}
use Rattle.mc_reader.specs.Machine.{reduce}
use Rattle.mc_reader.specs.Frames.{stack}
use Rattle.mc_reader.proofs.expression.reduce.Given as goal

abbrev pub invariant-loop-operator : goal.invariant-loop-operator
invariant-loop-operator l = reduce l.least (stack l.fn.frames.items) (plain_expr l.fn.value) ≡ reduce l.least (stack l.frames.items) (plain_expr l.whole)

abbrev pub decreases-loop-operator : goal.decreases-loop-operator
decreases-loop-operator l = length l.frames.items
