use Rattle.std.proofs.Common.{ℕ, ◌<◌}
use Rattle.graph.specs.Masks.{IsOpen}
use Rattle.graph.proofs.order.first_open.Given as goal

abbrev pub invariant-loop-task : goal.invariant-loop-task
invariant-loop-task l = (t : ℕ) → t < l.task → IsOpen l.masks l.named t → ⊥
