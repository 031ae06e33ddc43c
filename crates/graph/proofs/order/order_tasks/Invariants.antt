use Rattle.graph.proofs.TaskOrder.{HasNamed}
use Rattle.graph.proofs.order.order_tasks.Given as goal

abbrev pub invariant-loop-place : goal.invariant-loop-place
invariant-loop-place l = HasNamed l.net l.order.items l.named l.place
