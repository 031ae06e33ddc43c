use Rattle.graph.specs.Blocks.{HasCome}
use Rattle.graph.proofs.sequence.push_instance.Given as goal

abbrev pub invariant-loop-place : goal.invariant-loop-place
invariant-loop-place l = HasCome l.fn.net l.fn.cycle l.tasks l.order.items l.fn.from l.fn.to l.place l.instance
