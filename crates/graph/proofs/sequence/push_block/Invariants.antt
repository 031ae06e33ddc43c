use Rattle.graph.specs.Blocks.{HasCome}
use Rattle.graph.proofs.sequence.push_block.Given as goal

abbrev pub invariant-loop-instance : goal.invariant-loop-instance
invariant-loop-instance l = HasCome l.net l.cycle l.tasks l.order.items l.from l.to l.from l.instance
