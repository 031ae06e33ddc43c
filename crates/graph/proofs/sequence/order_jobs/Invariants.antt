use Rattle.std.proofs.Common.{◌-◌, length}
use Rattle.graph.specs.Blocks.{HasCome}
use Rattle.graph.proofs.sequence.order_jobs.Given as goal

abbrev pub invariant-loop-from : goal.invariant-loop-from
invariant-loop-from l = HasCome l.net l.cycle l.tasks l.order.items l.from l.from l.from 0

abbrev pub decreases-loop-from : goal.decreases-loop-from
decreases-loop-from l = length l.tasks - l.from
