use Rattle.std.proofs.Common.{arith}
use Rattle.graph.proofs.Blocks.{come_start, come_block, come_end}
use Rattle.graph.proofs.sequence.order_jobs.Goals as goal

pub loop-from-init : goal.loop-from-init
loop-from-init c = rw c.new-order.ensures.items (come_start c.args.net.now c.requires.entries c.args.cycle c.args.tasks.now c.requires.tasks)

pub push_block-requires-clause-come : goal.push_block-requires-clause-come
push_block-requires-clause-come c = come_block c.args.net.now c.requires.entries c.args.cycle c.args.tasks.now c.requires.tasks c.loop-from.order.items c.loop-from.from c.block_end-to.result c.loop-from.invariant

pub returns : goal.returns
returns c = come_end c.args.net.now c.requires.entries c.args.cycle c.args.tasks.now c.requires.tasks c.loop-from.order.items c.loop-from.from (omega arith) c.loop-from.invariant
