use Rattle.std.proofs.Common.{◌≡◌, subst, arith}
use Rattle.graph.specs.Blocks.{HasCome}
use Rattle.graph.proofs.Blocks.{come_place, block_task, block_fits}
use Rattle.graph.proofs.sequence.push_instance.Goals as goal

pub number-requires-clause-task : goal.number-requires-clause-task
number-requires-clause-task c = block_task c.args.net.now c.requires.entries c.args.cycle c.args.tasks.now c.requires.tasks c.args.from c.args.to c.loop-place.place c.requires.block (omega arith)

pub number-requires-clause-instance : goal.number-requires-clause-instance
number-requires-clause-instance c = block_fits c.args.net.now c.requires.entries c.args.cycle c.args.tasks.now c.requires.tasks c.args.from c.args.to c.loop-place.place c.args.instance c.requires.block (omega arith) (omega arith) c.requires.instance

pub loop-place-preserved : goal.loop-place-preserved
loop-place-preserved c =
    rw (c.in_ok-push.ensures.items, c.number.ensures)
    (come_place c.args.net.now c.requires.entries c.args.cycle c.args.tasks.now c.requires.tasks c.loop-place.order.items c.args.from c.args.to c.loop-place.place c.args.instance c.requires.block (omega arith) (omega arith) c.requires.instance c.loop-place.invariant)

pub returns : goal.returns
returns c =
    let some = c.requires.block.some in
    let last : c.loop-place.place ≡ c.args.to = omega (arith, some) in
    subst (λ p. HasCome c.args.net.now c.args.cycle c.args.tasks.now c.loop-place.order.items c.args.from c.args.to p c.args.instance) last c.loop-place.invariant
