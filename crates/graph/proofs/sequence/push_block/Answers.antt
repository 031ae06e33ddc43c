use Rattle.std.proofs.Common.{◌≡◌, get_or, subst, arith}
use Rattle.graph.specs.Net.{instances}
use Rattle.graph.specs.Blocks.{HasCome}
use Rattle.graph.proofs.Blocks.{come_instance, come_done}
use Rattle.graph.proofs.sequence.push_block.Goals as goal

pub loop-instance-preserved : goal.loop-instance-preserved
loop-instance-preserved c =
    come_instance c.args.net.now c.requires.entries c.args.cycle c.args.tasks.now c.requires.tasks _ c.args.from c.args.to c.loop-instance.instance c.in_ok-push_instance.ensures

pub returns : goal.returns
returns c =
    let last : c.loop-instance.instance ≡ instances c.args.net.now c.args.cycle (get_or c.args.tasks.now c.args.from 0) = omega arith in
    come_done c.args.net.now c.requires.entries c.args.cycle c.args.tasks.now c.requires.tasks c.loop-instance.order.items c.args.from c.args.to c.requires.block
    (subst (λ i. HasCome c.args.net.now c.args.cycle c.args.tasks.now c.loop-instance.order.items c.args.from c.args.to c.args.from i) last c.loop-instance.invariant)
