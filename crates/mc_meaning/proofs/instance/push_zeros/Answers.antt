use Rattle.mc_meaning.proofs.Instances.{one_zero}
use Rattle.mc_meaning.proofs.instance.push_zeros.Goals as goal

pub loop-done-preserved : goal.loop-done-preserved
loop-done-preserved c =
    one_zero c.push.new.self.items c.loop-done.words.items c.args.words.now.items c.loop-done._done c.loop-done.invariant (c.in_ok-push.ensures {u = tt}).items
