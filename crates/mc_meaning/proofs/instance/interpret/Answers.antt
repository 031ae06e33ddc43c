use Rattle.std.proofs.Common.{◌∙◌}
use Rattle.mc_meaning.proofs.Instances.{instance_is}
use Rattle.mc_meaning.proofs.instance.interpret.Goals as goal

pub returns : goal.returns
returns c =
    c.in_ok-outcome.ensures {u = tt}
    ∙ instance_is c.args.task.now c.args.state.now c.args.ins.now c.as_mut_slice.result.now c.as_slice.result.now c.as_slice.ensures (c.as_mut_slice.ensures.value ∙ c.in_ok-words.ensures {u = tt})
