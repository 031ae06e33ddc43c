use Rattle.graph.proofs.Within.{within_answer}
use Rattle.graph.proofs.soundness.is_within_limits.Goals as goal

pub returns : goal.returns
returns c = within_answer c.args.net.now c.cycle_within.result c.is_ok.result c.requires c.is_ok.ensures.value c.cycle_within.ensures
