use Rattle.cluster_clocks.proofs.Progress as progress
use Rattle.cluster_clocks.proofs.some_may_act.Goals as goal

pub returns : goal.returns
returns c = progress.some_may_act
