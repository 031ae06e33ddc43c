use Rattle.cluster_cycling.proofs.Whole.{cycling_is_text}
use Rattle.cluster_cycling.proofs.cycling_is_text.Goals as goal

pub returns : goal.returns
returns c = cycling_is_text
