use Rattle.cluster_reached.proofs.Along.{reached_leads}
use Rattle.cluster_reached.proofs.Whole.{reached_holds}
use Rattle.cluster_reached.proofs.reached_states.Goals as goal

pub returns : goal.returns
returns c = record { leads = reached_leads; holds = reached_holds }
