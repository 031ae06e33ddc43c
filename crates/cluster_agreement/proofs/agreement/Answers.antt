use Rattle.cluster_agreement.proofs.Along.{agreement_holds}
use Rattle.cluster_agreement.proofs.agreement.Goals as goal

pub returns : goal.returns
returns c = agreement_holds
