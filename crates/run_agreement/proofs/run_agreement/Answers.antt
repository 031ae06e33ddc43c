use Rattle.run_agreement.proofs.Losses.{lost_units}
use Rattle.run_agreement.proofs.Whole.{run_agreement}
use Rattle.run_agreement.proofs.run_agreement.Goals as goal

pub returns-clause-text : goal.returns-clause-text
returns-clause-text c = run_agreement

pub returns-clause-lost : goal.returns-clause-lost
returns-clause-lost c = lost_units
