use Rattle.project_plant.proofs.Wholes.{whole_source, whole_carries}
use Rattle.project_plant.proofs.wholes_carry.Goals as goal

pub returns-clause-source : goal.returns-clause-source
returns-clause-source c = whole_source

pub returns-clause-carries : goal.returns-clause-carries
returns-clause-carries c = whole_carries
