use Rattle.planned_plant.proofs.WasPlanned.{was_planned, was_whole}
use Rattle.planned_plant.proofs.plans_are_whole.Goals as goal

pub returns-clause-gave : goal.returns-clause-gave
returns-clause-gave c = was_planned

pub returns-clause-whole : goal.returns-clause-whole
returns-clause-whole c = was_whole
