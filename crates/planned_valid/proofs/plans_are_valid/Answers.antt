use Rattle.planned_valid.proofs.FoundTables.{plan_valid, plan_whole}
use Rattle.planned_valid.proofs.plans_are_valid.Goals as goal

pub returns-clause-valid : goal.returns-clause-valid
returns-clause-valid c = plan_valid

pub returns-clause-whole : goal.returns-clause-whole
returns-clause-whole c = plan_whole
