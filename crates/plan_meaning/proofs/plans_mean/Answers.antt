use Rattle.plan_meaning.proofs.PlanMeaning.{plan_ran}
use Rattle.plan_meaning.proofs.plans_mean.Goals as goal

pub returns : goal.returns
returns c = plan_ran
