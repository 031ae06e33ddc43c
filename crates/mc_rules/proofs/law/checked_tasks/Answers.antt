use Rattle.mc_rules.proofs.Determines.{same_task}
use Rattle.mc_rules.proofs.law.checked_tasks.Goals as goal

pub returns : goal.returns
returns c = same_task
