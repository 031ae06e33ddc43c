use Rattle.cluster_plan.proofs.Results.{graph_results}
use Rattle.cluster_plan.proofs.Whole.{sound_plans}
use Rattle.cluster_plan.proofs.plans_follow_graphs.Goals as goal

pub returns-clause-sound : goal.returns-clause-sound
returns-clause-sound c = sound_plans

pub returns-clause-results : goal.returns-clause-results
returns-clause-results c = graph_results
