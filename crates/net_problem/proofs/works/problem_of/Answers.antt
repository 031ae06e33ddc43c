use Rattle.std.proofs.Common.{◌≡◌, length}
use Rattle.net_problem.proofs.Limits.{made_problem}
use Rattle.net_problem.proofs.works.problem_of.Goals as goal

pub returns-clause-limits : goal.returns-clause-limits
returns-clause-limits c =
    made_problem c.args.net.now c.args.graph.now c.round_of-round.result c.len-edges.result c.in_ok-works.works c.requires c.round_of-round.ensures.limits c.round_of-round.ensures.cycle c.round_of-round.ensures.round c.len-edges.ensures c.in_ok-works.ensures
