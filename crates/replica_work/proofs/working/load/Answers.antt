use Rattle.std.proofs.Common.{ap, arith}
use Rattle.graph.specs.declared.job.Job.{Job}
use Rattle.cluster_plan.proofs.Numbers.{is_of}
use Rattle.replica_work.proofs.Later.{graph_of}
use Rattle.replica_work.proofs.working.load.Goals as goal

pub program-program-requires : goal.program-program-requires
program-program-requires g c =
    let plant = c.args.plant.now in
    let known = (is_of plant.net plant.graph (graph_of plant c.requires.in_order) c.args.job c.requires.hand.known).task in
    omega (arith, known, ap (λ (j : Job). j.task) c.job_of-task.ensures, c.requires.in_order.programs)

pub get-requires : goal.get-requires
get-requires g c =
    let plant = c.args.plant.now in
    let known = (is_of plant.net plant.graph (graph_of plant c.requires.in_order) c.args.job c.requires.hand.known).task in
    omega (arith, known, c.from.ensures, ap (λ (j : Job). j.task) c.job_of-task.ensures, c.requires.states)
