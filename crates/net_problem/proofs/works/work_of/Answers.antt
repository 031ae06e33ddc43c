use Rattle.std.proofs.Common.{◌≡◌, sym, subst, arith}
use Rattle.graph.specs.declared.job.Job.{Job}
use Rattle.net_problem.specs.Instance.{IsInstance}
use Rattle.net_problem.proofs.ByNumber.{instance_at, number_few}
use Rattle.net_problem.proofs.works.work_of.Goals as goal

pub feeds_of-requires-clause-instance : goal.feeds_of-requires-clause-instance
feeds_of-requires-clause-instance c =
    subst (λ (x : Job). IsInstance c.args.net.now c.args.graph.now x.task x.instance) (sym c.job_of-job.ensures) (instance_at c.args.net.now c.args.graph.now c.args.number c.requires.net c.requires.number)

pub overflow_cast-number : goal.overflow_cast-number
overflow_cast-number c = omega (arith, number_few c.args.net.now c.args.graph.now c.args.number c.requires.net c.requires.number)
