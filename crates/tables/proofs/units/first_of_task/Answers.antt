use Rattle.std.proofs.Common.{arith, ap, ◌∙◌}
use Rattle.graph.specs.Cycle.{first_job}
use Rattle.tables.proofs.FirstJobs.{has_first}
use Rattle.tables.proofs.units.first_of_task.Goals as goal

pub first_job-requires : goal.first_job-requires
first_job-requires c =
    let f = has_first c.args.net.now c.args.graph.now c.args.job c.requires.net c.requires.job in
    omega (arith, c.task_of.ensures, f.task, c.requires.net.is.graph.tasks)

pub returns-clause-first : goal.returns-clause-first
returns-clause-first c = c.from.ensures ∙ (c.first_job.ensures.first c.args.net.now c.requires.net ∙ ap (first_job c.args.net.now c.args.graph.now.cycle) c.task_of.ensures)

pub returns-clause-inside : goal.returns-clause-inside
returns-clause-inside c =
    let f = has_first c.args.net.now c.args.graph.now c.args.job c.requires.net c.requires.job in
    let e = c.from.ensures ∙ (c.first_job.ensures.first c.args.net.now c.requires.net ∙ ap (first_job c.args.net.now c.args.graph.now.cycle) c.task_of.ensures) in
    omega (arith, e, f.inside)
