use Rattle.std.proofs.Common.{◌<◌, length, arith}
use Rattle.graph.specs.Cycle.{job_count}
use Rattle.graph.specs.Jobs.{job_number}
use Rattle.graph.proofs.Numbers.{is_job}
use Rattle.graph.proofs.sequence.number.Goals as goal

pub overflow_add-result : goal.overflow_add-result
overflow_add-result c =
    let low : job_number c.args.net.now c.args.cycle c.args.task c.args.instance < job_count c.args.net.now c.args.cycle = is_job c.args.net.now c.args.cycle (length c.args.net.now.tasks) c.args.task c.args.instance c.requires.task c.requires.instance in
    let first = c.requires.firsts c.args.task c.requires.task in
    rw c.from.ensures (omega (arith, low, first, c.requires.jobs))

pub overflow_cast-result : goal.overflow_cast-result
overflow_cast-result c =
    let low : job_number c.args.net.now c.args.cycle c.args.task c.args.instance < job_count c.args.net.now c.args.cycle = is_job c.args.net.now c.args.cycle (length c.args.net.now.tasks) c.args.task c.args.instance c.requires.task c.requires.instance in
    omega (arith, low, c.requires.jobs)
