use Rattle.std.proofs.Common.{◌+◌, ◌<◌, ◌≤◌, length, arith}
use Rattle.graph.specs.Net.{instances}
use Rattle.graph.specs.Cycle.{first_job, job_count}
use Rattle.graph.proofs.Numbers.{later_task}
use Rattle.graph.proofs.sequence.first_jobs.Goals as goal

pub overflow_cast-next : goal.overflow_cast-next
overflow_cast-next c =
    let low : c.loop-task.task < length c.args.net.now.tasks = omega arith in
    let few : first_job c.args.net.now c.args.cycle c.loop-task.task + instances c.args.net.now c.args.cycle c.loop-task.task ≤ job_count c.args.net.now c.args.cycle = later_task c.args.net.now c.args.cycle c.loop-task.task (length c.args.net.now.tasks) low in
    omega (arith, few, c.requires.jobs)

pub overflow_add-next : goal.overflow_add-next
overflow_add-next c =
    let low : c.loop-task.task < length c.args.net.now.tasks = omega arith in
    let few : first_job c.args.net.now c.args.cycle c.loop-task.task + instances c.args.net.now c.args.cycle c.loop-task.task ≤ job_count c.args.net.now c.args.cycle = later_task c.args.net.now c.args.cycle c.loop-task.task (length c.args.net.now.tasks) low in
    omega (arith, few, c.requires.jobs)
