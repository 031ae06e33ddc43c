use Rattle.std.proofs.Common.{◌<◌, ◌∙◌, ap, length, arith}
use Rattle.graph.specs.Net.{instances}
use Rattle.graph.proofs.NetGraphs.{number_inside}
use Rattle.image.proofs.entries.job_number.Goals as goal

pub number_of-requires-clause-instance : goal.number_of-requires-clause-instance
number_of-requires-clause-instance c =
    let net = c.args.net.now in
    let low : c.args.task < length net.tasks = omega (arith, c.if-from-len.false, c.from.ensures, c.len.ensures) in
    let many = c.instances.ensures ∙ ap (λ h. instances net h c.args.task) c.cycle.ensures in
    let inside : c.args.instance < instances net c.args.graph.now.cycle c.args.task = omega (arith, c.if-from-instances.false, c.from-2.ensures, many) in
    let number = number_inside net c.requires.lengths c.args.graph.now c.requires.is.graph c.args.task c.args.instance low inside in
    let first = c.requires.is.graph.first_jobs c.args.task low in
    omega (arith, number, first, c.from-3.ensures)
