use Rattle.std.proofs.Common.{rules, arith, ap, length}
use Rattle.mc_compile.proofs.Grow.{length-found, params_missing}
use Rattle.mc_compile.proofs.measure.parameters.Goals as goal

pub returns-in-Some : goal.returns-in-Some
returns-in-Some c =
    let e = length-found c.args.task.now c.args.func c.in-Some.function.now (search rules) in
    omega (arith, e, c.len.ensures)

pub returns-in-None : goal.returns-in-None
returns-in-None c =
    let e = params_missing c.args.task.now c.args.func (search rules) in
    omega (arith, ap length e)
