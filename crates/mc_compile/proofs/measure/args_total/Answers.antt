use Rattle.std.proofs.Common.{arith, ap}
use Rattle.std.proofs.Math.ListN.{drop_of_length-le}
use Rattle.mc_tree.specs.Plain.{plain_args}
use Rattle.mc_compile.specs.Translate.{args_len}
use Rattle.mc_compile.proofs.measure.args_total.Goals as goal

pub returns : goal.returns
returns c cells =
    let e = ap (λ es. args_len (plain_args cells es)) (drop_of_length-le c.args.args.now {i = c.loop-arg.arg-index} (omega arith)) in
    omega (arith, e, c.loop-arg.invariant.small, c.loop-arg.invariant.sum cells)
