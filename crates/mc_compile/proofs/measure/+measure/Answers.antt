use Rattle.std.proofs.Common.{arith, ap}
use Rattle.std.proofs.Math.ListN.{drop_of_length-le}
use Rattle.mc_tree.specs.Plain.{plain_list, plain_loops}
use Rattle.mc_compile.specs.Emit.{params_of}
use Rattle.mc_compile.specs.Translate.{bl_len, ls_len}
use Rattle.mc_compile.proofs.measure.+measure.Goals as goal

pub block_len-returns : goal.block_len-returns
block_len-returns t c =
    let task = c.args.task.now in
    let e = ap (λ ss. bl_len (params_of task) (plain_list task.cells ss)) (drop_of_length-le c.args.stmts.now {i = c.loop-stmt.stmt-index} (omega arith)) in
    omega (arith, e, c.loop-stmt.invariant.small, c.loop-stmt.invariant.sum)

pub loops_len-returns : goal.loops_len-returns
loops_len-returns t c =
    let task = c.args.task.now in
    let e = ap (λ ss. ls_len (params_of task) (plain_loops task.cells ss)) (drop_of_length-le c.args.loops.now {i = c.loop-stmt.stmt-index} (omega arith)) in
    omega (arith, e, c.loop-stmt.invariant.small, c.loop-stmt.invariant.sum)
