use Rattle.std.proofs.Common.{length, arith}
use Rattle.placement.proofs.Looking.{order_jobs}
use Rattle.placement.proofs.cursor.look.Goals as goal

pub is_ready-requires-clause-job : goal.is_ready-requires-clause-job
is_ready-requires-clause-job c =
    let s = c.args.state.now in
    let n = length s.problem.works in
    omega (arith, order_jobs s.problem n n s.order.items c.requires.order_is (omega arith) c.loop-place.place c.index-job.result.now (omega (arith, c.loop-place-test.true, c.len.ensures)), c.index-job.ensures)

pub row-requires-clause-job : goal.row-requires-clause-job
row-requires-clause-job c =
    let s = c.args.state.now in
    let n = length s.problem.works in
    omega (arith, order_jobs s.problem n n s.order.items c.requires.order_is (omega arith) c.loop-place.place c.index-job.result.now (omega (arith, c.loop-place-test.true, c.len.ensures)), c.index-job.ensures)
