use Rattle.std.proofs.Common.{length, ap, arith}
use Rattle.graph.proofs.Parts.{cycle_more, cycle_past}
use Rattle.graph.proofs.limits.cycle_of.Goals as goal

pub returns-then-longer-gt-MOST_TICKS : goal.returns-then-longer-gt-MOST_TICKS
returns-then-longer-gt-MOST_TICKS c =
    let is = rw c.as_slice-transaction-items.ensures at c.transaction-item.is in
    cycle_past c.args.net.now c.loop-transaction.transaction-index c.loop-transaction.cycle c.least_multiple-longer.result c.transaction-item.result is (omega (arith, ap length c.as_slice-transaction-items.ensures))
    c.loop-transaction.invariant.1 c.loop-transaction.invariant.2 c.loop-transaction.invariant.0 c.least_multiple-longer.ensures.multiple (omega arith)

pub loop-transaction-preserved : goal.loop-transaction-preserved
loop-transaction-preserved c =
    let is = rw c.as_slice-transaction-items.ensures at c.transaction-item.is in (
      cycle_more c.args.net.now c.loop-transaction.transaction-index c.loop-transaction.cycle c.least_multiple-longer.result c.transaction-item.result is (omega (arith, ap length c.as_slice-transaction-items.ensures))
          c.loop-transaction.invariant.0 c.least_multiple-longer.ensures.multiple,
      c.least_multiple-longer.ensures.some,
      omega arith,
    )
