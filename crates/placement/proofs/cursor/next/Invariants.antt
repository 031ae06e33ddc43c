use Rattle.std.proofs.Common.{◌-◌, List, length}
use Rattle.decisions.specs.Decision.{Decision}
use Rattle.placement.specs.Choosing.{IsLeft}
use Rattle.placement.proofs.cursor.next.Given as goal

abbrev pub invariant-loop-cursor : goal.invariant-loop-cursor
invariant-loop-cursor l = (left : List Decision) → IsLeft l.state.problem l.state.placed.items l.initial.cursor left → IsLeft l.state.problem l.state.placed.items l.cursor left

abbrev pub decreases-loop-cursor : goal.decreases-loop-cursor
decreases-loop-cursor l = length l.state.order.items - l.cursor.jobs
