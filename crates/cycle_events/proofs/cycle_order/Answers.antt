use Rattle.cycle_events.proofs.Whole.{cycle_order}
use Rattle.cycle_events.proofs.cycle_order.Goals as goal

pub returns : goal.returns
returns c = cycle_order
