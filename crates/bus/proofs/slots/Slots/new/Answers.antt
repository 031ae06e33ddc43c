use Rattle.bus.proofs.Replaced.{all_open}
use Rattle.bus.proofs.slots.Slots.new.Goals as goal

pub returns-clause-open : goal.returns-clause-open
returns-clause-open c = all_open c.fill.slots.items c.fill.invariant.open_
