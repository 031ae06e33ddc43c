use Rattle.bus.proofs.Replaced.{all_open}
use Rattle.bus.proofs.slots.Slots.clear.Goals as goal

pub invariant_of-self : goal.invariant_of-self
invariant_of-self c = (c.self.invariant.0, c.reopen_all.ensures.room c.self.inside.width c.self.invariant.1)

pub returns-clause-open : goal.returns-clause-open
returns-clause-open c = all_open c.reopen_all.new.slots.items (c.reopen_all.ensures.open c.self.inside.width c.self.invariant.1)
