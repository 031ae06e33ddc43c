use Rattle.std.proofs.Common.{ap}
use Rattle.bus.specs.SlotState as state
use Rattle.bus.proofs.Replaced.{replaced}
use Rattle.bus.proofs.slots.Slots.cut.Goals as goal

pub invariant_of-self : goal.invariant_of-self
invariant_of-self c =
    let o = c.replace-old.ensures.value in
    let q = replaced c.self.inside.slots.items c.args.self.now.slots c.self.inside.width c.args.slot c.replace-old.new.dest c.cut.result c.index_mut.result.now
    (λ k s. state.cut s) c.requires c.index_mut.ensures.value (ap (λ (v : state.SlotStates). v.slots) c.self.view_is) c.self.invariant.1
    (rw o at c.cut.ensures) in
    (c.self.invariant.0, q.0)

pub returns-clause-slots : goal.returns-clause-slots
returns-clause-slots c =
    let o = c.replace-old.ensures.value in
    let q = replaced c.self.inside.slots.items c.args.self.now.slots c.self.inside.width c.args.slot c.replace-old.new.dest c.cut.result c.index_mut.result.now
    (λ k s. state.cut s) c.requires c.index_mut.ensures.value (ap (λ (v : state.SlotStates). v.slots) c.self.view_is) c.self.invariant.1
    (rw o at c.cut.ensures) in
    q.1
