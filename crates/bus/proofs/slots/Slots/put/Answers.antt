use Rattle.std.proofs.Common.{ap, w32}
use Rattle.std.proofs.lemmas.Int.{to_z-of_z}
use Rattle.bus.specs.SlotState as state
use Rattle.bus.proofs.Replaced.{replaced}
use Rattle.bus.proofs.slots.Slots.put.Goals as goal

pub invariant_of-self : goal.invariant_of-self
invariant_of-self c =
    let z = to_z-of_z w32 c.args.word c.ranges.word in
    let o = c.replace-old.ensures.value in
    let q = replaced c.self.inside.slots.items c.args.self.now.slots c.self.inside.width c.args.slot c.replace-old.new.dest c.put.result c.index_mut.result.now
    (λ k s. state.put k s c.args.word) c.requires c.index_mut.ensures.value (ap (λ (v : state.SlotStates). v.slots) c.self.view_is) c.self.invariant.1
    (rw (o, z) at c.put.ensures) in
    (c.self.invariant.0, q.0)

pub returns-clause-slots : goal.returns-clause-slots
returns-clause-slots c =
    let z = to_z-of_z w32 c.args.word c.ranges.word in
    let o = c.replace-old.ensures.value in
    let w = ap (λ (v : state.SlotStates). v.width) c.self.view_is in
    let q = replaced c.self.inside.slots.items c.args.self.now.slots c.self.inside.width c.args.slot c.replace-old.new.dest c.put.result c.index_mut.result.now
    (λ k s. state.put k s c.args.word) c.requires c.index_mut.ensures.value (ap (λ (v : state.SlotStates). v.slots) c.self.view_is) c.self.invariant.1
    (rw (o, z) at c.put.ensures) in
    rw w at q.1
