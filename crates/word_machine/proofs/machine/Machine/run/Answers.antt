use Rattle.std.proofs.Common.{◌≡◌, ◌∙◌, ℕ, List, Some, refl, sym, ap}
use Rattle.std.specs.Prelude.{slice_get}
use Rattle.word_code.specs.declared.code.Slot.{Slot}
use Rattle.word_machine.proofs.Turns.{able, is_short, is_halted, is_broken, on_course, goes_on, stands_short, stands_halted, stands_broken}
use Rattle.word_machine.proofs.machine.Machine.run.Goals as goal

-- the instruction at a number of the slice is the code's
here : {slots instrs : List Slot} {slot : Slot} (pc : ℕ) → slots ≡ instrs → slice_get slots pc ≡ Some slot → slice_get instrs pc ≡ Some slot
here pc same found = ap (λ (s : List Slot). slice_get s pc) (sym same) ∙ found

pub returns-then-spent-limit : goal.returns-then-spent-limit
returns-then-spent-limit c =
    stands_short c.args.code.now c.args.limit c.args.self.now c.stand.new.self c.stand.result c.loop-slots.pc c.loop-slots.cycles c.loop-slots.self.registers
    c.stand.ensures.registers c.stand.ensures.pc c.stand.ensures.cycles c.stand.ensures.turn c.loop-slots.invariant.course c.loop-slots.invariant.below c.loop-slots.invariant.same
    (is_short c.args.code.now c.loop-slots.pc c.loop-slots.self.registers c.slot_at-slot.result.now (here c.loop-slots.pc c.as_slice-slots.ensures c.slot_at-slot.ensures) c.slot_at-slot.result.now.height refl c.requires.verified c.loop-slots.invariant.course
    c.args.limit c.loop-slots.cycles c.cost.result c.cost.ensures c.if-spent-limit.true)

pub act-requires : goal.act-requires
act-requires c =
    able c.args.code.now c.loop-slots.pc c.loop-slots.self.registers c.slot_at-slot.result.now (here c.loop-slots.pc c.as_slice-slots.ensures c.slot_at-slot.ensures) c.from.result c.from.ensures c.requires.verified c.loop-slots.invariant.course

pub returns-in-Halted : goal.returns-in-Halted
returns-in-Halted c =
    let e = c.in-Halted.ensures {u = tt} in
    stands_halted c.args.code.now c.args.limit c.args.self.now c.stand-in-Halted.new.self c.stand-in-Halted.result _ c.loop-slots.self.registers
    (c.stand-in-Halted.ensures.registers ∙ e.1) c.stand-in-Halted.ensures.cycles c.stand-in-Halted.ensures.turn c.loop-slots.invariant.course.places
    (λ top le. c.loop-slots.invariant.same top le
    ∙ is_halted c.args.code.now c.loop-slots.pc c.loop-slots.self.registers c.slot_at-slot.result.now (here c.loop-slots.pc c.as_slice-slots.ensures c.slot_at-slot.ensures) c.from.result c.from.ensures c.requires.verified c.loop-slots.invariant.course
    c.args.limit c.loop-slots.cycles c.cost.result c.cost.ensures c.if-spent-limit.false e.0 top le)

pub returns-in-Broken : goal.returns-in-Broken
returns-in-Broken c =
    let e = c.in-Broken.ensures {u = tt} in
    stands_broken c.args.code.now c.args.limit c.args.self.now c.stand-in-Broken.new.self c.stand-in-Broken.result _ c.act.new.self
    c.stand-in-Broken.ensures.registers c.stand-in-Broken.ensures.cycles c.stand-in-Broken.ensures.turn (e.1 ∙ c.loop-slots.invariant.course.places)
    (λ top le. c.loop-slots.invariant.same top le
    ∙ is_broken c.args.code.now c.loop-slots.pc c.loop-slots.self.registers c.slot_at-slot.result.now (here c.loop-slots.pc c.as_slice-slots.ensures c.slot_at-slot.ensures) c.from.result c.from.ensures c.requires.verified c.loop-slots.invariant.course
    c.args.limit c.loop-slots.cycles c.cost.result c.cost.ensures c.if-spent-limit.false e.0 top le)

pub loop-slots-preserved : goal.loop-slots-preserved
loop-slots-preserved c =
    let e = c.in-On.ensures {u = tt} in
    record {
      course =
          on_course c.args.code.now c.loop-slots.pc c.loop-slots.self.registers c.slot_at-slot.result.now (here c.loop-slots.pc c.as_slice-slots.ensures c.slot_at-slot.ensures) c.from.result c.from.ensures c.requires.verified c.loop-slots.invariant.course
          c.args.limit c.loop-slots.cycles c.cost.result c.cost.ensures c.in-On.next c.act.new.self e;
      below = c.if-spent-limit.false;
      same = λ top le.
          c.loop-slots.invariant.same top le
          ∙ goes_on c.args.code.now c.loop-slots.pc c.loop-slots.self.registers c.slot_at-slot.result.now (here c.loop-slots.pc c.as_slice-slots.ensures c.slot_at-slot.ensures) c.from.result c.from.ensures c.requires.verified c.loop-slots.invariant.course
          c.args.limit c.loop-slots.cycles c.cost.result c.cost.ensures c.in-On.next c.act.new.self e c.if-spent-limit.false top le;
    }
