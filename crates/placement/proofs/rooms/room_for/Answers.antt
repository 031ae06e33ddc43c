use Rattle.std.proofs.Common.{◌≡◌, ap, ◌∙◌, subst, arith}
use Rattle.mars_base.specs.declared.shape.Side.TheVariants.{A}
use Rattle.tdma.specs.Layout.{Layout, IsLayout, slot_start_of}
use Rattle.placement.proofs.Fitting.{first_for, next_for, not_fits}
use Rattle.placement.proofs.rooms.room_for.Goals as goal

pub returns-then-fits-clause-first : goal.returns-then-fits-clause-first
returns-then-fits-clause-first c =
    first_for c.args.frames.now c.args.messages.now c.args.unit c.args.from c.loop-k.from c.args.words c.in-Some.k c.in-Some.ensures.first c.loop-k.invariant.later c.loop-k.invariant.rest (c.fits.ensures.0 c.if-fits.true)

pub overflow_add-from : goal.overflow_add-from
overflow_add-from c = omega (arith, c.slot_start-from.ensures.inside, c.slot_start-from.ensures.start, c.requires.cycle)

pub loop-k-preserved : goal.loop-k-preserved
loop-k-preserved c =
    let same : slot_start_of c.args.round.now c.in-Some.k c.args.unit A ≡ slot_start_of c.args.frames.now.layout c.in-Some.k c.args.unit A = ap (λ (l : Layout). slot_start_of l c.in-Some.k c.args.unit A) c.requires.same in
    let start : c.slot_start-from.result ≡ slot_start_of c.args.frames.now.layout c.in-Some.k c.args.unit A = c.slot_start-from.ensures.start ∙ same in
    record {
      later = omega (arith, c.in-Some.ensures.first.room.begins, c.loop-k.invariant.later, start);
      rest = next_for c.args.frames.now c.args.messages.now c.args.unit c.args.from c.loop-k.from c.args.words c.in-Some.k c.slot_start-from.result (subst IsLayout c.requires.same c.requires.layout) c.in-Some.ensures.first c.loop-k.invariant.later c.loop-k.invariant.rest
          (λ h. not_fits c.fits.result c.if-fits.false (c.fits.ensures.1 h)) start;
    }
