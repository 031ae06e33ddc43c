use Rattle.std.proofs.Common.{◌≡◌, ◌<◌, length, get_or, refl, ap, ◌∙◌, arith}
use Rattle.placement.specs.declared.pending.Fit.{Fit}
use Rattle.placement.proofs.Looking.{look_on, look_none, tell, default_same}
use Rattle.placement.proofs.cursor.next.Goals as goal

abbrev no_fit : Fit
no_fit = record { unit = 0; end = 0 }

pub loop-cursor-preserved : goal.loop-cursor-preserved
loop-cursor-preserved c = λ left h.
    let s = c.args.state.now in
    look_on s.problem s.placed.items c.loop-cursor.cursor c.in-Some.next left c.in-Some.ensures (omega (arith, c.loop-cursor-test.true, c.len.ensures.value)) (c.loop-cursor.invariant left h)

pub loop-cursor-smaller : goal.loop-cursor-smaller
loop-cursor-smaller c = omega (arith, c.in-Some.ensures.later, c.in-Some.ensures.within, ap length c.requires.order_is)

pub returns-in-None : goal.returns-in-None
returns-in-None c = λ left h.
    let s = c.args.state.now in
    look_none s.problem s.placed.items c.loop-cursor.cursor left c.in-None.ensures (omega (arith, c.loop-cursor-test.true, c.len.ensures.value)) (c.loop-cursor.invariant left h)

pub returns : goal.returns
returns c = λ left h.
    let s = c.args.state.now in
    let u = c.loop-cursor.cursor in
    let low : u.told < length u.row.items = omega (arith, c.loop-cursor-test.false, c.len.ensures.value) in
    let fit = get_or c.as_slice.result.now u.told no_fit in
    let at : fit ≡ get_or u.row.items u.told fit = ap (λ xs. get_or xs u.told no_fit) c.as_slice.ensures.value ∙ default_same u.row.items u.told no_fit fit low in
    tell s.problem s.placed.items u _ fit _ left low at refl refl refl refl refl refl (c.loop-cursor.invariant left h)
