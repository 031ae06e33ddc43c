use Rattle.std.proofs.Common.{◌≡◌, ◌<◌, length, min, ap, ◌∙◌, arith}
use Rattle.maxplus.specs.MaxPlus.{cap, entries}
use Rattle.maxplus.proofs.Partial.{partial_next, partial_all}
use Rattle.maxplus.proofs.kernel.convolve.Goals as goal

pub loop-i-preserved : goal.loop-i-preserved
loop-i-preserved c k lt =
    let inside : k < length c.loop-i.out = omega (arith, lt, c.raise_products.auto.out) in
    partial_next (entries c.args.a.now) (entries c.args.b.now) c.loop-i.i k (entries c.loop-i.out k) (entries c.raise_products.new.out k) (c.loop-i.invariant k inside)
    (λ below. c.raise_products.ensures.before k below) (λ le. c.raise_products.ensures.from k le inside)

pub returns : goal.returns
returns c k lt =
    let all : c.loop-i.i ≡ length c.args.a.now = omega arith in
    let inside : k < length c.loop-i.out = omega (arith, lt, c.cap_entries.auto.out) in
    c.cap_entries.ensures k lt
    ∙ ap (λ x. min x cap) (partial_all (entries c.args.a.now) (entries c.args.b.now) c.loop-i.i k (entries c.loop-i.out k) (omega (arith, inside, all, c.requires.room, c.loop-i.auto.out, c.loop-entry.auto.out)) (c.loop-i.invariant k inside))
