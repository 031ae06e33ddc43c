use Rattle.std.proofs.Common.{◌≡◌, suc, ◌+◌, ◌-◌, ◌*◌, ◌/◌, ◌%◌, sym, ap, ◌∙◌, arith}
use Rattle.maxplus.specs.MaxPlus.{fold_convolution, entries}
use Rattle.maxplus.proofs.Slopes.{even_first, even_entry, even_none}
use Rattle.maxplus.proofs.even.power_entry.Goals as goal

pub returns-then-k-eq0 : goal.returns-then-k-eq0
returns-then-k-eq0 c =
    let v = c.args.v.now in
    let at : 0 ≡ c.args.k = omega arith in
    let is = even_first v c.args.n c.requires.concave ∙ ap (fold_convolution (entries v) c.args.n) at in
    omega (arith, is, c.times.ensures.value, c.min.ensures)

pub returns-then-v-i-eq0 : goal.returns-then-v-i-eq0
returns-then-v-i-eq0 c =
    let v = c.args.v.now in
    let n = c.args.n in
    let i = (c.args.k - 1) / n in
    let r = (c.args.k - 1) % n + 1 in
    let at : c.args.k ≡ n * i + r = omega arith in
    let next : i + 1 ≡ suc i = omega arith in
    let end : entries v (suc i) ≡ 0 = ap (entries v) (sym next) ∙ c.if-v-i-eq0.true in
    let is = even_none v n i r c.args.k c.requires.concave (omega arith) at end in
    omega (arith, is)

pub returns : goal.returns
returns c =
    let v = c.args.v.now in
    let n = c.args.n in
    let i = (c.args.k - 1) / n in
    let r = (c.args.k - 1) % n + 1 in
    let at : c.args.k ≡ n * i + r = omega arith in
    let next : i + 1 ≡ suc i = omega arith in
    let same = ap (entries v) next in
    let is = even_entry v n i r c.args.k c.requires.concave (omega arith) at (omega (arith, same, c.if-v-i-eq0.false)) in
    let last = ap (λ e. r * (e - 1)) same in
    omega (arith, is, last, c.times-2.ensures.value, c.times-3.ensures.value, c.min-2.ensures)
