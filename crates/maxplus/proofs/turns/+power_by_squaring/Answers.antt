use Rattle.std.proofs.Common.{◌≡◌, ℕ, ◌+◌, ◌/◌, ◌≤◌, min, sym, ap, ◌∙◌, arith}
use Rattle.maxplus.specs.MaxPlus.{fold_convolution, cap, entries}
use Rattle.maxplus.proofs.Folds.{fold_none, fold_more, fold_twice}
use Rattle.maxplus.proofs.turns.+power_by_squaring.Goals as goal

pub returns-then-n-eq0 : goal.returns-then-n-eq0
returns-then-n-eq0 t c k lt =
    fold_none (entries c.args.a.now) k _ (c.set_identity.ensures k lt) ∙ ap (λ n. min (fold_convolution (entries c.args.a.now) n k) cap) (sym c.if-n-eq0.true)

pub returns-then-n-eq0-2 : goal.returns-then-n-eq0-2
returns-then-n-eq0-2 t c k lt =
    let all : c.args.n / 2 + c.args.n / 2 ≡ c.args.n = omega arith in
    ap (λ s. entries s k) c.copy_from_slice.ensures.after
    ∙ fold_twice (entries c.args.a.now) (entries c.power_by_squaring.new.out) (c.args.n / 2) c.args.n k (entries c.convolve.new.out k)
    (λ i le. c.power_by_squaring.ensures i (omega arith)) all (c.convolve.ensures k (omega arith))

pub returns-else-n-eq0-2 : goal.returns-else-n-eq0-2
returns-else-n-eq0-2 t c k lt =
    let f = entries c.args.a.now in
    let half = c.args.n / 2 in
    let square : (i : ℕ) → i ≤ k → entries c.convolve.new.out i ≡ min (fold_convolution f (half + half) i) cap =
    (λ i le. fold_twice f (entries c.power_by_squaring.new.out) half (half + half) i (entries c.convolve.new.out i)
    (λ j low. c.power_by_squaring.ensures j (omega arith)) (omega arith) (c.convolve.ensures i (omega arith))) in
    let all : half + half + 1 ≡ c.args.n = omega arith in
    fold_more f (entries c.convolve.new.out) (half + half) k _ square (c.convolve-else-n-eq0-2.ensures k (omega arith))
    ∙ ap (λ n. min (fold_convolution f n k) cap) all
