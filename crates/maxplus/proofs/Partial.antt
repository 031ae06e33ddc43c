-- A convolution, entry by entry of its left factor.
use Rattle.std.proofs.Common.{◌≡◌, ⊎_elim, ℕ, suc, ◌+◌, ◌-◌, ◌<◌, ◌≤◌, max, min, ap, ◌∙◌, arith}
use Rattle.std.proofs.lemmas.Bool.{cases_lt}
use Rattle.maxplus.specs.MaxPlus.{product, greatest_below, convolution}

-- one more entry of the left factor
pub partial_next : (f g : ℕ → ℕ) (i k old new : ℕ) → old ≡ greatest_below (min i (suc k)) (λ i. product (f i) (g (k - i))) → (k < i → new ≡ old) → (i ≤ k → new ≡ max old (product (f i) (g (k - i)))) → new ≡ greatest_below (min (i + 1) (suc k)) (λ i. product (f i) (g (k - i)))
partial_next f g i k old new is before from =
    let h = λ (i : ℕ). product (f i) (g (k - i)) in
    ⊎_elim
    (λ lt.
    let e = before lt in
    let n : min i (suc k) ≡ min (i + 1) (suc k) = omega arith in
    e ∙ is ∙ ap (λ m. greatest_below m h) n)
    (λ le.
    let e = from le in
    let n : min i (suc k) ≡ i = omega arith in
    let m : suc i ≡ min (i + 1) (suc k) = omega arith in
    let a : old ≡ greatest_below i h = is ∙ ap (λ m. greatest_below m h) n in
    let b : new ≡ greatest_below (suc i) h = e ∙ ap (λ x. max x (h i)) a in
    b ∙ ap (λ m. greatest_below m h) m)
    (cases_lt k i)

-- all entries of the left factor
pub partial_all : (f g : ℕ → ℕ) (n k x : ℕ) → k < n → x ≡ greatest_below (min n (suc k)) (λ i. product (f i) (g (k - i))) → x ≡ convolution f g k
unfolding convolution
partial_all f g n k x lt is =
    let h = λ (i : ℕ). product (f i) (g (k - i)) in
    let m : min n (suc k) ≡ suc k = omega arith in
    is ∙ ap (λ m. greatest_below m h) m
