-- The greatest entry is reached, and none passes it.
use Rattle.std.proofs.Common.{◌≡◌, ◌⊎◌, inl, inr, ⊎_elim, ℕ, zero, suc, ◌+◌, ◌-◌, ◌<◌, ◌≤◌, refl, ap, subst, arith}
use Rattle.std.proofs.lemmas.Bool.{cases_lt}
use Rattle.maxplus.specs.MaxPlus.{product, greatest_below, convolution}

-- no entry below n passes the greatest
pub greatest_below_bound : (h : ℕ → ℕ) (n i : ℕ) → i < n → h i ≤ greatest_below n h
greatest_below_bound h zero i lt = absurd (omega arith)
greatest_below_bound h (suc n) i lt =
    ⊎_elim
    (λ below. let before = greatest_below_bound h n i below in omega (arith, before))
    (λ last. let same : n ≡ i = omega arith in let at = ap h same in omega (arith, at))
    (cases_lt i n)

-- where it is possible, some entry below n is the greatest
pub greatest_below_reached : (h : ℕ → ℕ) (n : ℕ) → (greatest_below n h ≡ 0) ⊎ ((i : ℕ) × (i < n) × (h i ≡ greatest_below n h))
greatest_below_reached h zero = inl refl
greatest_below_reached h (suc n) =
    ⊎_elim
    (λ last. inr (n, omega arith, omega arith))
    (λ before. ⊎_elim (λ none. inl (omega arith)) (λ some. inr (some.0, omega arith, omega (arith, some.2))) (greatest_below_reached h n))
    (cases_lt (greatest_below n h) (h n))

-- no product of entries at i and j passes the convolution at i + j
pub convolution_bound : (f g : ℕ → ℕ) (i j k : ℕ) → i + j ≡ k → product (f i) (g j) ≤ convolution f g k
unfolding convolution
convolution_bound f g i j k sum =
    let right : k - i ≡ j = omega arith in
    let at : product (f i) (g (k - i)) ≤ greatest_below (suc k) (λ i. product (f i) (g (k - i))) = greatest_below_bound (λ i. product (f i) (g (k - i))) (suc k) i (omega arith) in
    subst (λ m. product (f i) (g m) ≤ greatest_below (suc k) (λ i. product (f i) (g (k - i)))) right at

-- where the convolution at k is possible, some product of entries at i and j with i + j = k is it
pub convolution_reached : (f g : ℕ → ℕ) (k : ℕ) → (convolution f g k ≡ 0) ⊎ ((i : ℕ) × (j : ℕ) × (i + j ≡ k) × (product (f i) (g j) ≡ convolution f g k))
unfolding convolution
convolution_reached f g k =
    ⊎_elim
    (λ none. inl none)
    (λ some. inr (some.0, k - some.0, omega (arith, some.1), some.2))
    (greatest_below_reached (λ i. product (f i) (g (k - i))) (suc k))
