-- A concave vector lies below the line through any two neighbouring entries, and an even split of an index over its
-- folds is the best one.
use Rattle.std.proofs.Common.{◌≡◌, ⊎_elim, ℕ, zero, suc, ◌+◌, ◌-◌, ◌*◌, ◌<◌, ◌≤◌, List, [], ◌∷◌, length, refl, ap, ◌∙◌, arith}
use Rattle.std.proofs.lemmas.Bool.{cases_lt}
use Rattle.maxplus.specs.MaxPlus.{fold_convolution, entries}
use Rattle.maxplus.specs.Concave.{IsConcave}
use Rattle.maxplus.proofs.Lines.{fold_within, fold_even_reached, fold_even_bound, fold_first_reached, fold_first_bound}

-- the same of a vector without an end
record Concave (f : ℕ → ℕ) : Type 0 where
  first : 0 < f 0
  bends : (k : ℕ) → 0 < f (suc (suc k)) → f k + f (suc (suc k)) ≤ 2 * f (suc k)

-- past its end a list is impossible
inside_list : (v : List ℕ) (k : ℕ) → 0 < entries v k → k < length v
inside_list [] k some = absurd (let x : ⊥ = omega (arith, some) in x)
inside_list (x ∷ v) zero some = omega arith
inside_list (x ∷ v) (suc k) some = let rest = inside_list v k some in omega (arith, rest)

-- a list that is concave, as a vector without an end
concave_list : (v : List ℕ) → IsConcave v → Concave (entries v)
concave_list v c = record {
  first = c.first;
  bends = λ k some.
      let b = c.bends (suc (suc k)) (omega arith) (inside_list v (suc (suc k)) some) some in
      let two : suc (suc k) - 2 ≡ k = omega arith in
      let one : suc (suc k) - 1 ≡ suc k = omega arith in
      let e = ap (entries v) two in
      let g = ap (entries v) one in
      omega (arith, b, e, g);
}

-- the entry before a possible one is possible
before : (f : ℕ → ℕ) → Concave f → (k : ℕ) → 0 < f (suc k) → 0 < f k
before f c zero some = c.first
before f c (suc k) some = let b = c.bends k some in omega (arith, b)

-- and so are all entries before it
all_before : (f : ℕ → ℕ) → Concave f → (d i k : ℕ) → d + i ≡ k → 0 < f k → 0 < f i
all_before f c zero i k sum some = let same : k ≡ i = omega (arith, sum) in let e = ap f same in omega (arith, e, some)
all_before f c (suc d) i zero sum some = absurd (let x : ⊥ = omega (arith, sum) in x)
all_before f c (suc d) i (suc k) sum some = all_before f c d i k (omega (arith, sum)) (before f c k some)

-- the possible entries stand before an impossible one
before_end : (f : ℕ → ℕ) → Concave f → (q : ℕ) → f q ≡ 0 → (i a : ℕ) → f i ≡ suc a → i < q
before_end f c q none i a some =
    ⊎_elim
    (λ lt. lt)
    (λ le. let h = all_before f c (i - q) q i (omega arith) (omega (arith, some)) in absurd (let x : ⊥ = omega (arith, h, none) in x))
    (cases_lt i q)

-- a later entry rises by no more than an earlier one
slopes_fall : (f : ℕ → ℕ) → Concave f → (d i k : ℕ) → d + i ≡ k → 0 < f (suc k) → f i + f (suc k) ≤ f (suc i) + f k
slopes_fall f c zero i k sum some =
    let same : k ≡ i = omega (arith, sum) in
    let e = ap f same in
    let g = ap (λ n. f (suc n)) same in
    omega (arith, e, g)
slopes_fall f c (suc d) i zero sum some = absurd (let x : ⊥ = omega (arith, sum) in x)
slopes_fall f c (suc d) i (suc k) sum some =
    let so_far = slopes_fall f c d i k (omega (arith, sum)) (before f c (suc k) some) in
    let b = c.bends k some in
    omega (arith, so_far, b)

-- the line through i and its next entry, d after i and d before the next one
line_after : (f : ℕ → ℕ) → Concave f → (d i k : ℕ) → d + i ≡ k → 0 < f k → f k + d * f i ≤ f i + d * f (suc i)
line_after f c zero i k sum some = let same : k ≡ i = omega (arith, sum) in let e = ap f same in omega (arith, e)
line_after f c (suc d) i zero sum some = absurd (let x : ⊥ = omega (arith, sum) in x)
line_after f c (suc d) i (suc k) sum some =
    let so_far = line_after f c d i k (omega (arith, sum)) (before f c k some) in
    let s = slopes_fall f c d i k (omega (arith, sum)) some in
    omega (arith, so_far, s)

-- and d before the next one
line_before : (f : ℕ → ℕ) → Concave f → (d i k : ℕ) → d + k ≡ suc i → 0 < f (suc i) → f k + d * f (suc i) ≤ f (suc i) + d * f i
line_before f c zero i k sum some = let same : k ≡ suc i = omega (arith, sum) in let e = ap f same in omega (arith, e)
line_before f c (suc d) i k sum some =
    let so_far = line_before f c d i (suc k) (omega (arith, sum)) some in
    let s = slopes_fall f c d k i (omega (arith, sum)) some in
    omega (arith, so_far, s)

-- every possible entry is below it
below_line : (f : ℕ → ℕ) → Concave f → (i a b : ℕ) → f i ≡ suc a → f (suc i) ≡ suc b → (k c : ℕ) → f k ≡ suc c → suc c + k * suc a + i * suc b ≤ (suc a + i * suc a) + k * suc b
below_line f con i a b here next k c at =
    ⊎_elim
    (λ lt.
    let d = suc i - k in
    let sum : d + k ≡ suc i = omega arith in
    let h = line_before f con d i k sum (omega (arith, next)) in
    let x = ap (λ n. n * suc a) sum in
    let y = ap (λ n. n * suc b) sum in
    let u = ap (λ n. d * n) here in
    let w = ap (λ n. d * n) next in
    omega (arith, h, x, y, u, w, here, next, at))
    (λ le.
    let d = k - i in
    let sum : d + i ≡ k = omega arith in
    let h = line_after f con d i k sum (omega (arith, at)) in
    let x = ap (λ n. n * suc a) sum in
    let y = ap (λ n. n * suc b) sum in
    let u = ap (λ n. d * n) here in
    let w = ap (λ n. d * n) next in
    omega (arith, h, x, y, u, w, here, next, at))
    (cases_lt k (suc i))

-- what is no successor is 0
none : (x : ℕ) → ((v : ℕ) → x ≡ suc v → ⊥) → x ≡ 0
none zero never = refl
none (suc x) never = absurd (never x refl)

-- a possible entry and its cost
some : (x : ℕ) → 0 < x → x ≡ suc (x - 1)
some x lt = omega arith

-- the entry of a power at 0
pub even_first : (v : List ℕ) (n : ℕ) → IsConcave v → suc (n * (entries v 0 - 1)) ≡ fold_convolution (entries v) n 0
even_first v n c =
    let a = entries v 0 - 1 in
    let here : entries v 0 ≡ suc a = some (entries v 0) c.first in
    let low = fold_first_reached (entries v) a here n in
    let is = some (fold_convolution (entries v) n 0) (omega (arith, low)) in
    let high = fold_first_bound (entries v) a here n (fold_convolution (entries v) n 0 - 1) is in
    omega (arith, low, is, high)

-- the entry of a power at n * i + r, with r from 1 to n: r folds take i + 1, and the others i
pub even_entry : (v : List ℕ) (n i r k : ℕ) → IsConcave v → r ≤ n → k ≡ n * i + r → 0 < entries v (suc i) → suc ((n - r) * (entries v i - 1) + r * (entries v (suc i) - 1)) ≡ fold_convolution (entries v) n k
even_entry v n i r k c le is next =
    let f = entries v in
    let con = concave_list v c in
    let a = f i - 1 in
    let b = f (suc i) - 1 in
    let here_is : f i ≡ suc a = some (f i) (before f con i next) in
    let next_is : f (suc i) ≡ suc b = some (f (suc i)) next in
    let m = n - r in
    let low = fold_even_reached f i a b m r (omega (arith, here_is)) (omega (arith, next_is)) in
    let all : m + r ≡ n = omega arith in
    let times : (m + r) * i ≡ n * i = ap (λ x. x * i) all in
    let at : m * i + r * suc i ≡ k = omega (arith, is, times) in
    let e : fold_convolution f (m + r) (m * i + r * suc i) ≡ fold_convolution f n k = ap (λ x. fold_convolution f x (m * i + r * suc i)) all ∙ ap (fold_convolution f n) at in
    let value : fold_convolution f n k ≡ suc (fold_convolution f n k - 1) = some (fold_convolution f n k) (omega (arith, low, e)) in
    let high = fold_even_bound f i a b m r (fold_convolution f n k - 1) (below_line f con i a b here_is next_is) (e ∙ value) in
    omega (arith, low, high, e, value)

-- there is none where the entry at i + 1 is impossible
pub even_none : (v : List ℕ) (n i r k : ℕ) → IsConcave v → 0 < r → k ≡ n * i + r → entries v (suc i) ≡ 0 → fold_convolution (entries v) n k ≡ 0
even_none v n i r k c lt is end =
    none (fold_convolution (entries v) n k) (λ w e.
    let h = fold_within (entries v) (suc i) (before_end (entries v) (concave_list v c) (suc i) end) n k w e in
    let x : ⊥ = omega (arith, h, is, lt) in
    x)
