-- Least common multiples by greatest common divisors.
use Rattle.std.proofs.Common.{◌≡◌, ℕ, zero, suc, ◌+◌, ◌*◌, ◌/◌, ◌%◌, ◌<◌, ◌≤◌, List, [], ◌∷◌, ◌++◌, get_or, inl, inr, sym, ◌∙◌, ap, ap₂, subst, arith, mul-le-mul_right, zero-mul}
use Rattle.std.specs.Prelude.{All}
use Rattle.std.specs.Int.{IsGcd}
use Prim.Native.Nat.{◌∣◌}
use Rattle.std.proofs.Math.Nat.{div-add-mod', mod-lt, mul_comm, dvd-mul_left, dvd-mul_right, dvd_of_mul-dvd-mul_right, mul-dvd-mul_left, mul-dvd-mul_right, div-mul_cancel, mod-eq-zero_of_dvd, dvd_of_mod-eq-zero, pos_of_dvd_of_pos, dvd_trans, dvd_refl, dvd_antisymm, le_of_dvd}
use Rattle.std.proofs.lemmas.Nat.{mod-mul-add}
use Rattle.std.proofs.lemmas.Nat.Gcd.{IsGcd-from_zero, IsGcd-from_mod, same_from_IsGcd}
use Rattle.std.proofs.lemmas.Bool.{cases_eq}
use Rattle.std.proofs.lemmas.List.Elements.{All-cons, All-head, All-tail, All-append, All-nil}
use Rattle.graph.specs.Cycle.{Divides, IsLeastMultiple}

-- a rest scales with both numbers
scaled_rest : (n a b : ℕ) → 0 < b → n * a % (n * b) ≡ n * (a % b)
scaled_rest zero a b some = ap₂ (λ x y. x % y) (zero-mul a) (zero-mul b) ∙ sym (zero-mul (a % b))
scaled_rest (suc n) a b some =
    let low : suc n * (a % b) < suc n * b = scaled_lt n (a % b) b (mod-lt a some) in
    let whole : a / b * (suc n * b) + suc n * (a % b) ≡ suc n * a = scaled_whole (suc n) (a / b) (a % b) a b (div-add-mod' a b) in
    ap (λ x. x % (suc n * b)) (sym whole) ∙ mod-mul-add (a / b) (suc n * b) (suc n * (a % b)) low
  where
    scaled_lt : (n x y : ℕ) → x < y → suc n * x < suc n * y
    scaled_lt n x y h = let more : (x + 1) * suc n ≤ y * suc n = mul-le-mul_right (suc n) (omega (arith, h)) in omega (arith, more, mul_comm (suc n) x, mul_comm (suc n) y)

    scaled_whole : (n q r a b : ℕ) → q * b + r ≡ a → q * (n * b) + n * r ≡ n * a
    scaled_whole n q r a b e = let h : n * (q * b + r) ≡ n * a = ap (λ x. n * x) e in omega (arith, h)

-- each two numbers have a greatest common divisor that scales with them
gcd_of : (m a b : ℕ) → b < m → (g : ℕ) × ((n : ℕ) → IsGcd (n * a) (n * b) (n * g))
gcd_of zero a b low = absurd (omega (arith, low))
gcd_of (suc m) a b low = elim (cases_eq b 0) [
  | inl e ↦ (a, λ n. IsGcd-from_zero (n * a) (n * b) (ap (λ x. n * x) e ∙ omega arith))
  | inr e ↦
      let some : 0 < b = omega (arith, e) in
      let w = gcd_of m b (a % b) (omega (arith, low, mod-lt a some)) in
      (w.0, λ n. IsGcd-from_mod (n * a) (n * b) (n * w.0) (subst (λ x. IsGcd (n * b) x (n * w.0)) (sym (scaled_rest n a b some)) (w.1 n)))
]

-- the greatest common divisor scales
scaled : (a b g n : ℕ) → IsGcd a b g → IsGcd (n * a) (n * b) (n * g)
scaled a b g n is =
    let w = gcd_of (suc b) a b (omega arith) in
    let one : IsGcd a b w.0 = simple w.0 (w.1 1) in
    subst (λ x. IsGcd (n * a) (n * b) (n * x)) (same_from_IsGcd a b w.0 g one is) (w.1 n)
  where
    simple : (k : ℕ) → IsGcd (1 * a) (1 * b) (1 * k) → IsGcd a b k
    simple k h = subst (λ x. IsGcd x b k) (omega arith) (subst (λ x. IsGcd (1 * a) x k) (omega arith) (subst (λ x. IsGcd (1 * a) (1 * b) x) (omega arith) h))

-- two numbers, of which each divides a third, with their greatest common divisor
pub multiple_by : (a b g : ℕ) → 0 < a → 0 < b → IsGcd a b g → IsLeastMultiple (a ∷ b ∷ []) (a / g * b) × (0 < a / g * b)
multiple_by a b g some some' is =
    let g_some : 0 < g = pos_of_dvd_of_pos is.0 some in
    let a_is : a / g * g ≡ a = div-mul_cancel g is.0 in
    let b_is : b / g * g ≡ b = div-mul_cancel g is.1 in
    let both : a / g * b * g ≡ a * b = regroup (a / g) b g ∙ ap (λ x. x * b) a_is in
    let by_a : a * (b / g) ≡ a / g * b = ap (λ x. x * (b / g)) (sym a_is) ∙ shift (a / g) g (b / g) ∙ ap (λ x. a / g * x) b_is in (
      record {
        common = All-cons (λ n. Divides n (a / g * b)) a (b ∷ []) (mod-eq-zero_of_dvd a (subst (λ x. a ∣ x) by_a (dvd-mul_right a (b / g))))
            (All-cons (λ n. Divides n (a / g * b)) b [] (mod-eq-zero_of_dvd b (dvd-mul_left b (a / g))) (All-nil (λ n. Divides n (a / g * b))));
        least = λ n all.
            let a_in : a ∣ n = dvd_of_mod-eq-zero a (All-head (λ k. Divides k n) a (b ∷ []) all) in
            let b_in : b ∣ n = dvd_of_mod-eq-zero b (All-head (λ k. Divides k n) b [] (All-tail (λ k. Divides k n) a (b ∷ []) all)) in
            let left : a * b ∣ n * a = subst (λ x. a * b ∣ x) (mul_comm a n) (mul-dvd-mul_left b a b_in) in
            let right : a * b ∣ n * b = mul-dvd-mul_right a a_in b in
            let whole : a / g * b * g ∣ n * g = subst (λ x. x ∣ n * g) (sym both) ((scaled a b g n is).2 (a * b) left right) in
            mod-eq-zero_of_dvd (a / g * b) (dvd_of_mul-dvd-mul_right (a / g * b) g_some whole);
      },
      positive (a / g * b) g a b both some some',
    )
  where
    regroup : (x b g : ℕ) → x * b * g ≡ x * g * b
    regroup x b g = omega arith

    shift : (x g y : ℕ) → x * g * y ≡ x * (y * g)
    shift x g y = omega arith

    positive : (m g a b : ℕ) → m * g ≡ a * b → 0 < a → 0 < b → 0 < m
    positive m g a b e h h' = elim (cases_eq m 0) [
      | inl z ↦ absurd (let more : 1 * b ≤ a * b = mul-le-mul_right b (omega (arith, h)) in let none : m * g ≡ 0 * g = ap (λ x. x * g) z in omega (arith, e, more, none, h'))
      | inr z ↦ omega (arith, z)
    ]

-- what holds of all of two lists holds of all of each
All_front : {X : Type 0} (P : X → Type 0) (xs ys : List X) → All P (xs ++ ys) → All P xs
All_front P [] ys all = All-nil P
All_front P (x ∷ xs) ys all = All-cons P x xs (All-head P x (xs ++ ys) all) (All_front P xs ys (All-tail P x (xs ++ ys) all))

All_back : {X : Type 0} (P : X → Type 0) (xs ys : List X) → All P (xs ++ ys) → All P ys
All_back P [] ys all = all
All_back P (x ∷ xs) ys all = All_back P xs ys (All-tail P x (xs ++ ys) all)

-- one number more
pub multiple_more : (xs : List ℕ) (h p m : ℕ) → IsLeastMultiple xs h → IsLeastMultiple (h ∷ p ∷ []) m → IsLeastMultiple (xs ++ p ∷ []) m
multiple_more xs h p m is more =
    let by_h : Divides h m = All-head (λ n. Divides n m) h (p ∷ []) more.common in
    record {
      common = All-append (λ n. Divides n m) xs (p ∷ []) (λ k d low. through h m (get_or xs k d) by_h (is.common k d low)) (All-tail (λ n. Divides n m) h (p ∷ []) more.common);
      least = λ n all. more.least n (All-cons (λ k. Divides k n) h (p ∷ []) (is.least n (front n all)) (back n all));
    }
  where
    through : (h m k : ℕ) → Divides h m → Divides k h → Divides k m
    through h m k one two = mod-eq-zero_of_dvd k (dvd_trans k (dvd_of_mod-eq-zero k two) (dvd_of_mod-eq-zero h one))

    front : (n : ℕ) → All (λ k. Divides k n) (xs ++ p ∷ []) → All (λ k. Divides k n) xs
    front n all = All_front (λ k. Divides k n) xs (p ∷ []) all

    back : (n : ℕ) → All (λ k. Divides k n) (xs ++ p ∷ []) → All (λ k. Divides k n) (p ∷ [])
    back n all = All_back (λ k. Divides k n) xs (p ∷ []) all

-- one number alone
pub multiple_one : (n : ℕ) → IsLeastMultiple (n ∷ []) n
multiple_one n = record {
  common = All-cons (λ k. Divides k n) n [] (mod-eq-zero_of_dvd n (dvd_refl n)) (All-nil (λ k. Divides k n));
  least = λ other all. All-head (λ k. Divides k other) n [] all;
}

-- two least common multiples are one
pub same_multiple : (xs : List ℕ) (m n : ℕ) → IsLeastMultiple xs m → IsLeastMultiple xs n → m ≡ n
same_multiple xs m n h g = dvd_antisymm (dvd_of_mod-eq-zero m (h.least n g.common)) (dvd_of_mod-eq-zero n (g.least m h.common))

-- the least common multiple of a front is at most that of the whole
pub front_multiple : (xs ys : List ℕ) (m n : ℕ) → 0 < n → IsLeastMultiple xs m → All (λ k. Divides k n) xs → m ≤ n
front_multiple xs ys m n some h all = le_of_dvd some (dvd_of_mod-eq-zero m (h.least n all))

-- numbers above 0 have a common multiple above 0
some_multiple : (xs : List ℕ) → All (λ x. 1 ≤ x) xs → (n : ℕ) × (0 < n) × All (λ x. Divides x n) xs
some_multiple [] all = (1, omega arith, All-nil (λ x. Divides x 1))
some_multiple (x ∷ xs) all =
    let w = some_multiple xs (All-tail (λ y. 1 ≤ y) x xs all) in
    let some : 1 ≤ x = All-head (λ y. 1 ≤ y) x xs all in (
      x * w.0,
      (let more : 1 * w.0 ≤ x * w.0 = mul-le-mul_right w.0 some in omega (arith, more, w.1)),
      All-cons (λ y. Divides y (x * w.0)) x xs (mod-eq-zero_of_dvd x (dvd-mul_right x w.0))
          (λ k d low. mod-eq-zero_of_dvd (get_or xs k d) (dvd_trans (get_or xs k d) (dvd_of_mod-eq-zero (get_or xs k d) (w.2 k d low)) (dvd-mul_left w.0 x))),
    )

-- so their least common multiple is above 0
pub multiple_some : (xs : List ℕ) (m : ℕ) → All (λ x. 1 ≤ x) xs → IsLeastMultiple xs m → 0 < m
multiple_some xs m all is = let w = some_multiple xs all in pos_of_dvd_of_pos (dvd_of_mod-eq-zero m (is.least w.0 w.2)) w.1
