-- What passes a test at one place of a list, or at two, and how many pass.
use Rattle.std.proofs.Common.{◌≡◌, ℕ, zero, suc, ◌+◌, ◌<◌, ◌≤◌, ◌⊎◌, inl, inr, Bool, true, false, cond, List, [], ◌∷◌, Some, None, refl, ap, ◌∙◌, arith}
use Rattle.std.specs.Prelude.{slice_get, count_by}
use Rattle.std.proofs.lemmas.List.Sums.{sum_by-cons}

one_more : (b : Bool) (n m : ℕ) → b ≡ true → n ≤ m → n + 1 ≤ cond b 1 0 + m
one_more true n m e h = omega arith
one_more false n m e h = cc

same_or_more : (b : Bool) (n m : ℕ) → n ≤ m → n ≤ cond b 1 0 + m
same_or_more true n m h = omega arith
same_or_more false n m h = omega arith

-- what passes at one place is counted
pub one_counted : {X : Type 0} (test : X → Bool) (xs : List X) (i : ℕ) (x : X) → slice_get xs i ≡ Some x → test x ≡ true → 1 ≤ count_by test xs
one_counted test [] i x at p = let h : None ≡ Some x = at in cc
one_counted {X} test (y ∷ xs) zero x at p =
    let h : y ≡ x = cc in
    omega (arith, sum_by-cons (λ (z : X). cond (test z) 1 0) y xs, one_more (test y) 0 (count_by test xs) (ap test h ∙ p) (omega arith))
one_counted {X} test (y ∷ xs) (suc i) x at p =
    omega (arith, sum_by-cons (λ (z : X). cond (test z) 1 0) y xs, same_or_more (test y) 1 (count_by test xs) (one_counted test xs i x at p))

-- what passes at two places is counted twice
pub two_counted : {X : Type 0} (test : X → Bool) (xs : List X) (i j : ℕ) (x y : X) → i < j → slice_get xs i ≡ Some x → slice_get xs j ≡ Some y → test x ≡ true → test y ≡ true → 2 ≤ count_by test xs
two_counted test [] i j x y lt at bt p q = let h : None ≡ Some x = at in cc
two_counted test (z ∷ xs) i zero x y lt at bt p q = absurd (omega arith)
two_counted {X} test (z ∷ xs) zero (suc j) x y lt at bt p q =
    let h : z ≡ x = cc in
    omega (arith, sum_by-cons (λ (w : X). cond (test w) 1 0) z xs, one_more (test z) 1 (count_by test xs) (ap test h ∙ p) (one_counted test xs j y bt q))
two_counted {X} test (z ∷ xs) (suc i) (suc j) x y lt at bt p q =
    omega (arith, sum_by-cons (λ (w : X). cond (test w) 1 0) z xs, same_or_more (test z) 2 (count_by test xs) (two_counted test xs i j x y (omega arith) at bt p q))

-- what is counted stands somewhere
pub some_counted : {X : Type 0} (test : X → Bool) (xs : List X) → 1 ≤ count_by test xs → (i : ℕ) × (x : X) × (slice_get xs i ≡ Some x) × (test x ≡ true)
some_counted test [] h = absurd (omega (arith, h))
some_counted {X} test (x ∷ xs) h = by (test x) refl (omega (arith, h, sum_by-cons (λ (y : X). cond (test y) 1 0) x xs)) (some_counted test xs)
  where
    by : (b : Bool) → test x ≡ b → 1 ≤ cond (test x) 1 0 + count_by test xs → (1 ≤ count_by test xs → (i : ℕ) × (y : X) × (slice_get xs i ≡ Some y) × (test y ≡ true))
        → (i : ℕ) × (y : X) × (slice_get (x ∷ xs) i ≡ Some y) × (test y ≡ true)
    by true e n more = (0, x, refl, e)
    by false e n more =
        let none : cond (test x) 1 0 ≡ 0 = ap {B = ℕ} (λ b. cond b 1 0) e in
        let low : 1 ≤ count_by test xs = omega (arith, n, none) in
        let (i, y, at, p) = more low in
        (suc i, y, at, p)

-- what is counted once stands at one place alone
pub only_place : {X : Type 0} (test : X → Bool) (xs : List X) (i j : ℕ) (x y : X) → count_by test xs ≡ 1 → slice_get xs i ≡ Some x → test x ≡ true → slice_get xs j ≡ Some y → test y ≡ true → j ≡ i
only_place test xs i j x y one at p bt q = by (order i j)
  where
    order : (i j : ℕ) → (i < j) ⊎ ((j ≡ i) ⊎ (j < i))
    order i j = grind arith

    by : (i < j) ⊎ ((j ≡ i) ⊎ (j < i)) → j ≡ i
    by (inl less) = absurd (omega (arith, one, two_counted test xs i j x y less at bt p q))
    by (inr (inl same)) = same
    by (inr (inr more)) = absurd (omega (arith, one, two_counted test xs j i y x more bt at q p))
