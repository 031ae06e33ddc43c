-- Ranks that rise along edges can be taken below the number of tasks: each task's number of tasks of a lower rank.
use Rattle.std.proofs.Common.{◌≡◌, ℕ, zero, suc, ◌+◌, ◌<◌, ◌≤◌, inl, inr, cond, nat_lt, ap, arith}
use Rattle.std.proofs.lemmas.Bool.{cases_eq, cases_lt, lt-ltb, le-ltb}

-- how many of the first n numbers have a lower rank
abbrev pub count_below : (rank : ℕ → ℕ) → (r n : ℕ) → ℕ
count_below rank r zero = 0
count_below rank r (suc n) = count_below rank r n + cond (nat_lt (rank n) r) 1 0

counts : (rank : ℕ → ℕ) (r n : ℕ) → rank n < r → count_below rank r (suc n) ≡ count_below rank r n + 1
counts rank r n a = ap (λ b. count_below rank r n + cond b 1 0) (lt-ltb (rank n) r a)

skips : (rank : ℕ → ℕ) (r n : ℕ) → r ≤ rank n → count_below rank r (suc n) ≡ count_below rank r n + 0
skips rank r n a = ap (λ b. count_below rank r n + cond b 1 0) (le-ltb (rank n) r a)

at_most : (rank : ℕ → ℕ) (r n : ℕ) → count_below rank r n ≤ n
at_most rank r zero = omega arith
at_most rank r (suc n) = elim (cases_lt (rank n) r) [
  | inl a ↦ omega (arith, counts rank r n a, at_most rank r n)
  | inr b ↦ omega (arith, skips rank r n b, at_most rank r n)
]

rises : (rank : ℕ → ℕ) (r s n : ℕ) → r ≤ s → count_below rank r n ≤ count_below rank s n
rises rank r s zero l = omega arith
rises rank r s (suc n) l = elim (cases_lt (rank n) r) [
  | inl a ↦ omega (arith, counts rank r n a, counts rank s n (omega (arith, a, l)), rises rank r s n l)
  | inr b ↦ omega (arith, skips rank r n b, rises rank r s n l)
]

-- a task of a rank between the two makes the difference
pub rises_more : (rank : ℕ → ℕ) (r s a n : ℕ) → a < n → r ≤ rank a → rank a < s → count_below rank r n < count_below rank s n
rises_more rank r s a zero low from to = absurd (omega (arith, low))
rises_more rank r s a (suc n) low from to = elim (cases_eq a n) [
  | inl same ↦
      let b : rank a ≡ rank n = ap rank same in
      omega (arith, skips rank r n (omega (arith, from, b)), counts rank s n (omega (arith, to, b)), rises rank r s n (omega (arith, from, to)))
  | inr other ↦
      let before = rises_more rank r s a n (omega (arith, low, other)) from to in
      elim (cases_lt (rank n) r) [
        | inl c ↦ omega (arith, counts rank r n c, counts rank s n (omega (arith, c, from, to)), before)
        | inr d ↦ omega (arith, skips rank r n d, before)
      ]
]

-- fewer than all, where one of them has no lower rank
pub below_all : (rank : ℕ → ℕ) (r a n : ℕ) → a < n → r ≤ rank a → count_below rank r n < n
below_all rank r a zero low from = absurd (omega (arith, low))
below_all rank r a (suc n) low from = elim (cases_eq a n) [
  | inl same ↦ omega (arith, skips rank r n (omega (arith, from, ap rank same)), at_most rank r n)
  | inr other ↦
      let before = below_all rank r a n (omega (arith, low, other)) from in
      elim (cases_lt (rank n) r) [
        | inl c ↦ omega (arith, counts rank r n c, before)
        | inr d ↦ omega (arith, skips rank r n d, before)
      ]
]
