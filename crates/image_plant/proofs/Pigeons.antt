-- Numbers below a limit that differ are at most as many as the limit.
use Rattle.std.proofs.Common.{◌≡◌, ℕ, zero, suc, ◌<◌, ◌≤◌, Bool, true, false, List, [], ◌∷◌, length, get_or, inl, inr, refl, ◌∙◌, arith}
use Rattle.std.specs.Prelude.{nat_eq, ◌||◌}
use Rattle.std.specs.List.{list_any, IsDistinct}
use Rattle.std.specs.Set.{is_member}
use Rattle.std.proofs.lemmas.Bool.{cases_lt, eqb-true, eq-eqb, ne_eqb}
use Rattle.std.proofs.lemmas.Cmp.{nat_eq_equiv}
use Rattle.std.proofs.lemmas.List.{get_or_default}
use Rattle.std.proofs.lemmas.List.Folds.{Any-from_list_any}
use Rattle.std.proofs.lemmas.Map.Keys.{IsDistinct-from_apart}
use Rattle.std.proofs.lemmas.Map.Made.{length-le_from_is_member}

-- the numbers below a limit
abbrev numbers : ℕ → List ℕ
numbers zero = []
numbers (suc n) = n ∷ numbers n

size : (n : ℕ) → length (numbers n) ≡ n
size zero = refl
size (suc n) = omega (arith, size n)

or_right : (b c : Bool) → c ≡ true → (b || c) ≡ true
or_right true c e = refl
or_right false c e = e

or_left : (b c : Bool) → b ≡ true → (b || c) ≡ true
or_left true c e = refl
or_left false c e = absurd cc

has : (n q : ℕ) → q < n → list_any (nat_eq q) (numbers n) ≡ true
has zero q low = absurd (omega (arith, low))
has (suc n) q low = elim (cases_lt q n) [
  | inl less ↦ or_right (nat_eq q n) (list_any (nat_eq q) (numbers n)) (has n q less)
  | inr same ↦ or_left (nat_eq q n) (list_any (nat_eq q) (numbers n)) (eq-eqb q n (omega (arith, low, same)))
]

module _ (n : ℕ) (xs : List ℕ) (low : (i : ℕ) → i < length xs → get_or xs i 0 < n) (apart : (i k : ℕ) → i < k → k < length xs → get_or xs i 0 ≡ get_or xs k 0 → ⊥) where
  distinct : IsDistinct nat_eq xs
  distinct = IsDistinct-from_apart nat_eq xs (λ i j d before inside. ne_eqb (get_or xs i d) (get_or xs j d)
      (λ e. apart i j before inside (get_or_default xs i 0 d (omega (arith, before, inside)) ∙ e ∙ get_or_default xs j d 0 inside)))

  member : (q : ℕ) → is_member nat_eq xs q ≡ true → is_member nat_eq (numbers n) q ≡ true
  member q h =
      let a = Any-from_list_any (nat_eq q) xs h in
      let same : q ≡ a.1 = eqb-true q a.1 a.4 in
      let is : get_or xs a.0 0 ≡ a.1 = get_or_default xs a.0 0 a.1 a.2 ∙ a.3 in
      has n q (omega (arith, same, is, low a.0 a.2))

  pub few_distinct : length xs ≤ n
  few_distinct = let le : length xs ≤ length (numbers n) = length-le_from_is_member nat_eq_equiv xs (numbers n) distinct member in omega (arith, le, size n)
