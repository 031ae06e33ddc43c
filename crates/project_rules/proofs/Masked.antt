-- The mask of a task's units has some unit, and only units of the cluster.
use Rattle.std.proofs.Common.{◌≡◌, ℕ, zero, suc, ◌+◌, ◌-◌, ◌^◌, ◌<◌, ◌≤◌, ◌⊎◌, inl, inr, ℤ, pos, negsuc, Bool, true, false, not, ◌||◌, if◌then◌else◌, List, [], ◌∷◌, length, ◌==◌, Option, Some, None, refl, ap, sym, ◌∙◌, arith}
use Rattle.std.specs.Prelude.{int_le}
use Rattle.std.specs.Ordering.{int_eq}
use Rattle.std.specs.List.{list_any}
use Rattle.std.proofs.lemmas.Bool.Decides.{nat_tests, Decides-int_eq}
use Rattle.project_rows.specs.Rules.{is_within, units_out}
use Rattle.project_relations.specs.Relations.{maybe_past}
use Rattle.project_reader.specs.Mask.{has_unit, mask_below}
use Rattle.project_rules.proofs.Tests.{either_false, not_false, by_test, below, number_in}

twice : (n : ℕ) → 2 ^ suc n ≡ 2 ^ n + 2 ^ n
twice n = grind arith

add_one : (m p : ℕ) (b : Bool) → m < p → m + (if b then p else 0) < p + p
add_one m p true h = omega arith
add_one m p false h = omega arith

mask_small : (cluster : ℕ) (units : Option (List ℤ)) (n : ℕ) → mask_below cluster units n < 2 ^ n
mask_small cluster units zero = omega arith
mask_small cluster units (suc u) = omega (arith, twice u, add_one (mask_below cluster units u) (2 ^ u) (has_unit cluster units u) (mask_small cluster units u))

plus_none : (m p : ℕ) (b : Bool) → b ≡ false → m + (if b then p else 0) ≡ m
plus_none m p true e = cc
plus_none m p false e = omega arith

-- where no unit from n on is there, the mask is that of the units below n
mask_stops : (cluster : ℕ) (units : Option (List ℤ)) (n k : ℕ) → ((u : ℕ) → n ≤ u → has_unit cluster units u ≡ false) → mask_below cluster units (k + n) ≡ mask_below cluster units n
mask_stops cluster units n zero none = ap (mask_below cluster units) (omega arith)
mask_stops cluster units n (suc k) none =
    let shift : suc k + n ≡ suc (k + n) = omega arith in
    ap (mask_below cluster units) shift ∙ plus_none (mask_below cluster units (k + n)) (2 ^ (k + n)) (has_unit cluster units (k + n)) (none (k + n) (omega arith)) ∙ mask_stops cluster units n k none

grows : (m p : ℕ) (b : Bool) → m ≤ m + (if b then p else 0)
grows m p b = omega arith

power_some : (n : ℕ) → 1 ≤ 2 ^ n
power_some zero = omega arith
power_some (suc n) = omega (arith, twice n, power_some n)

taken : (m p : ℕ) (b : Bool) → b ≡ true → 1 ≤ p → 1 ≤ m + (if b then p else 0)
taken m p true e h = omega arith
taken m p false e h = cc

mask_some : (cluster : ℕ) (units : Option (List ℤ)) (n u : ℕ) → u < n → has_unit cluster units u ≡ true → 1 ≤ mask_below cluster units n
mask_some cluster units zero u lt h = absurd (omega arith)
mask_some cluster units (suc n) u lt h = elim (last u n lt) [
  | inl less ↦ omega (arith, mask_some cluster units n u less h, grows (mask_below cluster units n) (2 ^ n) (has_unit cluster units n))
  | inr same ↦ taken (mask_below cluster units n) (2 ^ n) (has_unit cluster units n) (ap (has_unit cluster units) same ∙ h) (power_some n)
]
  where
    last : (u n : ℕ) → u < suc n → (u < n) ⊎ (n ≡ u)
    last u n lt = grind arith

-- a list of units of their form has a unit below 8
some_listed : (cluster : ℕ) (zs : List ℤ) → units_out (Some zs) ≡ false → (u : ℕ) × (u < 8) × (has_unit cluster (Some zs) u ≡ true)
some_listed cluster [] e = cc
some_listed cluster (z ∷ zs) e =
    let out = (λ (y : ℤ). not (is_within 0 7 y)) in
    let w = either_false (length (z ∷ zs) == 0) (list_any out (z ∷ zs)) e in
    let v = either_false (not (is_within 0 7 z)) (list_any out zs) w.1 in
    let (n, is, low, high) = number_in 0 7 z (not_false (is_within 0 7 z) v.0) in
    (n, omega (arith, high), ap (λ b. b || list_any (λ (y : ℤ). int_eq y (pos n)) zs) ((Decides-int_eq z (pos n)).1 is))

-- a mask of units of their form has a unit
pub some_unit : (cluster : ℕ) (units : Option (List ℤ)) → 1 ≤ cluster → units_out units ≡ false → 1 ≤ mask_below cluster units 8
some_unit cluster None some e = mask_some cluster None 8 0 (omega arith) (grind (arith, nat_tests))
some_unit cluster (Some zs) some e = let (u, lt, there) = some_listed cluster zs e in mask_some cluster (Some zs) 8 u lt there

none_listed : (cluster u : ℕ) (zs : List ℤ) → cluster ≤ u → list_any (λ z. int_le (pos cluster) z) zs ≡ false → list_any (λ z. int_eq z (pos u)) zs ≡ false
none_listed cluster u [] le e = refl
none_listed cluster u (z ∷ zs) le e =
    let w = either_false (int_le (pos cluster) z) (list_any (λ y. int_le (pos cluster) y) zs) e in
    ap (λ b. b || list_any (λ y. int_eq y (pos u)) zs) (apart z w.0) ∙ none_listed cluster u zs le w.1
  where
    apart : (z : ℤ) → int_le (pos cluster) z ≡ false → int_eq z (pos u) ≡ false
    apart (pos n) e = by_test (int_eq (pos n) (pos u)) (λ t. (let same : pos n ≡ pos u = (Decides-int_eq (pos n) (pos u)).0 t in let is : n ≡ u = cc in absurd (omega (arith, is, le, below cluster n e))))
    apart (negsuc n) e = refl

past : (cluster u : ℕ) (units : Option (List ℤ)) → cluster ≤ u → maybe_past (pos cluster) units ≡ false → has_unit cluster units u ≡ false
past cluster u None le e = grind (arith, nat_tests)
past cluster u (Some zs) le e = none_listed cluster u zs le e

-- a mask of units below the cluster's number is below its power
pub known_units : (cluster : ℕ) (units : Option (List ℤ)) → cluster ≤ 8 → maybe_past (pos cluster) units ≡ false → mask_below cluster units 8 < 2 ^ cluster
known_units cluster units few e =
    let all : (8 - cluster) + cluster ≡ 8 = omega arith in
    let same : mask_below cluster units 8 ≡ mask_below cluster units cluster = ap (mask_below cluster units) (sym all) ∙ mask_stops cluster units cluster (8 - cluster) (λ u le. past cluster u units le e) in
    omega (arith, same, mask_small cluster units cluster)
