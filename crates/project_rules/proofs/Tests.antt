-- What tests that fail, or pass, say of their numbers.
use Rattle.std.proofs.Common.{◌≡◌, ℕ, ◌<◌, ◌≤◌, nat_le, ℤ, pos, negsuc, Bool, true, false, not, ◌&&◌, ◌||◌, List, Some, refl, if◌then◌else◌, arith}
use Rattle.std.specs.Prelude.{slice_get}
use Rattle.std.proofs.lemmas.Bool.Decides.{nat_tests}
use Rattle.project_sheet.specs.First.{At}
use Rattle.project_rows.specs.Rules.{is_within}

pub either_false : (a b : Bool) → (a || b) ≡ false → (a ≡ false) × (b ≡ false)
either_false true b e = cc
either_false false b e = (refl, e)

pub not_false : (a : Bool) → not a ≡ false → a ≡ true
not_false true e = refl
not_false false e = cc

pub both_true : (a b : Bool) → (a && b) ≡ true → (a ≡ true) × (b ≡ true)
both_true true b e = (refl, e)
both_true false b e = cc

pub by_test : (b : Bool) → (b ≡ true → ⊥) → b ≡ false
by_test true h = absurd (h refl)
by_test false h = refl

-- a test that passes nowhere fails at each place
pub nowhere : {X : Type 0} (test : X → Bool) (xs : List X) → ((i : ℕ) → At test xs i → ⊥) → (i : ℕ) (x : X) → slice_get xs i ≡ Some x → test x ≡ false
nowhere test xs none i x at = by_test (test x) (λ bad. none i (record { it = x; stands = at; passes = bad }))

-- a number within its limits
pub number_in : (low high : ℕ) (z : ℤ) → is_within low high z ≡ true → (n : ℕ) × (z ≡ pos n) × (low ≤ n) × (n ≤ high)
number_in low high (pos n) e =
    let w = both_true (nat_le low n) (nat_le n high) e in
    (n, refl, grind (arith, nat_tests), grind (arith, nat_tests))
number_in low high (negsuc n) e = cc

pub below : (m n : ℕ) → nat_le m n ≡ false → n < m
below m n e = grind (arith, nat_tests)

-- a number is kept where it fits
pub keeps : (most n : ℕ) → n ≤ most → (if nat_le n most then n else 0) ≡ n
keeps most n h = grind (arith, nat_tests)
