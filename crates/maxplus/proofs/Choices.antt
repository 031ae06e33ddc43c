-- What a choice by a test of two numbers comes to.
use Rattle.std.proofs.Common.{◌≡◌, ℕ, zero, suc, ◌+◌, ◌-◌, ◌%◌, ◌^◌, ◌<◌, ◌≤◌, max, cond, ltb, refl, ◌∙◌, arith}
use Rattle.std.proofs.lemmas.Bool.Decides.{nat_tests}
use Rattle.std.proofs.Math.Nat.{mod-eq_of_lt}
use Rattle.maxplus.specs.MaxPlus.{product, cap}

-- the greater of two numbers
pub cond_max : (a b : ℕ) → cond (ltb a b) b a ≡ max a b
cond_max a b = grind (arith, nat_tests)

-- a possible entry is taken
cond_possible : (y s : ℕ) → cond (ltb 0 (suc y)) s 0 ≡ s
cond_possible y s = grind (arith, nat_tests)

-- the product of a possible entry with another
pub cond_product : (x y : ℕ) → 0 < x → x ≤ cap → y ≤ cap → cond (ltb 0 y) ((y + (x - 1)) % 2 ^ 64) 0 ≡ product x y
cond_product zero y some left right = absurd (omega arith)
cond_product (suc x) zero some left right = refl
cond_product (suc x) (suc y) some left right =
    let small : suc y + (suc x - 1) < 2 ^ 64 = omega arith in
    let fits : (suc y + (suc x - 1)) % 2 ^ 64 ≡ suc y + (suc x - 1) = mod-eq_of_lt small in
    let sum : suc y + (suc x - 1) ≡ suc (x + y) = omega arith in
    cond_possible y ((suc y + (suc x - 1)) % 2 ^ 64) ∙ fits ∙ sum
