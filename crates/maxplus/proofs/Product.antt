-- Laws of the product of two entries.
use Rattle.std.proofs.Common.{◌≡◌, ℕ, zero, suc, ◌+◌, ◌≤◌, refl, arith}
use Rattle.maxplus.specs.MaxPlus.{product}

-- what is impossible stays so
pub product_zero : (x : ℕ) → product x 0 ≡ 0
product_zero zero = refl
product_zero (suc x) = refl

-- the entry 1 is no cost
pub product_one : (y : ℕ) → product 1 y ≡ y
product_one zero = refl
product_one (suc y) = omega arith

-- greater entries have a greater product
pub product_rises : (x y u v : ℕ) → x ≤ u → y ≤ v → product x y ≤ product u v
product_rises zero y u v left right = omega arith
product_rises (suc x) zero u v left right = omega arith
product_rises (suc x) (suc y) zero v left right = absurd (omega arith)
product_rises (suc x) (suc y) (suc u) zero left right = absurd (omega arith)
product_rises (suc x) (suc y) (suc u) (suc v) left right = omega arith

-- of three entries any two may be taken first
pub product_regroups : (x y z : ℕ) → product x (product y z) ≡ product (product x y) z
product_regroups zero y z = refl
product_regroups (suc x) zero z = refl
product_regroups (suc x) (suc y) zero = refl
product_regroups (suc x) (suc y) (suc z) = omega arith

-- a possible product has two possible factors
pub product_found : (x y c : ℕ) → product x y ≡ suc c → (a : ℕ) × (b : ℕ) × (x ≡ suc a) × (y ≡ suc b) × (c ≡ a + b)
product_found zero y c e = absurd (let z : ⊥ = omega arith in z)
product_found (suc x) zero c e = absurd (let z : ⊥ = omega arith in z)
product_found (suc x) (suc y) c e = (x, y, refl, refl, omega arith)
