-- A cap may be taken on the way: vectors that agree under the cap have convolutions that agree under the cap.
use Rattle.std.proofs.Common.{◌≡◌, ℕ, zero, suc, ◌-◌, ◌<◌, ◌≤◌, min, refl, arith}
use Rattle.maxplus.specs.MaxPlus.{product, greatest_below, convolution}

-- factors that agree under the cap have products that agree under it
product_capped : (c x y u v : ℕ) → 0 < c → min x c ≡ min u c → min y c ≡ min v c → min (product x y) c ≡ min (product u v) c
product_capped c zero y zero v some left right = refl
product_capped c zero y (suc u) v some left right = absurd (omega arith)
product_capped c (suc x) y zero v some left right = absurd (omega arith)
product_capped c (suc x) zero (suc u) zero some left right = refl
product_capped c (suc x) zero (suc u) (suc v) some left right = absurd (omega arith)
product_capped c (suc x) (suc y) (suc u) zero some left right = absurd (omega arith)
product_capped c (suc x) (suc y) (suc u) (suc v) some left right = omega arith

-- entries that agree under the cap have greatest entries that agree under it
pub greatest_below_capped : (n c : ℕ) (g h : ℕ → ℕ) → ((i : ℕ) → i < n → min (g i) c ≡ min (h i) c) → min (greatest_below n g) c ≡ min (greatest_below n h) c
greatest_below_capped zero c g h same = refl
greatest_below_capped (suc n) c g h same =
    let below = greatest_below_capped n c g h (λ i lt. same i (omega arith)) in
    let last = same n (omega arith) in
    omega (arith, below, last)

-- at k, where both pairs of vectors agree under the cap up to k
pub convolution_capped : (d e f g : ℕ → ℕ) (c k : ℕ) → 0 < c → ((i : ℕ) → i ≤ k → min (d i) c ≡ min (f i) c) → ((j : ℕ) → j ≤ k → min (e j) c ≡ min (g j) c) → min (convolution d e k) c ≡ min (convolution f g k) c
unfolding convolution
convolution_capped d e f g c k some left right =
    greatest_below_capped (suc k) c (λ i. product (d i) (e (k - i))) (λ i. product (f i) (g (k - i)))
    (λ i lt. product_capped c (d i) (e (k - i)) (f i) (g (k - i)) some (left i (omega arith)) (right (k - i) (omega arith)))
