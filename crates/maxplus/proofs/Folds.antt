-- Folds and their greatest, under the cap.
use Rattle.std.proofs.Common.{◌≡◌, ℕ, zero, suc, ◌+◌, ◌≤◌, min, refl, sym, ap, ◌∙◌, arith, add-one}
use Rattle.maxplus.specs.MaxPlus.{convolution, identity, fold_convolution, greatest_fold, cap}
use Rattle.maxplus.proofs.Capped.{greatest_below_capped, convolution_capped}
use Rattle.maxplus.proofs.Powers.{fold_sum, fold_same, joined, greatest_fold_power}

-- the identity is below the cap
identity_within : (k : ℕ) → identity k ≡ min (identity k) cap
identity_within zero = omega arith
identity_within (suc k) = omega arith

-- the 0-fold convolution
pub fold_none : (f : ℕ → ℕ) (k x : ℕ) → x ≡ identity k → x ≡ min (fold_convolution f 0 k) cap
unfolding fold_convolution
fold_none f k x is = is ∙ identity_within k

-- one more convolution of what holds the j-fold one capped
pub fold_more : (f d : ℕ → ℕ) (j k x : ℕ) → ((i : ℕ) → i ≤ k → d i ≡ min (fold_convolution f j i) cap) → x ≡ min (convolution f d k) cap → x ≡ min (fold_convolution f (j + 1) k) cap
unfolding fold_convolution
fold_more f d j k x capped is =
    let right : (i : ℕ) → i ≤ k → min (d i) cap ≡ min (fold_convolution f j i) cap = (λ i le. let at = capped i le in omega (arith, at)) in
    is ∙ convolution_capped f d f (fold_convolution f j) cap k (omega arith) (λ i le. refl) right ∙ ap (λ n. min (fold_convolution f n k) cap) (sym (add-one j))

-- the square of what holds the h-fold one capped
pub fold_twice : (f d : ℕ → ℕ) (h n k x : ℕ) → ((i : ℕ) → i ≤ k → d i ≡ min (fold_convolution f h i) cap) → h + h ≡ n → x ≡ min (convolution d d k) cap → x ≡ min (fold_convolution f n k) cap
fold_twice f d h n k x capped all is =
    let same : (i : ℕ) → i ≤ k → min (d i) cap ≡ min (fold_convolution f h i) cap = (λ i le. let at = capped i le in omega (arith, at)) in
    is ∙ convolution_capped d d (fold_convolution f h) (fold_convolution f h) cap k (omega arith) same same ∙ ap (λ y. min y cap) (sym (fold_sum f h h n k all))

-- a power of the joined vector is the greatest of the folds
pub power_is : (f g : ℕ → ℕ) (n k x : ℕ) → ((i : ℕ) → i ≤ k → g i ≡ joined f i) → x ≡ min (fold_convolution g n k) cap → x ≡ min (greatest_fold f n k) cap
power_is f g n k x same is =
    is ∙ ap (λ y. min y cap) (fold_same g (joined f) n k same ∙ sym (greatest_fold_power f n k))

-- vectors that agree under the cap have folds that agree under it
fold_capped : (d f : ℕ → ℕ) (j k : ℕ) → ((i : ℕ) → i ≤ k → min (d i) cap ≡ min (f i) cap) → min (fold_convolution d j k) cap ≡ min (fold_convolution f j k) cap
unfolding fold_convolution
fold_capped d f zero k same = refl
fold_capped d f (suc j) k same =
    convolution_capped d (fold_convolution d j) f (fold_convolution f j) cap k (omega arith) same (λ i le. fold_capped d f j i (λ m lt. same m (omega arith)))

-- and so have the greatest of the folds
pub greatest_fold_capped : (d f : ℕ → ℕ) (n k : ℕ) → ((i : ℕ) → i ≤ k → min (d i) cap ≡ min (f i) cap) → min (greatest_fold d n k) cap ≡ min (greatest_fold f n k) cap
unfolding greatest_fold
greatest_fold_capped d f n k same =
    greatest_below_capped (suc n) cap (λ j. fold_convolution d j k) (λ j. fold_convolution f j k) (λ j lt. fold_capped d f j k same)
