-- Powers: folds add up, and the greatest of the folds up to n is one power.
use Rattle.std.proofs.Common.{◌≡◌, ◌⊎◌, inl, inr, ⊎_elim, ℕ, zero, suc, ◌+◌, ◌-◌, ◌<◌, ◌≤◌, max, refl, sym, ap, ◌∙◌, subst, arith}
use Rattle.std.proofs.lemmas.Bool.{cases_lt}
use Rattle.maxplus.specs.MaxPlus.{product, greatest_below, convolution, identity, fold_convolution, greatest_fold}
use Rattle.maxplus.proofs.Greatest.{greatest_below_bound, greatest_below_reached, convolution_bound, convolution_reached}
use Rattle.maxplus.proofs.Product.{product_zero, product_one, product_rises, product_regroups}

-- what no entry below n passes, their greatest doesn't pass
pub greatest_below_least : (h : ℕ → ℕ) (n x : ℕ) → ((i : ℕ) → i < n → h i ≤ x) → greatest_below n h ≤ x
greatest_below_least h zero x low = omega arith
greatest_below_least h (suc n) x low =
    let before = greatest_below_least h n x (λ i lt. low i (omega arith)) in
    let last = low n (omega arith) in
    omega (arith, before, last)

-- what no product passes, the convolution doesn't pass
pub convolution_least : (f g : ℕ → ℕ) (k x : ℕ) → ((i j : ℕ) → i + j ≡ k → product (f i) (g j) ≤ x) → convolution f g k ≤ x
convolution_least f g k x low =
    ⊎_elim
    (λ none. omega (arith, none))
    (λ some. let at = low some.0 some.1 some.2 in omega (arith, at, some.3))
    (convolution_reached f g k)

-- greater factors have a greater convolution
pub convolution_rises : (d e f g : ℕ → ℕ) (k : ℕ) → ((i : ℕ) → i ≤ k → d i ≤ f i) → ((j : ℕ) → j ≤ k → e j ≤ g j) → convolution d e k ≤ convolution f g k
convolution_rises d e f g k left right =
    convolution_least d e k (convolution f g k) (λ i j sum.
    let low = product_rises (d i) (e j) (f i) (g j) (left i (omega (arith, sum))) (right j (omega (arith, sum))) in
    let at = convolution_bound f g i j k sum in
    omega (arith, low, at))

-- equal factors
pub convolution_same : (d e f g : ℕ → ℕ) (k : ℕ) → ((i : ℕ) → i ≤ k → d i ≡ f i) → ((j : ℕ) → j ≤ k → e j ≡ g j) → convolution d e k ≡ convolution f g k
convolution_same d e f g k left right =
    let low = convolution_rises d e f g k (λ i le. let s = left i le in omega (arith, s)) (λ j le. let s = right j le in omega (arith, s)) in
    let high = convolution_rises f g d e k (λ i le. let s = left i le in omega (arith, s)) (λ j le. let s = right j le in omega (arith, s)) in
    omega (arith, low, high)

-- equal vectors have equal folds
pub fold_same : (f g : ℕ → ℕ) (n k : ℕ) → ((i : ℕ) → i ≤ k → f i ≡ g i) → fold_convolution f n k ≡ fold_convolution g n k
unfolding fold_convolution
fold_same f g zero k same = refl
fold_same f g (suc n) k same =
    convolution_same f (fold_convolution f n) g (fold_convolution g n) k same (λ j le. fold_same f g n j (λ i lt. same i (omega arith)))

-- of three vectors the last two may be taken first
regroup_low : (f g h : ℕ → ℕ) (k : ℕ) → convolution f (convolution g h) k ≤ convolution (convolution f g) h k
regroup_low f g h k =
    convolution_least f (convolution g h) k (convolution (convolution f g) h k) (λ i j sum. ⊎_elim
    (λ none. let e = ap (product (f i)) none in let z = product_zero (f i) in omega (arith, e, z))
    (λ some.
    let e : product (f i) (product (g some.0) (h some.1)) ≡ product (f i) (convolution g h j) = ap (product (f i)) some.3 in
    let a = product_regroups (f i) (g some.0) (h some.1) in
    let b = convolution_bound f g i some.0 (i + some.0) refl in
    let c = product_rises (product (f i) (g some.0)) (h some.1) (convolution f g (i + some.0)) (h some.1) b (omega arith) in
    let d = convolution_bound (convolution f g) h (i + some.0) some.1 k (omega (arith, sum, some.2)) in
    omega (arith, e, a, c, d))
    (convolution_reached g h j))

-- and the other way round
regroup_high : (f g h : ℕ → ℕ) (k : ℕ) → convolution (convolution f g) h k ≤ convolution f (convolution g h) k
regroup_high f g h k =
    convolution_least (convolution f g) h k (convolution f (convolution g h) k) (λ i j sum. ⊎_elim
    (λ none. let e : product (convolution f g i) (h j) ≡ product 0 (h j) = ap (λ x. product x (h j)) none in omega (arith, e))
    (λ some.
    let e : product (product (f some.0) (g some.1)) (h j) ≡ product (convolution f g i) (h j) = ap (λ x. product x (h j)) some.3 in
    let a = product_regroups (f some.0) (g some.1) (h j) in
    let b = convolution_bound g h some.1 j (some.1 + j) refl in
    let c = product_rises (f some.0) (product (g some.1) (h j)) (f some.0) (convolution g h (some.1 + j)) (omega arith) b in
    let d = convolution_bound f (convolution g h) some.0 (some.1 + j) k (omega (arith, sum, some.2)) in
    omega (arith, e, a, c, d))
    (convolution_reached f g i))

-- so both are the same
pub convolution_regroups : (f g h : ℕ → ℕ) (k : ℕ) → convolution f (convolution g h) k ≡ convolution (convolution f g) h k
convolution_regroups f g h k =
    let low = regroup_low f g h k in
    let high = regroup_high f g h k in
    omega (arith, low, high)

-- the identity on the left
identity_product : (g : ℕ → ℕ) (k i j : ℕ) → i + j ≡ k → product (identity i) (g j) ≤ g k
identity_product g k zero j sum = let same : j ≡ k = omega (arith, sum) in let e = ap g same in let one = product_one (g j) in omega (arith, e, one)
identity_product g k (suc i) j sum = omega arith

-- the identity changes nothing
pub convolution_identity : (g : ℕ → ℕ) (k : ℕ) → convolution identity g k ≡ g k
convolution_identity g k =
    let low = convolution_least identity g k (g k) (identity_product g k) in
    let one = product_one (g k) in
    let high = convolution_bound identity g 0 k k (omega arith) in
    omega (arith, low, one, high)

-- the fold of a sum is the convolution of the folds
pub fold_sum : (f : ℕ → ℕ) (a b n k : ℕ) → a + b ≡ n → fold_convolution f n k ≡ convolution (fold_convolution f a) (fold_convolution f b) k
unfolding fold_convolution
fold_sum f zero b n k sum =
    let e : n ≡ b = omega (arith, sum) in
    ap (λ m. fold_convolution f m k) e ∙ sym (convolution_identity (fold_convolution f b) k)
fold_sum f (suc a) b zero k sum = absurd (let x : ⊥ = omega (arith, sum) in x)
fold_sum f (suc a) b (suc n) k sum =
    convolution_same f (fold_convolution f n) f (convolution (fold_convolution f a) (fold_convolution f b)) k (λ i le. refl) (λ j le. fold_sum f a b n j (omega (arith, sum)))
    ∙ convolution_regroups f (fold_convolution f a) (fold_convolution f b) k

-- each entry of f, or nothing at no cost where that is greater
abbrev pub joined : (ℕ → ℕ) → ℕ → ℕ
joined f k = max (f k) (identity k)

-- a fold of f is below that of the joined vector
fold_rises : (f : ℕ → ℕ) (j k : ℕ) → fold_convolution f j k ≤ fold_convolution (joined f) j k
unfolding fold_convolution
fold_rises f zero k = omega arith
fold_rises f (suc j) k = convolution_rises f (fold_convolution f j) (joined f) (fold_convolution (joined f) j) k (λ i le. omega arith) (λ i le. fold_rises f j i)

-- more folds of the joined vector are no less
fold_grows : (f : ℕ → ℕ) (j d n k : ℕ) → d + j ≡ n → fold_convolution (joined f) j k ≤ fold_convolution (joined f) n k
unfolding fold_convolution
fold_grows f j zero n k sum =
    let e : j ≡ n = omega (arith, sum) in
    let same = ap (λ m. fold_convolution (joined f) m k) e in
    omega (arith, same)
fold_grows f j (suc d) zero k sum = absurd (let x : ⊥ = omega (arith, sum) in x)
fold_grows f j (suc d) (suc n) k sum =
    let e = joined f in
    let so_far = fold_grows f j d n k (omega (arith, sum)) in
    let one = product_one (fold_convolution e n k) in
    let more = product_rises 1 (fold_convolution e n k) (e 0) (fold_convolution e n k) (omega arith) (omega arith) in
    let at = convolution_bound e (fold_convolution e n) 0 k k (omega arith) in
    omega (arith, so_far, one, more, at)

-- the joined entry is that of f, or the one of nothing
joined_is : (f : ℕ → ℕ) (i : ℕ) → (joined f i ≡ f i) ⊎ ((i ≡ 0) × (joined f i ≡ 1))
joined_is f zero = ⊎_elim (λ lt. inr (refl, omega arith)) (λ le. inl (omega arith)) (cases_lt (f 0) 1)
joined_is f (suc i) = inl (omega arith)

-- each power of the joined vector is a fold of f, or a shorter one
power_low : (f : ℕ → ℕ) (n k : ℕ) → fold_convolution (joined f) n k ≤ greatest_fold f n k
unfolding fold_convolution greatest_fold
power_low f zero k = omega arith
power_low f (suc n) k =
    let e = joined f in
    let all = λ (i : ℕ). fold_convolution f i k in
    convolution_least e (fold_convolution e n) k (greatest_fold f (suc n) k) (λ i j sum.
    let so_far = power_low f n j in
    ⊎_elim
    (λ mine. ⊎_elim
    (λ none.
    let z : fold_convolution e n j ≡ 0 = omega (arith, so_far, none) in
    let p = ap (product (e i)) z in
    let q = product_zero (e i) in
    omega (arith, p, q))
    (λ some.
    let a = product_rises (e i) (fold_convolution e n j) (f i) (fold_convolution f some.0 j) (omega (arith, mine)) (omega (arith, so_far, some.2)) in
    let b = convolution_bound f (fold_convolution f some.0) i j k sum in
    let c = greatest_below_bound all (suc (suc n)) (suc some.0) (omega (arith, some.1)) in
    omega (arith, a, b, c))
    (greatest_below_reached (λ m. fold_convolution f m j) (suc n)))
    (λ nothing.
    let same : j ≡ k = omega (arith, sum, nothing.0) in
    let p : product (e i) (fold_convolution e n j) ≡ product 1 (fold_convolution e n j) = ap (λ x. product x (fold_convolution e n j)) nothing.1 in
    let one = product_one (fold_convolution e n j) in
    let here : fold_convolution e n j ≤ greatest_below (suc n) all = subst (λ m. fold_convolution e n j ≤ greatest_below (suc n) (λ i. fold_convolution f i m)) same so_far in
    omega (arith, p, one, here))
    (joined_is f i))

-- the greatest of the folds up to n is the n-th power of the joined vector
pub greatest_fold_power : (f : ℕ → ℕ) (n k : ℕ) → greatest_fold f n k ≡ fold_convolution (joined f) n k
unfolding greatest_fold
greatest_fold_power f n k =
    let high = greatest_below_least (λ j. fold_convolution f j k) (suc n) (fold_convolution (joined f) n k) (λ j lt.
    let mine = fold_rises f j k in
    let more = fold_grows f j (n - j) n k (omega arith) in
    omega (arith, mine, more)) in
    let low = power_low f n k in
    omega (arith, high, low)
