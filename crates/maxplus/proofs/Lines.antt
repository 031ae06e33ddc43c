-- Folds against a line, and folds that take two neighbouring indices.
use Rattle.std.proofs.Common.{◌≡◌, ⊎_elim, ℕ, zero, suc, ◌+◌, ◌*◌, ◌<◌, ◌≤◌, refl, sym, ap, ◌∙◌, arith}
use Rattle.maxplus.specs.MaxPlus.{fold_convolution}
use Rattle.maxplus.proofs.Greatest.{convolution_bound, convolution_reached}
use Rattle.maxplus.proofs.Product.{product_found, product_rises}

-- a possible fold one longer is a possible entry and a possible fold
fold_found : (f : ℕ → ℕ) (j k v : ℕ) → fold_convolution f (suc j) k ≡ suc v → (i : ℕ) × (l : ℕ) × (a : ℕ) × (b : ℕ) × (i + l ≡ k) × (f i ≡ suc a) × (fold_convolution f j l ≡ suc b) × (v ≡ a + b)
unfolding fold_convolution
fold_found f j k v e =
    ⊎_elim
    (λ none. absurd (let x : ⊥ = omega (arith, none, e) in x))
    (λ some.
    let p = product_found (f some.0) (fold_convolution f j some.1) v (some.3 ∙ e) in
    (some.0, some.1, p.0, p.1, some.2, p.2, p.3, p.4))
    (convolution_reached f (fold_convolution f j) k)

-- a fold of an entry and a fold
fold_next : (f : ℕ → ℕ) (i j l k a b : ℕ) → i + l ≡ k → suc a ≤ f i → suc b ≤ fold_convolution f j l → suc (a + b) ≤ fold_convolution f (suc j) k
unfolding fold_convolution
fold_next f i j l k a b sum left right =
    let low = product_rises (suc a) (suc b) (f i) (fold_convolution f j l) left right in
    let at = convolution_bound f (fold_convolution f j) i l k sum in
    omega (arith, low, at)

-- the only possible index of no folds is 0, at no cost
fold_zero : (f : ℕ → ℕ) (k v : ℕ) → fold_convolution f 0 k ≡ suc v → (k ≡ 0) × (v ≡ 0)
unfolding fold_convolution
fold_zero f zero v e = (refl, omega (arith, e))
fold_zero f (suc k) v e = absurd (let x : ⊥ = omega (arith, e) in x)

-- a product with a sum
times_sum : (a b c : ℕ) → (a + b) * c ≡ a * c + b * c
times_sum a b c = omega arith

-- where all entries are below a line, so are the folds
pub fold_below_line : (f : ℕ → ℕ) (p r up down : ℕ) → ((i a : ℕ) → f i ≡ suc a → suc a + i * down + r ≤ p + i * up) → (j k v : ℕ) → fold_convolution f j k ≡ suc v → suc v + j + k * down + j * r ≤ 1 + j * p + k * up
fold_below_line f p r up down line zero k v e =
    let z = fold_zero f k v e in
    let a = ap (λ x. x * down) z.0 in
    let b = ap (λ x. x * up) z.0 in
    omega (arith, a, b, z.1)
fold_below_line f p r up down line (suc j) k v e =
    let s = fold_found f j k v e in
    let first = line s.0 s.2 s.5 in
    let rest = fold_below_line f p r up down line j s.1 s.3 s.6 in
    let a : k * down ≡ s.0 * down + s.1 * down = ap (λ x. x * down) (sym s.4) ∙ times_sum s.0 s.1 down in
    let b : k * up ≡ s.0 * up + s.1 * up = ap (λ x. x * up) (sym s.4) ∙ times_sum s.0 s.1 up in
    omega (arith, first, rest, a, b, s.7)

-- where all possible entries are before q, so are the parts of a possible fold
pub fold_within : (f : ℕ → ℕ) (q : ℕ) → ((i a : ℕ) → f i ≡ suc a → i < q) → (j k v : ℕ) → fold_convolution f j k ≡ suc v → k + j ≤ j * q
fold_within f q inside zero k v e = let z = fold_zero f k v e in omega (arith, z.0)
fold_within f q inside (suc j) k v e =
    let s = fold_found f j k v e in
    let first = inside s.0 s.2 s.5 in
    let rest = fold_within f q inside j s.1 s.3 s.6 in
    omega (arith, first, rest, s.4)

-- so many times the entry at i
fold_run : (f : ℕ → ℕ) (i a : ℕ) → suc a ≤ f i → (m j k b n l : ℕ) → m + j ≡ n → m * i + k ≡ l → suc b ≤ fold_convolution f j k → suc (m * a + b) ≤ fold_convolution f n l
fold_run f i a here zero j k b n l sum at rest =
    let x : j ≡ n = omega (arith, sum) in
    let y : k ≡ l = omega (arith, at) in
    let e : fold_convolution f j k ≡ fold_convolution f n l = ap (λ m. fold_convolution f m k) x ∙ ap (fold_convolution f n) y in
    omega (arith, rest, e)
fold_run f i a here (suc m) j k b zero l sum at rest = absurd (let x : ⊥ = omega (arith, sum) in x)
fold_run f i a here (suc m) j k b (suc n) l sum at rest =
    let before = fold_run f i a here m j k b n (m * i + k) (omega (arith, sum)) refl rest in
    let more = fold_next f i n (m * i + k) l a (m * a + b) (omega (arith, at)) here before in
    omega (arith, more)

-- no folds
fold_start : (f : ℕ → ℕ) → 1 ≤ fold_convolution f 0 0
unfolding fold_convolution
fold_start f = omega arith

-- n folds at 0
pub fold_first_reached : (f : ℕ → ℕ) (a : ℕ) → f 0 ≡ suc a → (n : ℕ) → suc (n * a) ≤ fold_convolution f n 0
fold_first_reached f a here n =
    let run = fold_run f 0 a (omega (arith, here)) n 0 0 0 n 0 (omega arith) (omega arith) (fold_start f) in
    omega (arith, run)

-- and no fold at 0 is greater
pub fold_first_bound : (f : ℕ → ℕ) (a : ℕ) → f 0 ≡ suc a → (n v : ℕ) → fold_convolution f n 0 ≡ suc v → v ≤ n * a
fold_first_bound f a here zero v e = let z = fold_zero f 0 v e in omega (arith, z.1)
fold_first_bound f a here (suc n) v e =
    let s = fold_found f n 0 v e in
    let first : s.0 ≡ 0 = omega (arith, s.4) in
    let rest : s.1 ≡ 0 = omega (arith, s.4) in
    let x = ap f first in
    let y = ap (fold_convolution f n) rest in
    let so_far = fold_first_bound f a here n s.3 (sym y ∙ s.6) in
    omega (arith, so_far, here, x, s.5, s.7)

-- m folds at i and r at the next index are a fold
pub fold_even_reached : (f : ℕ → ℕ) (i a b m r : ℕ) → suc a ≤ f i → suc b ≤ f (suc i) → suc (m * a + r * b) ≤ fold_convolution f (m + r) (m * i + r * suc i)
fold_even_reached f i a b m r here next =
    let last = fold_run f (suc i) b next r 0 0 0 r (r * suc i) (omega arith) (omega arith) (fold_start f) in
    fold_run f i a here m r (r * suc i) (r * b) (m + r) (m * i + r * suc i) refl refl (omega (arith, last))

-- and no fold at that index is greater, where the entries are below the line through both
pub fold_even_bound : (f : ℕ → ℕ) (i a b m r v : ℕ) → ((l c : ℕ) → f l ≡ suc c → suc c + l * suc a + i * suc b ≤ (suc a + i * suc a) + l * suc b) → fold_convolution f (m + r) (m * i + r * suc i) ≡ suc v → v ≤ m * a + r * b
fold_even_bound f i a b m r v line e =
    let h = fold_below_line f (suc a + i * suc a) (i * suc b) (suc b) (suc a) line (m + r) (m * i + r * suc i) v e in
    bound h
  where
    bound : suc v + (m + r) + (m * i + r * suc i) * suc a + (m + r) * (i * suc b) ≤ 1 + (m + r) * (suc a + i * suc a) + (m * i + r * suc i) * suc b → v ≤ m * a + r * b
    bound h = omega arith
