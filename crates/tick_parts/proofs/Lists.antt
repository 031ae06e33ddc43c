-- Lists of the values of a function.
use Rattle.std.proofs.Common.{◌≡◌, ℕ, zero, suc, ◌+◌, ◌<◌, ◌≤◌, List, [], ◌∷◌, ◌++◌, length, get_or, map, inl, inr, refl, ◌∙◌, ap, arith}
use Rattle.std.specs.List.{range_with_len, flat_map}
use Rattle.std.proofs.lemmas.Bool.{cases_eq}
use Rattle.std.proofs.Common.{append-nil}
use Rattle.std.proofs.lemmas.List.FromFn.{get_or-map-range_with_len, length-map-range_with_len}
use Rattle.cluster_model.specs.Plan.{listed}

pub listed_at : {X : Type 0} (n : ℕ) (f : ℕ → X) (i : ℕ) (d : X) → i < n → get_or (listed n f) i d ≡ f i
listed_at n f i d low = get_or-map-range_with_len f 0 n i i d low (omega arith)

pub length_listed : {X : Type 0} (n : ℕ) (f : ℕ → X) → length (listed n f) ≡ n
length_listed n f = length-map-range_with_len f 0 n

-- two functions with the same values have the same lists
pub listed_same : {X : Type 0} (n : ℕ) (f g : ℕ → X) → ((i : ℕ) → i < n → f i ≡ g i) → listed n f ≡ listed n g
listed_same n f g h = from 0 n (λ i low high. h i (omega (arith, high)))
  where
    from : (a k : ℕ) → ((i : ℕ) → a ≤ i → i < a + k → f i ≡ g i) → map f (range_with_len a k) ≡ map g (range_with_len a k)
    from a zero h = refl
    from a (suc k) h =
        ap (λ x. x ∷ map f (range_with_len (a + 1) k)) (h a (omega arith) (omega arith))
        ∙ ap (λ xs. g a ∷ xs) (from (a + 1) k (λ i low high. h i (omega (arith, low)) (omega (arith, high))))

-- a list of lists that are all empty, and one of which one alone isn't
pub flat_none : {X : Type 0} (f : ℕ → List X) (a n : ℕ) → ((i : ℕ) → a ≤ i → i < a + n → f i ≡ []) → flat_map f (range_with_len a n) ≡ []
flat_none f a zero h = refl
flat_none f a (suc n) h =
    ap (λ xs. xs ++ flat_map f (range_with_len (a + 1) n)) (h a (omega arith) (omega arith))
    ∙ flat_none f (a + 1) n (λ i low high. h i (omega (arith, low)) (omega (arith, high)))

pub flat_one : {X : Type 0} (f : ℕ → List X) (a n j : ℕ) → a ≤ j → j < a + n → ((i : ℕ) → a ≤ i → i < a + n → (i ≡ j → ⊥) → f i ≡ []) → flat_map f (range_with_len a n) ≡ f j
flat_one f a zero j low high h = absurd (omega (arith, low, high))
flat_one f a (suc n) j low high h = elim (cases_eq a j) [
  | inl here ↦
      ap (λ xs. f a ++ xs) (flat_none f (a + 1) n (λ i from to. h i (omega (arith, from)) (omega (arith, to)) (λ e. omega (arith, e, here, from))))
      ∙ append-nil (f a) ∙ ap f here
  | inr there ↦
      ap (λ xs. xs ++ flat_map f (range_with_len (a + 1) n)) (h a (omega arith) (omega arith) there)
      ∙ flat_one f (a + 1) n j (let z : a ≡ j → ⊥ = there in omega (arith, low, z)) (omega (arith, high)) (λ i from to. h i (omega (arith, from)) (omega (arith, to)))
]
