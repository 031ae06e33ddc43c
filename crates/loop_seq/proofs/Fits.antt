-- A split by recursion over both lists: each loop's turns fit its cap.
use Rattle.std.proofs.Common.{◌≡◌, ℕ, zero, suc, ◌+◌, ◌<◌, ◌≤◌, List, [], ◌∷◌, length, refl, ap, ◌∙◌, arith}
use Rattle.std.specs.Prelude.{slice_index}
use Rattle.std.specs.List.{sum}
use Rattle.loop_seq.specs.Split.{IsSplit}
use Rattle.loop_seq.proofs.Worth.{sum-cons}

-- the turns of loops that fit their caps
abbrev pub Fits : List ℕ → List ℕ → Type 0
Fits [] [] = Unit {0}
Fits (c ∷ cs) (k ∷ ks) = (k ≤ c) × Fits cs ks
Fits [] (k ∷ ks) = ⊥
Fits (c ∷ cs) [] = ⊥

-- the turns of all loops together
abbrev pub all_of : List ℕ → ℕ
all_of [] = 0
all_of (k ∷ ks) = k + all_of ks

-- both ways to add up the turns
all_is_sum : (ks : List ℕ) → sum ks ≡ all_of ks
all_is_sum [] = refl
all_is_sum (k ∷ ks) = sum-cons k ks ∙ ap (λ n. k + n) (all_is_sum ks)

-- turns that fit are a split
pub fits_split : (cs ks : List ℕ) (t : ℕ) → Fits cs ks → all_of ks ≤ t → IsSplit cs t ks
fits_split cs ks t f le = record { each = each cs ks f; within = within cs ks f; sum_within = omega (arith, all_is_sum ks, le) }
  where
    each : (cs ks : List ℕ) → Fits cs ks → length ks ≡ length cs
    each [] [] f = refl
    each [] (k ∷ ks) f = absurd f
    each (c ∷ cs) [] f = absurd f
    each (c ∷ cs) (k ∷ ks) f = omega (arith, each cs ks f.1)

    within : (cs ks : List ℕ) → Fits cs ks → (i : ℕ) → i < length ks → slice_index ks i ≤ slice_index cs i
    within [] [] f i lt = absurd (omega arith)
    within [] (k ∷ ks) f i lt = absurd f
    within (c ∷ cs) [] f i lt = absurd f
    within (c ∷ cs) (k ∷ ks) f zero lt = f.0
    within (c ∷ cs) (k ∷ ks) f (suc i) lt = within cs ks f.1 i (omega arith)

-- and a split fits
pub split_fits : (cs ks : List ℕ) (t : ℕ) → IsSplit cs t ks → Fits cs ks × (all_of ks ≤ t)
split_fits cs ks t s = (fits cs ks s.each s.within, omega (arith, all_is_sum ks, s.sum_within))
  where
    fits : (cs ks : List ℕ) → length ks ≡ length cs → ((i : ℕ) → i < length ks → slice_index ks i ≤ slice_index cs i) → Fits cs ks
    fits [] [] e h = tt
    fits [] (k ∷ ks) e h = absurd (let x : ⊥ = omega arith in x)
    fits (c ∷ cs) [] e h = absurd (let x : ⊥ = omega arith in x)
    fits (c ∷ cs) (k ∷ ks) e h = (h 0 (omega arith), fits cs ks (omega arith) (λ i lt. h (suc i) (omega arith)))
