-- A worked row: caps 10 and 10, weights 15 and 26, and 12 turns.
use Rattle.std.proofs.Common.{◌≡◌, ℕ, zero, suc, ◌≤◌, [], ◌∷◌, refl, arith}
use Rattle.std.specs.Prelude.{slice_index}
use Rattle.loop_seq.specs.Split.{IsSplit, worth}

-- 2 turns of the first loop and 10 of the second are a split
split : IsSplit (10 ∷ 10 ∷ []) 12 (2 ∷ 10 ∷ [])
split = record { each = refl; within = λ i lt. within i; sum_within = omega arith }
  where
    within : (i : ℕ) → slice_index (2 ∷ 10 ∷ []) i ≤ slice_index (10 ∷ 10 ∷ []) i
    within zero = omega arith
    within (suc zero) = omega arith
    within (suc (suc i)) = omega arith

-- it is worth 290
worth_of_split : worth (2 ∷ 10 ∷ []) (15 ∷ 26 ∷ []) ≡ 290
worth_of_split = refl
