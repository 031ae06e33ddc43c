-- Operands put onto a stack and found on it.
use Rattle.std.proofs.Common.{◌≡◌, ℕ, zero, suc, ◌+◌, ◌-◌, ◌<◌, ◌≤◌, List, ◌∷◌, length, ℤ, pos, refl, ap, ◌∙◌, arith, add-one}
use Rattle.std.specs.Prelude.{slice_set, slice_index_or}
use Rattle.std.proofs.lemmas.List.{get_or-set_same, get_or-set_other}
use Rattle.word_machine.specs.Stack.{operands}

-- there are as many as the height says
pub operands_length : (height : ℕ) (words : List ℤ) → length (operands height words) ≡ height
operands_length zero words = refl
operands_length (suc height) words = ap suc (operands_length height words)

-- a word set above them changes none
operands_below : (height k : ℕ) (word : ℤ) (words : List ℤ) → height ≤ k → operands height (slice_set words k word) ≡ operands height words
operands_below zero k word words le = refl
operands_below (suc height) k word words le =
    ap (λ w. w ∷ operands height (slice_set words k word)) (get_or-set_other words k height word (pos 0) (λ e. absurd (omega (arith, e))))
    ∙ ap (λ ws. slice_index_or words height (pos 0) ∷ ws) (operands_below height k word words (omega arith))

-- a word set right above them is the top of one more
pub put_on : (height : ℕ) (word : ℤ) (words : List ℤ) → height < length words → operands (height + 1) (slice_set words height word) ≡ word ∷ operands height words
put_on height word words lt =
    ap (λ n. operands n (slice_set words height word)) (add-one height)
    ∙ ap (λ w. w ∷ operands height (slice_set words height word)) (get_or-set_same words height word (pos 0) lt)
    ∙ ap (λ ws. word ∷ ws) (operands_below height height word words (omega arith))

-- the top is the last of the first words
pub top_of : (height : ℕ) (words : List ℤ) → 0 < height → operands height words ≡ slice_index_or words (height - 1) (pos 0) ∷ operands (height - 1) words
top_of zero words lt = absurd (omega arith)
top_of (suc height) words lt =
    let same : height ≡ suc height - 1 = omega arith in
    ap (λ n. slice_index_or words n (pos 0) ∷ operands n words) same
