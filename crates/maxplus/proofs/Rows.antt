-- Worked rows.
use Rattle.std.proofs.Common.{◌≡◌, [], ◌∷◌, refl}
use Rattle.maxplus.specs.MaxPlus.{convolution, fold_convolution, greatest_fold, entries}

-- costs 1 and 0 for the indices 0 and 1, convolved with 0 and 2: the entries 2, 4 and 3
first : convolution (entries (2 ∷ 1 ∷ [])) (entries (1 ∷ 3 ∷ [])) 0 ≡ 2
unfolding convolution
first = refl

second : convolution (entries (2 ∷ 1 ∷ [])) (entries (1 ∷ 3 ∷ [])) 1 ≡ 4
unfolding convolution
second = refl

third : convolution (entries (2 ∷ 1 ∷ [])) (entries (1 ∷ 3 ∷ [])) 2 ≡ 3
unfolding convolution
third = refl

-- no two indices with possible entries come to 0
impossible : convolution (entries (0 ∷ 4 ∷ [])) (entries (2 ∷ 1 ∷ [])) 0 ≡ 0
unfolding convolution
impossible = refl

-- the cost 4 at the index 1: not at all, once, and twice
none : greatest_fold (entries (0 ∷ 5 ∷ [])) 2 0 ≡ 1
unfolding convolution fold_convolution greatest_fold
none = refl

once : greatest_fold (entries (0 ∷ 5 ∷ [])) 2 1 ≡ 5
unfolding convolution fold_convolution greatest_fold
once = refl

twice : greatest_fold (entries (0 ∷ 5 ∷ [])) 2 2 ≡ 9
unfolding convolution fold_convolution greatest_fold
twice = refl

too_often : greatest_fold (entries (0 ∷ 5 ∷ [])) 2 3 ≡ 0
unfolding convolution fold_convolution greatest_fold
too_often = refl
