-- The states of tasks.
use Rattle.std.specs.Prelude.{ℕ, List, map, replicate, ℤ, pos}
use Rattle.std.specs.Global.{Vec}

abbrev pub words_in : Vec ℤ → List ℤ
words_in words = words.items

-- each task has so many words, all 0
abbrev pub first_states : (words : List ℕ) → List (List ℤ)
first_states words = map (λ (n : ℕ). replicate n (pos 0)) words
