-- The operands among the words of a stack. This project's own.
use Rattle.std.specs.Prelude.{ℕ, zero, suc, ℤ, pos, List, [], ◌∷◌, slice_index_or}

-- the first words, as many as the height says, the last of them on top
abbrev pub operands : ℕ → List ℤ → List ℤ
operands zero words = []
operands (suc height) words = slice_index_or words height (pos 0) ∷ operands height words
