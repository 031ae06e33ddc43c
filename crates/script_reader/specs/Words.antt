-- The words of a script's line: the parts between blanks that have a byte.
use Rattle.std.specs.Prelude.{◌≡◌, ℕ, List, [], ◌∷◌, Option, MatchOption}
use Rattle.std.specs.Borrow.{Bor}
use Rattle.lines.specs.Grammar.{parts}

abbrev pub with_bytes : List (List ℕ) → List (List ℕ)
with_bytes [] = []
with_bytes ([] ∷ more) = with_bytes more
with_bytes ((b ∷ bs) ∷ more) = (b ∷ bs) ∷ with_bytes more

abbrev pub words_between : List ℕ → List (List ℕ)
words_between text = with_bytes (parts text)

-- the first word of a text and the text behind it, or there is no word
abbrev pub TakesWord : List ℕ → Option (Bor (List ℕ) × Bor (List ℕ)) → Type 0
TakesWord text result = MatchOption result
    (words_between text ≡ [])
    (λ r. words_between text ≡ r.0.now ∷ words_between r.1.now)
