-- Text that was put to an output, and text that still waits.
use Rattle.std.specs.Prelude.{◌≡◌, ℕ, List, [], ◌∷◌, ◌++◌, Option, Result, MatchResult}
use Rattle.std.specs.Borrow.{Bor}
use Rattle.std.specs.Io.KnownBytes.{append_known}

-- of the text a front was put behind what was there, and the rest waits
pub record Gathered (base : Option (List ℕ)) (text : List ℕ) (out : Option (List ℕ)) (waiting : List ℕ) : Type 0 where
  pub sent : List ℕ
  pub whole : text ≡ sent ++ waiting
  pub stands : out ≡ append_known base sent

-- a front of the text was put behind what was there
pub record HasFront (base : Option (List ℕ)) (text : List ℕ) (out : Option (List ℕ)) : Type 0 where
  pub front : List ℕ
  pub rest : List ℕ
  pub whole : text ≡ front ++ rest
  pub stands : out ≡ append_known base front

-- the bytes were written behind whatever was gathered, or at an error a front of that and them was put
abbrev pub Writes : {E : Type 0} → Option (List ℕ) → List ℕ → List ℕ → Option (List ℕ) → List ℕ → Result (Unit {0}) E → Type 0
Writes out waiting bytes new left result = MatchResult result
    (λ _. (base : Option (List ℕ)) (text : List ℕ) → Gathered base text out waiting → Gathered base (text ++ bytes) new left)
    (λ _. (base : Option (List ℕ)) (text : List ℕ) → Gathered base text out waiting → HasFront base (text ++ bytes) new)

-- the bytes of pieces, one after another
abbrev pub joined : List (Bor (List ℕ)) → List ℕ
joined [] = []
joined (piece ∷ pieces) = piece.now ++ joined pieces
