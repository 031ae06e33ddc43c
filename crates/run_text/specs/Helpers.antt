-- The parts of an output's line; no public clause cites this.
use Rattle.std.specs.Prelude.{ℕ, List, ◌++◌, codes, decimal, ℤ}
use Rattle.run_texts.specs.Lines.{spaced}

-- the line before its words
abbrev pub out_head : (cycle : ℕ) → (name : List ℕ) → (instance tick : ℕ) → List ℕ
out_head cycle name instance tick = codes "out " ++ (decimal cycle ++ (codes " " ++ (name ++ (codes " " ++ (decimal instance ++ (codes " " ++ decimal tick))))))

-- its words and its end
abbrev pub out_tail : (words : List ℤ) → List ℕ
out_tail words = spaced words ++ codes "\n"

-- the line of a lost unit, from the digits of its numbers
abbrev pub lost_parts : (cycle unit : List ℕ) → List ℕ
lost_parts cycle unit = codes "lost " ++ (cycle ++ (codes " u" ++ (unit ++ codes "\n")))
