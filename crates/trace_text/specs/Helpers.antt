-- The parts of a replica's line; no public clause cites this.
use Rattle.std.specs.Prelude.{ℕ, List, ◌++◌, codes, decimal}
use Rattle.run_agreement.specs.Trace.{side_text}
use Rattle.trace_text.specs.declared.place.Place.{Place}

-- the line up to its replica's side, from the digits of its numbers
abbrev pub head_parts : (word cycle at unit side : List ℕ) → List ℕ
head_parts word cycle at unit side = word ++ (codes " " ++ (cycle ++ (codes " " ++ (at ++ (codes " u" ++ (unit ++ (codes " " ++ side)))))))

abbrev pub own_head : Place → (word : List ℕ) → (at : ℕ) → List ℕ
own_head place word at = head_parts word (decimal place.cycle) (decimal at) (decimal place.unit) (side_text place.side)

-- the whole line, by what stands behind its replica's side
abbrev pub own_text : Place → (word : List ℕ) → (at : ℕ) → (rest : List ℕ) → List ℕ
own_text place word at rest = word ++ (codes " " ++ (decimal place.cycle ++ (codes " " ++ (decimal at ++ (codes " u" ++ (decimal place.unit ++ (codes " " ++ (side_text place.side ++ rest))))))))

-- what stands behind the replica's side of a missed frame and of a word, from the digits of their numbers
abbrev pub miss_parts : (from round : List ℕ) → List ℕ
miss_parts from round = codes " u" ++ (from ++ (codes " " ++ (round ++ codes "\n")))

abbrev pub word_parts : (word : List ℕ) → List ℕ
word_parts word = codes " " ++ (word ++ codes "\n")
