-- The lines of an input, from the first on, up to its end or the first that isn't in the grammar.
use Rattle.std.specs.Prelude.{ℕ, ◌+◌, ◌==◌, nat_le, Bool, true, false, if◌then◌else◌, List, [], ◌∷◌, ◌++◌, length, Option, Some, None, ℤ}
use Rattle.lines.specs.Grammar.{words_of}

-- a line: the bytes before its end, and whether a line feed ends it (else the input does)
pub record RawLine : Type 0 where
  pub bytes : List ℕ
  pub feed : Bool

-- a byte at the front of the first line
abbrev pub onto_line : ℕ → List RawLine → List RawLine
onto_line b [] = (record { bytes = b ∷ []; feed = false }) ∷ []
onto_line b (l ∷ ls) = (record { bytes = b ∷ l.bytes; feed = l.feed }) ∷ ls

-- the lines of a text; nothing after the last line feed is no line
abbrev pub lines_in : List ℕ → List RawLine
lines_in [] = []
lines_in (b ∷ bs) = if b == 10 then (record { bytes = []; feed = true }) ∷ lines_in bs else onto_line b (lines_in bs)

-- a line with the line feed that ends it
abbrev pub whole_bytes : RawLine → List ℕ
whole_bytes line = if line.feed then line.bytes ++ 10 ∷ [] else line.bytes

-- the lines that a line feed ends
abbrev pub fed_lines : List RawLine → List RawLine
fed_lines [] = []
fed_lines (l ∷ ls) = if l.feed then l ∷ fed_lines ls else fed_lines ls

-- a carriage return directly before the line feed is a blank
abbrev pub without_return : List ℕ → List ℕ
without_return [] = []
without_return (b ∷ []) = if b == 13 then [] else b ∷ []
without_return (b ∷ c ∷ bs) = b ∷ without_return (c ∷ bs)

abbrev pub text_of : RawLine → List ℕ
text_of line = if line.feed then without_return line.bytes else line.bytes

-- the words of a line of so many words, with at most 65,536 bytes before its end
abbrev pub line_words : ℕ → RawLine → Option (List ℤ)
line_words width line = if nat_le (length line.bytes) 65536 then words_of width (text_of line) else None

-- the well-formed lines, and then the end, or the number of the first line that isn't
pub data Lines : Type 0 where
  End : Lines
  Bad : (n : ℕ) → Lines
  Line : (words : List ℤ) → (rest : Lines) → Lines

-- line n and those after it; the 1,000,001st is bad
abbrev pub onto_lines : ℕ → Option (List ℤ) → Lines → Lines
onto_lines n None rest = Bad n
onto_lines n (Some ws) rest = if nat_le n 1000000 then Line ws rest else Bad n

abbrev pub lines_from : ℕ → ℕ → List RawLine → Lines
lines_from n width [] = End
lines_from n width (line ∷ lines) = onto_lines n (line_words width line) (lines_from (n + 1) width lines)

-- the lines of an input, counted from 1
abbrev pub lines_of : ℕ → List ℕ → Lines
lines_of width bytes = lines_from 1 width (lines_in bytes)

-- the lines of a front of an input that line feeds end within it
abbrev pub whole_lines_of : ℕ → List ℕ → Lines
whole_lines_of width bytes = lines_from 1 width (fed_lines (lines_in bytes))
