-- What a line reader has still to read, and what one call does.
use Rattle.std.specs.Prelude.{◌≡◌, ℕ, ◌+◌, Bool, true, false, List, length, take, Option, Some, ℤ}
use Rattle.std.specs.Option.{option_map}
use Rattle.std.specs.Io.KnownBytes.{prepend_known}
use Rattle.lines.specs.Found.{HoldsFeed, NoFeedBelow}
use Rattle.lines.specs.Lines.{Lines, RawLine, lines_from, lines_in, line_words, whole_bytes}
use Rattle.lines.specs.declared.reader.LineReader.{LineReader}

-- the bytes that were taken and not yet used
abbrev pub kept_of : LineReader → List ℕ
kept_of r = r.window

-- how many lines were read
abbrev pub count_of : LineReader → ℕ
count_of r = r.count

-- the source was found at its end
abbrev pub is_over : LineReader → Bool
is_over r = r.ended

-- the lines of so many words that are left, where the source tells its bytes
abbrev pub lines_left : LineReader → Option (List ℕ) → ℕ → Option Lines
lines_left r left width = option_map (λ bytes. lines_from (count_of r + 1) width (lines_in bytes)) (prepend_known (kept_of r) left)

-- one line was read: its bytes are used up, and if no line feed ends it the source is at its end
pub record ReadsLine (r s : LineReader) (old left : Option (List ℕ)) (width : ℕ) (words : List ℤ) : Type 0 where
  pub began : is_over r ≡ false
  pub line : RawLine
  pub bytes : prepend_known (kept_of r) old ≡ prepend_known (whole_bytes line) (prepend_known (kept_of s) left)
  pub single : NoFeedBelow (length line.bytes) line.bytes
  pub read : line_words width line ≡ Some words
  pub more : line.feed ≡ true → is_over s ≡ false
  pub last : line.feed ≡ false → is_over s ≡ true

-- a read failed: no whole line was kept or is kept now, nothing that was taken is lost, and no line was counted
pub record StillHolds (r s : LineReader) (old left : Option (List ℕ)) : Type 0 where
  pub began : is_over r ≡ false
  pub before : HoldsFeed (kept_of r) → ⊥
  pub bytes : prepend_known (kept_of s) left ≡ prepend_known (kept_of r) old
  pub front : take (length (kept_of r)) (kept_of s) ≡ kept_of r
  pub now : HoldsFeed (kept_of s) → ⊥
  pub count : count_of s ≡ count_of r
  pub going : is_over s ≡ false
