-- Words in places, and counts: what the language and the machine share.
use Rattle.std.specs.Prelude.{ℕ, ◌+◌, nat_lt, ℤ, pos, negsuc, List, Option, None, Some, if◌then◌else◌, slice_get}

abbrev pub or_zero : Option ℤ → ℤ
or_zero None = pos 0
or_zero (Some w) = w

-- the word at a place
abbrev pub word_at : List ℤ → ℕ → ℤ
word_at words p = or_zero (slice_get words p)

-- the place of the element that an index names, where 0 <= index < width
abbrev pub place_of : ℕ → ℕ → ℤ → Option ℕ
place_of p width (pos i) = if nat_lt i width then Some (p + i) else None
place_of p width (negsuc i) = None

-- one more, where that is at most the bound
abbrev pub count_up : ℕ → ℕ → Option ℕ
count_up n bound = if nat_lt n bound then Some (n + 1) else None
