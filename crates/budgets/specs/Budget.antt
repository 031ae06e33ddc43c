-- Budgets in words.
use Rattle.std.specs.Prelude.{ℕ, nat_le, ◌&&◌, if◌then◌else◌, List, length, Option, None, Some}
use Rattle.lines.specs.Grammar.{◌>>=◌, number_after}

-- a number from 1 to 10,000,000
abbrev pub in_limits : ℕ → Option ℕ
in_limits n = if nat_le 1 n && nat_le n 10000000 then Some n else None

-- the number that digits are, where it is in the limits
abbrev pub number_in : List ℕ → Option ℕ
number_in digits = number_after 0 digits >>= in_limits

-- 1 to 8 digits
abbrev pub budget_of : List ℕ → Option ℕ
budget_of word = if nat_le 1 (length word) && nat_le (length word) 8 then number_in word else None
