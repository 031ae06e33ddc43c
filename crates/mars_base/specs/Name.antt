-- The form of names in a project, as a relation and as a test.
use Rattle.std.specs.Prelude.{◌≡◌, ℕ, ◌≤◌, ◌⊎◌, Bool, false, ◌&&◌, ◌||◌, ◌==◌, nat_le, List, [], ◌∷◌, length, All}
use Rattle.std.specs.List.{list_all}
use Rattle.std.specs.Int.{is_in_range}

-- an ASCII letter or an underscore
abbrev pub IsNameStart : ℕ → Type 0
IsNameStart b = ((65 ≤ b) × (b ≤ 90)) ⊎ (((97 ≤ b) × (b ≤ 122)) ⊎ (b ≡ 95))

-- one of those or an ASCII digit
abbrev pub IsNameByte : ℕ → Type 0
IsNameByte b = IsNameStart b ⊎ ((48 ≤ b) × (b ≤ 57))

-- it begins with a letter or an underscore
abbrev pub BeginsName : List ℕ → Type 0
BeginsName [] = ⊥
BeginsName (b ∷ _) = IsNameStart b

-- 1 to 31 bytes: a letter or an underscore, and then letters, digits and underscores
pub record IsName (name : List ℕ) : Type 0 where
  pub begins : BeginsName name
  pub bytes : All IsNameByte name
  pub short : length name ≤ 31

-- the same as a test, for formats that compute
abbrev pub is_name_start : ℕ → Bool
is_name_start b = is_in_range 65 90 b || is_in_range 97 122 b || b == 95

abbrev pub is_name_byte : ℕ → Bool
is_name_byte b = is_name_start b || is_in_range 48 57 b

abbrev pub begins_name : List ℕ → Bool
begins_name [] = false
begins_name (b ∷ _) = is_name_start b

unfoldable pub is_name : List ℕ → Bool
is_name name = begins_name name && list_all is_name_byte name && nat_le (length name) 31
