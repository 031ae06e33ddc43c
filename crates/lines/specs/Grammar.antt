-- The grammar of an input line: words between blanks. It is this project's own.
use Rattle.std.specs.Prelude.{ℕ, ◌+◌, ◌-◌, ◌*◌, ◌^◌, ◌==◌, nat_lt, nat_le, Bool, ◌&&◌, ◌||◌, if◌then◌else◌, List, [], ◌∷◌, length, Option, Some, None, ℤ, pos, neg_ℤ}
use Rattle.std.specs.List.{onto_first}

infixl 10 ◌>>=◌
abbrev pub ◌>>=◌ : {A B : Type 0} → Option A → (A → Option B) → Option B
None >>= f = None
(Some x) >>= f = f x

-- a space or a tab
abbrev pub is_blank : ℕ → Bool
is_blank b = b == 32 || b == 9

-- the parts of a text between blanks; a part with nothing in it lies between two blanks
abbrev pub parts : List ℕ → List (List ℕ)
parts [] = []
parts (b ∷ bs) = if is_blank b then [] ∷ parts bs else onto_first b (parts bs)

-- the number that digits are, after a number
abbrev pub number_after : ℕ → List ℕ → Option ℕ
number_after n [] = Some n
number_after n (d ∷ ds) = if nat_le 48 d && nat_le d 57 then number_after (n * 10 + (d - 48)) ds else None

-- 1 to 10 digits
abbrev pub number_of : List ℕ → Option ℕ
number_of ds = if nat_le 1 (length ds) && nat_le (length ds) 10 then number_after 0 ds else None

-- the word of a number, and of one behind a minus, where it is in a word's range
abbrev pub word_below : ℕ → Option ℤ
word_below n = if nat_lt n (2 ^ 31) then Some (pos n) else None

abbrev pub minus_word : ℕ → Option ℤ
minus_word n = if nat_le n (2 ^ 31) then Some (neg_ℤ (pos n)) else None

-- digits, and an optional minus and digits
abbrev pub unsigned_word : List ℕ → Option ℤ
unsigned_word ds = number_of ds >>= word_below

abbrev pub negative_word : List ℕ → Option ℤ
negative_word ds = number_of ds >>= minus_word

abbrev pub word_of : List ℕ → Option ℤ
word_of [] = None
word_of (b ∷ ds) = if b == 45 then negative_word ds else unsigned_word (b ∷ ds)

-- a word before those of the parts behind it
abbrev pub onto_words : Option (List ℤ) → ℤ → Option (List ℤ)
onto_words more w = more >>= λ ws. Some (w ∷ ws)

abbrev pub words_in : List (List ℕ) → Option (List ℤ)
words_in [] = Some []
words_in ([] ∷ more) = words_in more
words_in ((b ∷ bs) ∷ more) = word_of (b ∷ bs) >>= onto_words (words_in more)

abbrev pub of_width : ℕ → List ℤ → Option (List ℤ)
of_width width ws = if length ws == width then Some ws else None

-- the words of a text that has so many
abbrev pub words_of : ℕ → List ℕ → Option (List ℤ)
words_of width text = words_in (parts text) >>= of_width width
