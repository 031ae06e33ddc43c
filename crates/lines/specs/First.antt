-- The first line of a text, and its first word, for the bodies that read it in one pass. No public clause cites this.
use Rattle.std.specs.Prelude.{◌≡◌, ℕ, ◌+◌, ◌-◌, ◌<◌, ◌≤◌, ◌==◌, ◌&&◌, Bool, true, false, if◌then◌else◌, List, [], ◌∷◌, length, take, drop, Option, Some, None, MatchOption, ℤ, ◌⊎◌}
use Rattle.lines.specs.Found.{NoFeedBelow, IsFirstFeed}
use Rattle.lines.specs.Grammar.{◌>>=◌, is_blank, parts, word_below, minus_word, number_of, words_in, onto_words, words_of}
use Rattle.lines.specs.Lines.{without_return}

-- whether a line feed begins a text
abbrev pub at_feed : List ℕ → Bool
at_feed [] = false
at_feed (b ∷ bs) = b == 10

-- the bytes of the first line, without the carriage return directly before its line feed
abbrev pub line_text : List ℕ → List ℕ
line_text [] = []
line_text (b ∷ bs) = if b == 10 then [] else if b == 13 && at_feed bs then [] else b ∷ line_text bs

-- the bytes before the first blank
abbrev pub first_part : List ℕ → List ℕ
first_part [] = []
first_part (b ∷ bs) = if is_blank b then [] else b ∷ first_part bs

-- the bytes behind the first blank
abbrev pub after_part : List ℕ → List ℕ
after_part [] = []
after_part (b ∷ bs) = if is_blank b then bs else after_part bs

-- the word of a number behind a minus or with none, and of such digits
abbrev pub in_range : Bool → ℕ → Option ℤ
in_range true = minus_word
in_range false = word_below

abbrev pub reading_of : Bool → List ℕ → Option ℤ
reading_of negative ds = number_of ds >>= in_range negative

-- the first part is what a reading gives, and behind the place in the answer stand the words behind it; or it is none
abbrev pub BeginsWord : {W : Type 0} → (List ℕ → Option W) → List ℕ → (ℕ → List ℕ) → Option (W × ℕ) → Type 0
BeginsWord reading text behind result = MatchOption result
    (reading (first_part text) ≡ None)
    (λ r. (reading (first_part text) ≡ Some r.0) × (words_in (parts (behind r.1)) ≡ words_in (parts (after_part text))))

-- the first word is the answer's, and behind its place stand the others; or there is none, or no word
abbrev pub ReadsWord : List ℕ → (ℕ → List ℕ) → Option (ℤ × ℕ) → Type 0
ReadsWord text behind result = MatchOption result
    ((text ≡ []) ⊎ (words_in (parts text) ≡ None))
    (λ r. words_in (parts text) ≡ onto_words (words_in (parts (behind r.1))) r.0)

-- the first line has so many bytes with its line feed; or there is none, and it has all
abbrev pub EndsLine : List ℕ → ℕ → Type 0
EndsLine text taken = ((0 < taken) × IsFirstFeed (taken - 1) text) ⊎ ((taken ≡ length text) × NoFeedBelow taken text)

-- The first line has these words, and is used up and counted. A line feed ends it, or where it is the last the text does.
abbrev pub UsesUp : List ℕ → List ℕ → ℕ → List ℤ → Bool → Type 0
UsesUp kept rest width words false = (place : ℕ) × IsFirstFeed place kept × (place ≤ 65536) × (rest ≡ drop (place + 1) kept) × (words_of width (without_return (take place kept)) ≡ Some words)
UsesUp kept rest width words true = (rest ≡ drop (length kept) kept) × (words_of width kept ≡ Some words)

pub record PassesLine (kept rest : List ℕ) (count counted width : ℕ) (words : List ℤ) (last : Bool) : Type 0 where
  pub few : count < 1000000
  pub one_more : counted ≡ count + 1
  pub used : UsesUp kept rest width words last

-- the first line is too long, or hasn't so many words, or is one too many
abbrev pub RefusesLine : List ℕ → ℕ → ℕ → Bool → Type 0
RefusesLine kept width n false = (place : ℕ) × IsFirstFeed place kept × ((65536 < place) ⊎ ((words_of width (without_return (take place kept)) ≡ None) ⊎ (1000000 < n)))
RefusesLine kept width n true = (words_of width kept ≡ None) ⊎ (1000000 < n)
