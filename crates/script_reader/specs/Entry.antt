-- What a line of a script says, by its words. The grammar is this project's own.
use Rattle.std.specs.Prelude.{ℕ, ◌==◌, nat_le, nat_lt, Bool, ◌&&◌, if◌then◌else◌, List, [], ◌∷◌, codes, Option, Some, None}
use Rattle.std.specs.Str.{bytes_eq}
use Rattle.mars_base.specs.declared.shape.Side.{Side}
use Rattle.mars_base.specs.declared.shape.Side.TheVariants.{A, B}
use Rattle.script.specs.declared.script.Silence.{Silence}
use Rattle.script.specs.declared.script.Pace.{Pace}
use Rattle.lines.specs.Grammar.{◌>>=◌, number_of}
use Rattle.lines.specs.Lines.{RawLine, text_of}
use Rattle.script_reader.specs.Words.{words_between}

-- a silent replica comes back in a cycle
pub record Restart : Type 0 where
  pub unit : ℕ
  pub side : Side
  pub cycle : ℕ

-- a line says nothing, or it names a silence, a pace or a restart
pub data Entry : Type 0 where
  Nothing : Entry
  Silent : Silence → Entry
  Paced : Pace → Entry
  Restarted : Restart → Entry

-- a number from a least one on and below another
abbrev pub between : (low past n : ℕ) → Option ℕ
between low past n = if nat_le low n && nat_lt n past then Some n else None

-- 1 to 10 digits of such a number
abbrev pub number_in : (low past : ℕ) → List ℕ → Option ℕ
number_in low past word = number_of word >>= between low past

-- `u` and one digit, the number of a unit
abbrev pub unit_of : (units : ℕ) → List ℕ → Option ℕ
unit_of units [] = None
unit_of units (letter ∷ digits) = if letter == 117 then one_digit digits else None
  where
    one_digit : List ℕ → Option ℕ
    one_digit [] = None
    one_digit (digit ∷ []) = number_in 0 units (digit ∷ [])
    one_digit (digit ∷ more ∷ others) = None

-- `A` or `B`
abbrev pub side_of : List ℕ → Option Side
side_of [] = None
side_of (letter ∷ []) = if letter == 65 then Some A else if letter == 66 then Some B else None
side_of (letter ∷ more ∷ others) = None

-- a word, read in some way, and then the words behind it
abbrev pub takes : {W : Type 0} → (List ℕ → Option W) → (W → List (List ℕ) → Option Entry) → List (List ℕ) → Option Entry
takes reading next [] = None
takes reading next (word ∷ words) = reading word >>= λ w. next w words

-- nothing stands behind
abbrev pub ends : Entry → List (List ℕ) → Option Entry
ends entry [] = Some entry
ends entry (word ∷ words) = None

module _ (units : ℕ) where
  -- `silence uN R C T`, behind its first word
  abbrev pub silence_of : (ticks : ℕ) → List (List ℕ) → Option Entry
  silence_of ticks = takes (unit_of units) (λ unit. takes side_of (λ side. takes (number_in 0 1000000) (λ cycle. takes (number_in 0 ticks) (λ tick.
      ends (Silent (record { unit = unit; side = side; cycle = cycle; tick = tick }))))))

  -- `pace C uN R n`, behind its first word
  abbrev pub pace_of : List (List ℕ) → Option Entry
  pace_of = takes (number_in 0 1000000) (λ cycle. takes (unit_of units) (λ unit. takes side_of (λ side. takes (number_in 1 65537) (λ count.
      ends (Paced (record { cycle = cycle; unit = unit; side = side; count = count }))))))

  -- `restart uN R C`, behind its first word
  abbrev pub restart_of : List (List ℕ) → Option Entry
  restart_of = takes (unit_of units) (λ unit. takes side_of (λ side. takes (number_in 0 1000000) (λ cycle.
      ends (Restarted (record { unit = unit; side = side; cycle = cycle })))))

module _ (restarts : Bool) (units ticks : ℕ) where
  -- what words say; only where restarts are in the grammar is there a line of them
  abbrev pub entry_of : List (List ℕ) → Option Entry
  entry_of [] = Some Nothing
  entry_of (word ∷ words) = if bytes_eq word (codes "silence") then silence_of units ticks words
      else (if bytes_eq word (codes "pace") then pace_of units words
      else (if restarts && bytes_eq word (codes "restart") then restart_of units words else None))

  -- what a line says; one that begins with `#` says nothing
  abbrev pub text_entry : List ℕ → Option Entry
  text_entry [] = Some Nothing
  text_entry (b ∷ bs) = if b == 35 then Some Nothing else entry_of (words_between (b ∷ bs))

  abbrev pub line_entry : RawLine → Option Entry
  line_entry line = text_entry (text_of line)
