-- Words of the scanner's contracts.
use Rattle.std.specs.Prelude.{◌≡◌, ◌≢◌, ℕ, suc, ◌<◌, List, length, ◌==◌, slice_index, Bool, false, ◌&&◌}
use Rattle.std.specs.Char.{is_ascii_digit}
use Rattle.mc_tree.specs.Lexeme as lexeme
use Rattle.mc_tree.specs.Lexeme.{is_blank, is_letter}
use Rattle.mc_lex.specs.declared.scan.Lexeme.{Lexeme}
use Rattle.mc_lex.specs.declared.scan.Lexeme.TheVariants.{Gap, Token, Malformed}

-- the lexeme without where it lies in memory
abbrev pub plain : Lexeme → lexeme.Lexeme
plain Gap = lexeme.Gap
plain (Token kind) = lexeme.Spelled kind
plain Malformed = lexeme.Malformed

-- `*/` stands at i
abbrev pub closes : List ℕ → ℕ → Bool
closes bytes i = (slice_index bytes i == 42) && (slice_index bytes (suc i) == 47)

-- a byte that begins no blank, number or word
abbrev pub IsOther : ℕ → Type 0
IsOther b = (is_blank b ≡ false) × (is_ascii_digit b ≡ false) × (is_letter b ≡ false)

-- neither `//` nor `/*` stands at the front
abbrev pub BeginsNoComment : List ℕ → Type 0
BeginsNoComment rest = 1 < length rest → slice_index rest 0 ≡ 47 → (slice_index rest 1 ≢ 47) × (slice_index rest 1 ≢ 42)
