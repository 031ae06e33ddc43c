-- The tokens of a text, and the offset where it has no more. The longest lexeme is taken each time.
-- The longest one as in ISO C (ISO/IEC 9899, 6.4).
use Rattle.std.specs.Prelude.{◌≡◌, ℕ, ◌+◌, ◌<◌, ◌≤◌, List, [], ◌∷◌, length, take, drop, slice_range, Some, None, IsTrue}
use Rattle.std.specs.List.{list_all}
use Rattle.mars_base.specs.declared.text.Span.{Span}
use Rattle.mc_tree.specs.declared.token.Token.{Token}
use Rattle.mc_tree.specs.declared.token.TokenKind.{TokenKind}
use Rattle.mc_tree.specs.Lexeme.{Lexeme, Gap, Spelled, Malformed, lexeme_of, is_blank}

-- the longest lexeme at the front of the rest: it has n bytes, and nothing longer is a lexeme
pub record Longest (rest : List ℕ) (n : ℕ) (lexeme : Lexeme) : Type 0 where
  pub some : 0 < n
  pub within : n ≤ length rest
  pub here : lexeme_of (take n rest) ≡ Some lexeme
  pub longest : (m : ℕ) → n < m → m ≤ length rest → lexeme_of (take m rest) ≡ None

-- no front of the rest is a lexeme
abbrev pub NothingBegins : List ℕ → Type 0
NothingBegins rest = (m : ℕ) → 0 < m → m ≤ length rest → lexeme_of (take m rest) ≡ None

abbrev pub token : TokenKind → ℕ → ℕ → Token
token kind from to = record { kind = kind; span = record { from = from; to = to } }

-- from the offset at on, the text is these tokens, with blanks and comments before, between and after them
pub data TokensFrom (bytes : List ℕ) : (at : ℕ) → List Token → Type 0 where
  ends : {at : ℕ} → at ≡ length bytes → TokensFrom bytes at []
  passes : {at : ℕ} {ts : List Token} (n : ℕ) → Longest (drop at bytes) n Gap → TokensFrom bytes (at + n) ts → TokensFrom bytes at ts
  takes : {at : ℕ} {ts : List Token} (n : ℕ) (kind : TokenKind) → Longest (drop at bytes) n (Spelled kind) → TokensFrom bytes (at + n) ts
      → TokensFrom bytes at (token kind at (at + n) ∷ ts)

-- from the offset at on, there are tokens, blanks and comments up to the offset o, where none of these begins
pub data BadFrom (bytes : List ℕ) : (at : ℕ) → ℕ → Type 0 where
  nothing : {at : ℕ} → at < length bytes → NothingBegins (drop at bytes) → BadFrom bytes at at
  malformed : {at : ℕ} (n : ℕ) → Longest (drop at bytes) n Malformed → BadFrom bytes at at
  after_gap : {at o : ℕ} (n : ℕ) → Longest (drop at bytes) n Gap → BadFrom bytes (at + n) o → BadFrom bytes at o
  after_token : {at o : ℕ} (n : ℕ) (kind : TokenKind) → Longest (drop at bytes) n (Spelled kind) → BadFrom bytes (at + n) o → BadFrom bytes at o

-- the tokens of the text
abbrev pub IsTokens : List ℕ → List Token → Type 0
IsTokens bytes tokens = TokensFrom bytes 0 tokens

-- the offset of the text's bad byte: no token, blank or comment begins there after those before it
abbrev pub IsBadAt : List ℕ → ℕ → Type 0
IsBadAt bytes offset = BadFrom bytes 0 offset

-- the bytes of a span
abbrev pub text_of : List ℕ → Span → List ℕ
text_of bytes span = slice_range bytes span.from span.to

-- spans in order: they begin at the offset at or later, none is empty, none overlaps the next, and the last ends at the offset end or before
abbrev pub SpansInOrder : ℕ → List Token → ℕ → Type 0
SpansInOrder at [] end = at ≤ end
SpansInOrder at (t ∷ ts) end = (at ≤ t.span.from) × (t.span.from < t.span.to) × SpansInOrder t.span.to ts end

-- from the offset at on, only blanks stand before, between and after the tokens
abbrev pub OnlyBlanksFrom : List ℕ → ℕ → List Token → Type 0
OnlyBlanksFrom bytes at [] = IsTrue (list_all is_blank (drop at bytes))
OnlyBlanksFrom bytes at (t ∷ ts) = IsTrue (list_all is_blank (slice_range bytes at t.span.from)) × OnlyBlanksFrom bytes t.span.to ts

-- the text has no comment: only blanks stand outside its tokens
abbrev pub OnlyBlanksBetween : List ℕ → List Token → Type 0
OnlyBlanksBetween bytes tokens = OnlyBlanksFrom bytes 0 tokens
