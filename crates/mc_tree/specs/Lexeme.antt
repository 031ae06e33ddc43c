-- What bytes spell, taken by themselves. The language is this project's own.
use Rattle.std.specs.Prelude.{ℕ, ◌+◌, ◌-◌, ◌*◌, ◌^◌, List, [], ◌∷◌, ◌==◌, length, drop, min, slice_index, Bool, true, false, not, ◌&&◌, ◌||◌, nat_eq, nat_lt, Option, Some, None, if◌then◌else◌, codes}
use Rattle.std.specs.List.{list_all, fold}
use Rattle.std.specs.Char.{is_ascii_digit, is_ascii_alphabetic, is_ascii_alphanumeric}
use Rattle.std.specs.Str.{bytes_eq}
use Rattle.mc_tree.specs.declared.token.Key.{Key}
use Rattle.mc_tree.specs.declared.token.Key.TheVariants as K
use Rattle.mc_tree.specs.declared.token.Sign.{Sign}
use Rattle.mc_tree.specs.declared.token.Sign.TheVariants as S
use Rattle.mc_tree.specs.declared.token.TokenKind.{TokenKind}
use Rattle.mc_tree.specs.declared.token.TokenKind.TheVariants as T

-- What bytes can be: a blank stretch or a comment; a token; or what begins like a number or a comment
-- and is none, as a zero before a digit and a `/*` that isn't closed.
pub data Lexeme : Type 0 where
  Gap : Lexeme
  Spelled : (kind : TokenKind) → Lexeme
  Malformed : Lexeme

-- space, tab, line feed and carriage return
abbrev pub is_blank : ℕ → Bool
is_blank b = (b == 32) || (b == 9) || (b == 10) || (b == 13)

-- what a name begins with, and what it goes on with
abbrev pub is_letter : ℕ → Bool
is_letter b = is_ascii_alphabetic b || (b == 95)

abbrev pub is_word_byte : ℕ → Bool
is_word_byte b = is_ascii_alphanumeric b || (b == 95)

-- every byte but the line feed, which ends a line
abbrev pub is_in_line : ℕ → Bool
is_in_line b = not (b == 10)

-- how each keyword is spelled
abbrev pub keywords : List (List ℕ × Key)
keywords =
    (codes "task", K.Task) ∷ (codes "in", K.In) ∷ (codes "out", K.Out) ∷ (codes "state", K.State) ∷ (codes "func", K.Func)
    ∷ (codes "return", K.Return) ∷ (codes "body", K.Body) ∷ (codes "var", K.Var) ∷ (codes "if", K.If) ∷ (codes "else", K.Else)
    ∷ (codes "while", K.While) ∷ (codes "max", K.Max) ∷ (codes "scope", K.Scope) ∷ (codes "mark", K.Mark) ∷ (codes "sequence", K.Sequence) ∷ []

-- how each sign is spelled
abbrev pub signs : List (List ℕ × Sign)
signs =
    (codes ";", S.Semicolon) ∷ (codes ",", S.Comma) ∷ (codes "(", S.OpenParen) ∷ (codes ")", S.CloseParen) ∷ (codes "[", S.OpenBracket)
    ∷ (codes "]", S.CloseBracket) ∷ (codes "{", S.OpenBrace) ∷ (codes "}", S.CloseBrace) ∷ (codes "=", S.Assign) ∷ (codes "||", S.OrOr)
    ∷ (codes "&&", S.AndAnd) ∷ (codes "|", S.Bar) ∷ (codes "^", S.Caret) ∷ (codes "&", S.Ampersand) ∷ (codes "==", S.EqualEqual)
    ∷ (codes "!=", S.NotEqual) ∷ (codes "<", S.Less) ∷ (codes "<=", S.LessEqual) ∷ (codes ">", S.Greater) ∷ (codes ">=", S.GreaterEqual)
    ∷ (codes "<<", S.ShiftLeft) ∷ (codes ">>", S.ShiftRight) ∷ (codes "+", S.Plus) ∷ (codes "-", S.Minus) ∷ (codes "*", S.Star)
    ∷ (codes "/", S.Slash) ∷ (codes "%", S.Percent) ∷ (codes "!", S.Exclamation) ∷ (codes "~", S.Tilde) ∷ []

-- what a table has for a spelling
abbrev pub in_table : {X : Type 0} → List (List ℕ × X) → List ℕ → Option X
in_table [] w = None
in_table (row ∷ rows) w = if bytes_eq w row.0 then Some row.1 else in_table rows w

-- a keyword, and else a name
abbrev pub key_or_name : Option Key → TokenKind
key_or_name None = T.Name
key_or_name (Some key) = T.Key key

unfoldable pub word_kind : List ℕ → TokenKind
word_kind w = key_or_name (in_table keywords w)

abbrev pub sign_or_none : Option Sign → Option Lexeme
sign_or_none None = None
sign_or_none (Some sign) = Some (Spelled (T.Sign sign))

-- the number that decimal digits write
abbrev pub value : List ℕ → ℕ
value digits = fold (λ n d. n * 10 + (d - 48)) 0 digits

-- a number is kept up to 2^32; a zero before a digit begins none
abbrev pub number_of : List ℕ → Lexeme
number_of digits = if (slice_index digits 0 == 48) && nat_lt 1 (length digits) then Malformed else Spelled (T.Number (min (value digits) (2 ^ 32)))

-- the bytes after `/*`: a comment where the first `*/` ends them, and not closed where they have none
unfoldable pub comment_of : List ℕ → Option Lexeme
comment_of [] = Some Malformed
comment_of (b ∷ w) = if (b == 42) && (slice_index w 0 == 47) then (if nat_eq (length w) 1 then Some Gap else None) else comment_of w

abbrev pub when : Bool → Lexeme → Option Lexeme
when true s = Some s
when false s = None

-- What the bytes are, if they are anything. The first byte tells, and at a slash the second.
unfoldable pub lexeme_of : List ℕ → Option Lexeme
lexeme_of w =
    let b = slice_index w 0 in
    let c = slice_index w 1 in
    if is_blank b then when (list_all is_blank w) Gap
    else if is_ascii_digit b then when (list_all is_ascii_digit w) (number_of w)
    else if is_letter b then when (list_all is_word_byte w) (Spelled (word_kind w))
    else if (b == 47) && (c == 47) then when (list_all is_in_line w) Gap
    else if (b == 47) && (c == 42) then comment_of (drop 2 w)
    else sign_or_none (in_table signs w)
