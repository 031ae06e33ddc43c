-- What tokens spell what expression.
-- This project's own language.
use Rattle.std.specs.Prelude.{◌≡◌, ℕ, suc, ◌<◌, ◌≤◌, List, ◌∷◌, Some}
use Rattle.mars_base.specs.declared.word.BinOp.{BinOp}
use Rattle.mars_base.specs.declared.word.UnOp.{UnOp}
use Rattle.mars_base.specs.declared.text.Span.{Span}
use Rattle.mc_tree.specs.declared.raw.Name.{Name}
use Rattle.mc_tree.specs.declared.token.Sign.{Sign}
use Rattle.mc_tree.specs.declared.token.Sign.TheVariants as S
use Rattle.mc_tree.specs.declared.token.Token.{Token}
use Rattle.mc_tree.specs.declared.token.TokenKind.{TokenKind}
use Rattle.mc_tree.specs.declared.token.TokenKind.TheVariants as T
use Rattle.mc_tree.specs.Tokens.{text_of}
use Rattle.mc_tree.specs.Operators.{level, unary_of, binary_of}
use Rattle.mc_tree.specs.Raw.{Ex, Num, Cell, At, Un, Bin, span_of, join, ops}

-- a token that stands at a span
abbrev pub token_at : TokenKind → Span → Token
token_at k s = record { kind = k; span = s }

-- a name that stands at a span
abbrev pub name_at : List ℕ → Span → Name
name_at bytes s = record { text = text_of bytes s; span = s }

-- a number that stands at a span
abbrev pub number_at : ℕ → Span → Ex
number_at v s = Num (record { value = v; span = s })

-- The tokens ts are those of the expression e and then rest. It stands inside o open brackets and parentheses, of which 63 may be open at once, and outside of its own
-- parentheses its operators are of level k or above. Binary operators group to the left, so a left operand may have operators of the same level and a right one has
-- stronger ones. A unary operator's operand is of level 10, above all binary ones. A parenthesised expression is the one inside.
pub data IsExpressionIn (bytes : List ℕ) : (o k : ℕ) (ts : List Token) (e : Ex) (rest : List Token) → Type 0 where
  number : {o k : ℕ} {rest : List Token} (v : ℕ) (s : Span) → IsExpressionIn bytes o k (token_at (T.Number v) s ∷ rest) (number_at v s) rest
  cell : {o k : ℕ} {rest : List Token} (s : Span) → IsExpressionIn bytes o k (token_at T.Name s ∷ rest) (Cell (name_at bytes s)) rest
  at : {o k : ℕ} {ts rest : List Token} {i : Ex} (s p q : Span) → o < 63
      → IsExpressionIn bytes (suc o) 0 ts i (token_at (T.Sign S.CloseBracket) q ∷ rest) → IsExpressionIn bytes o k (token_at T.Name s ∷ token_at (T.Sign S.OpenBracket) p ∷ ts) (At (name_at bytes s) i (join s q)) rest
  parens : {o k : ℕ} {ts rest : List Token} {e : Ex} (p q : Span) → o < 63
      → IsExpressionIn bytes (suc o) 0 ts e (token_at (T.Sign S.CloseParen) q ∷ rest) → IsExpressionIn bytes o k (token_at (T.Sign S.OpenParen) p ∷ ts) e rest
  un : {o k : ℕ} {ts rest : List Token} {e : Ex} (s : Sign) (p : Span) (op : UnOp) → unary_of s ≡ Some op
      → IsExpressionIn bytes o 10 ts e rest → IsExpressionIn bytes o k (token_at (T.Sign s) p ∷ ts) (Un op e (join p (span_of e))) rest
  bin : {o k : ℕ} {ts mid rest : List Token} {l r : Ex} (s : Sign) (p : Span) (op : BinOp) → binary_of s ≡ Some op → k ≤ level op
      → IsExpressionIn bytes o (level op) ts l (token_at (T.Sign s) p ∷ mid) → IsExpressionIn bytes o (suc (level op)) mid r rest → IsExpressionIn bytes o k ts (Bin op l r (join (span_of l) (span_of r))) rest

-- an expression of its own: none of its brackets is open around it, and it has at most 255 operators, those of its indexes included
pub record IsExpression (bytes : List ℕ) (ts : List Token) (e : Ex) (rest : List Token) : Type 0 where
  pub spells : IsExpressionIn bytes 0 0 ts e rest
  pub few : ops e ≤ 255
