-- The operators of expressions and their signs.
-- This project's own language; the levels are those of C without the comma, assignment and the conditional operator.
use Rattle.std.specs.Prelude.{ℕ, Option, Some, None}
use Rattle.mars_base.specs.declared.word.BinOp.{BinOp}
use Rattle.mars_base.specs.declared.word.BinOp.TheVariants as B
use Rattle.mars_base.specs.declared.word.UnOp.{UnOp}
use Rattle.mars_base.specs.declared.word.UnOp.TheVariants as U
use Rattle.mc_tree.specs.declared.token.Sign.{Sign}
use Rattle.mc_tree.specs.declared.token.Sign.TheVariants as S

-- from the weakest to the strongest
abbrev pub level : BinOp → ℕ
level B.Or = 0
level B.And = 1
level B.BitOr = 2
level B.BitXor = 3
level B.BitAnd = 4
level B.Eq = 5
level B.Ne = 5
level B.Lt = 6
level B.Le = 6
level B.Gt = 6
level B.Ge = 6
level B.Shl = 7
level B.Shr = 7
level B.Add = 8
level B.Sub = 8
level B.Mul = 9
level B.Div = 9
level B.Rem = 9

-- the operator that a sign is between two operands
abbrev pub binary_of : Sign → Option BinOp
binary_of S.OrOr = Some B.Or
binary_of S.AndAnd = Some B.And
binary_of S.Bar = Some B.BitOr
binary_of S.Caret = Some B.BitXor
binary_of S.Ampersand = Some B.BitAnd
binary_of S.EqualEqual = Some B.Eq
binary_of S.NotEqual = Some B.Ne
binary_of S.Less = Some B.Lt
binary_of S.LessEqual = Some B.Le
binary_of S.Greater = Some B.Gt
binary_of S.GreaterEqual = Some B.Ge
binary_of S.ShiftLeft = Some B.Shl
binary_of S.ShiftRight = Some B.Shr
binary_of S.Plus = Some B.Add
binary_of S.Minus = Some B.Sub
binary_of S.Star = Some B.Mul
binary_of S.Slash = Some B.Div
binary_of S.Percent = Some B.Rem
binary_of s = None

-- the operator that a sign is before an operand
abbrev pub unary_of : Sign → Option UnOp
unary_of S.Minus = Some U.Neg
unary_of S.Exclamation = Some U.Not
unary_of S.Tilde = Some U.Inv
unary_of s = None
