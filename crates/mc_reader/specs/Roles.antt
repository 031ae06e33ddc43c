-- What signs are in an expression.
use Rattle.std.specs.Prelude.{Bool, true, false}
use Rattle.mars_base.specs.declared.word.BinOp.TheVariants as B
use Rattle.mars_base.specs.declared.word.UnOp.TheVariants as N
use Rattle.mc_tree.specs.declared.token.Sign.{Sign}
use Rattle.mc_tree.specs.declared.token.Sign.TheVariants as S
pub use Rattle.mc_tree.specs.Operators.{level}
pub use Rattle.mc_tree.specs.Expression.{token_at as tok}
pub use Rattle.mc_reader.specs.declared.role.Lead.{Lead}
pub use Rattle.mc_reader.specs.declared.role.Lead.TheVariants.{Opens as opens, Unary as unary, Other as other}
pub use Rattle.mc_reader.specs.declared.role.Trail.{Trail}
pub use Rattle.mc_reader.specs.declared.role.Trail.TheVariants.{Binary as binary, Closes as closes, Indexes as indexes, ClosesAt as closes_at, Ends as ends, Comma as comma, Other as other_trail}

-- where an operand begins
abbrev pub lead : Sign → Lead
lead S.OpenParen = opens
lead S.Minus = unary N.Neg
lead S.Exclamation = unary N.Not
lead S.Tilde = unary N.Inv
lead s = other

-- where an operand has ended
abbrev pub trail : Sign → Trail
trail S.OrOr = binary B.Or
trail S.AndAnd = binary B.And
trail S.Bar = binary B.BitOr
trail S.Caret = binary B.BitXor
trail S.Ampersand = binary B.BitAnd
trail S.EqualEqual = binary B.Eq
trail S.NotEqual = binary B.Ne
trail S.Less = binary B.Lt
trail S.LessEqual = binary B.Le
trail S.Greater = binary B.Gt
trail S.GreaterEqual = binary B.Ge
trail S.ShiftLeft = binary B.Shl
trail S.ShiftRight = binary B.Shr
trail S.Plus = binary B.Add
trail S.Minus = binary B.Sub
trail S.Star = binary B.Mul
trail S.Slash = binary B.Div
trail S.Percent = binary B.Rem
trail S.CloseParen = closes
trail S.OpenBracket = indexes
trail S.CloseBracket = closes_at
trail S.Semicolon = ends
trail S.Comma = comma
trail s = other_trail

-- what may follow a whole expression
abbrev pub stops : Trail → Bool
stops closes = true
stops closes_at = true
stops ends = true
stops comma = true
stops t = false
