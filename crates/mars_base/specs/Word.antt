-- The word of each operator: ISO C's operators on 32-bit two's complement, with sums, differences and
-- products that wrap, shifts by the low five bits, and a quotient for the least word by -1.
use Rattle.std.specs.Prelude.{ℕ, zero, suc, ◌%◌, Option, None, Some, ℤ, pos, negsuc, Bool, true, false, ◌&&◌, ◌||◌, not, int_lt, int_le, int_rem, if◌then◌else◌}
use Rattle.std.specs.Ordering.{int_eq}
use Rattle.std.specs.Int.{w32, cast_unsigned, int_wrapping_add, int_wrapping_sub, int_wrapping_mul, int_wrapping_div, int_wrapping_neg, int_bit_and, int_bit_or, int_bit_xor, int_bit_not, int_shl, int_shr}
use Rattle.mars_base.specs.declared.word.BinOp.{BinOp}
use Rattle.mars_base.specs.declared.word.BinOp.TheVariants.{Or, And, BitOr, BitXor, BitAnd, Eq, Ne, Lt, Le, Gt, Ge, Shl, Shr, Add, Sub, Mul, Div, Rem}
use Rattle.mars_base.specs.declared.word.UnOp.{UnOp}
use Rattle.mars_base.specs.declared.word.UnOp.TheVariants.{Neg, Not, Inv}

-- the word of a comparison
abbrev pub truth_of : Bool → ℤ
truth_of true = pos 1
truth_of false = pos 0

-- the word is 0
abbrev pub is_zero : ℤ → Bool
is_zero (pos zero) = true
is_zero (pos (suc n)) = false
is_zero (negsuc n) = false

-- the low five bits of a word
abbrev pub amount_of : ℤ → ℕ
amount_of b = cast_unsigned w32 b % 32

-- the word, unless the divisor is 0
abbrev pub divided : ℤ → ℤ → Option ℤ
divided divisor word = if is_zero divisor then None else Some word

abbrev pub binary_of : BinOp → ℤ → ℤ → Option ℤ
binary_of Or a b = Some (truth_of (not (is_zero a) || not (is_zero b)))
binary_of And a b = Some (truth_of (not (is_zero a) && not (is_zero b)))
binary_of BitOr a b = Some (int_bit_or w32 a b)
binary_of BitXor a b = Some (int_bit_xor w32 a b)
binary_of BitAnd a b = Some (int_bit_and w32 a b)
binary_of Eq a b = Some (truth_of (int_eq a b))
binary_of Ne a b = Some (truth_of (not (int_eq a b)))
binary_of Lt a b = Some (truth_of (int_lt a b))
binary_of Le a b = Some (truth_of (int_le a b))
binary_of Gt a b = Some (truth_of (int_lt b a))
binary_of Ge a b = Some (truth_of (int_le b a))
binary_of Shl a b = Some (int_shl w32 a (amount_of b))
binary_of Shr a b = Some (int_shr a (amount_of b))
binary_of Add a b = Some (int_wrapping_add w32 a b)
binary_of Sub a b = Some (int_wrapping_sub w32 a b)
binary_of Mul a b = Some (int_wrapping_mul w32 a b)
binary_of Div a b = divided b (int_wrapping_div w32 a b)
binary_of Rem a b = divided b (int_rem a b)

abbrev pub unary_of : UnOp → ℤ → ℤ
unary_of Neg a = int_wrapping_neg w32 a
unary_of Not a = truth_of (is_zero a)
unary_of Inv a = int_bit_not w32 a
