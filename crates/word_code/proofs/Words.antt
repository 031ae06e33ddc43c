-- Operators give words for words.
use Rattle.std.proofs.Common.{◌≡◌, ◌^◌, Bool, true, false, ℤ, Some, None, subst, arith}
use Rattle.std.specs.Prelude.{if◌then◌else◌}
use Rattle.std.specs.Int.{w32}
use Rattle.std.specs.Int.Signed.{mag_shr, mag_rem}
use borrow.Author.Gap.{read_sfits}
use Rattle.mars_base.specs.declared.word.BinOp.{BinOp}
use Rattle.mars_base.specs.declared.word.BinOp.TheVariants.{Or, And, BitOr, BitXor, BitAnd, Eq, Ne, Lt, Le, Gt, Ge, Shl, Shr, Add, Sub, Mul, Div, Rem}
use Rattle.mars_base.specs.declared.word.UnOp.{UnOp}
use Rattle.mars_base.specs.declared.word.UnOp.TheVariants.{Neg, Not, Inv}
use Rattle.mars_base.specs.Word.{truth_of, is_zero, amount_of, binary_of, unary_of}
use Rattle.processor.specs.Results.{IsWord}

truth_word : (b : Bool) → IsWord (truth_of b)
truth_word true = record { sfits = omega arith }
truth_word false = record { sfits = omega arith }

this_word : (u v : ℤ) → Some u ≡ Some v → IsWord u → IsWord v
this_word u v e f = let same : u ≡ v = cc in subst IsWord same f

divided_word : (b : Bool) (u v : ℤ) → (if b then None else Some u) ≡ Some v → IsWord u → IsWord v
divided_word true u v e f = cc
divided_word false u v e f = this_word u v e f

pub binary_word : (op : BinOp) (x y v : ℤ) → IsWord x → IsWord y → binary_of op x y ≡ Some v → IsWord v
binary_word Or x y v f g e = this_word _ v e (truth_word _)
binary_word And x y v f g e = this_word _ v e (truth_word _)
binary_word BitOr x y v f g e = this_word _ v e (read_sfits w32 _)
binary_word BitXor x y v f g e = this_word _ v e (read_sfits w32 _)
binary_word BitAnd x y v f g e = this_word _ v e (read_sfits w32 _)
binary_word Eq x y v f g e = this_word _ v e (truth_word _)
binary_word Ne x y v f g e = this_word _ v e (truth_word _)
binary_word Lt x y v f g e = this_word _ v e (truth_word _)
binary_word Le x y v f g e = this_word _ v e (truth_word _)
binary_word Gt x y v f g e = this_word _ v e (truth_word _)
binary_word Ge x y v f g e = this_word _ v e (truth_word _)
binary_word Shl x y v f g e = this_word _ v e (read_sfits w32 _)
binary_word Shr x y v f g e = this_word _ v e (record { sfits = omega (arith, mag_shr x (2 ^ amount_of y), f.sfits) })
binary_word Add x y v f g e = this_word _ v e (read_sfits w32 _)
binary_word Sub x y v f g e = this_word _ v e (read_sfits w32 _)
binary_word Mul x y v f g e = this_word _ v e (read_sfits w32 _)
binary_word Div x y v f g e = divided_word (is_zero y) _ v e (read_sfits w32 _)
binary_word Rem x y v f g e = divided_word (is_zero y) _ v e (record { sfits = omega (arith, mag_rem x y, f.sfits) })

pub unary_word : (op : UnOp) (x : ℤ) → IsWord (unary_of op x)
unary_word Neg x = read_sfits w32 _
unary_word Not x = truth_word _
unary_word Inv x = read_sfits w32 _
