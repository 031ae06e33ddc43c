-- Operators give words for words, and what their instructions leave is what they mean.
use Rattle.std.proofs.Common.{◌≡◌, zero, suc, ◌^◌, Bool, true, false, ℤ, Some, None, refl, sym, ap, ◌∙◌, subst, arith}
use Rattle.std.specs.Prelude.{pos, negsuc, not, ◌&&◌, ◌||◌, int_lt, int_le, FitsSigned, if◌then◌else◌, bit_or}
use Rattle.std.specs.Int.{w32, cast_signed, cast_unsigned, int_bit_or}
use Rattle.std.specs.Int.Signed.{mag_shr, mag_rem}
use Rattle.std.proofs.lemmas.Int.{ints, to_z-of_z, of_z-to_z}
use Rattle.std.proofs.lemmas.Nat.{le_or_l, le_or_r, or_of_32}
use borrow.Author.Gap.{read_sfits}
use mir.ValLaws.{of_z_fits}
use Rattle.mars_base.specs.declared.word.BinOp.{BinOp}
use Rattle.mars_base.specs.declared.word.BinOp.TheVariants.{Or, And, BitOr, BitXor, BitAnd, Eq, Ne, Lt, Le, Gt, Ge, Shl, Shr, Add, Sub, Mul, Div, Rem}
use Rattle.mars_base.specs.declared.word.UnOp.{UnOp}
use Rattle.mars_base.specs.declared.word.UnOp.TheVariants.{Neg, Not, Inv}
use Rattle.mars_base.specs.Word.{truth_of, is_zero, amount_of, binary_of, unary_of}

-- a number of 32 bits with a sign
abbrev pub IsWord : ℤ → Type 0
IsWord v = FitsSigned w32 v

truth_word : (b : Bool) → IsWord (truth_of b)
truth_word true = record { sfits = omega arith }
truth_word false = record { sfits = omega arith }

this_word : (u v : ℤ) → Some u ≡ Some v → IsWord u → IsWord v
this_word u v e f = let same : u ≡ v = cc in subst IsWord same f

divided_word : (b : Bool) (u v : ℤ) → (if b then None else Some u) ≡ Some v → IsWord u → IsWord v
divided_word true u v e f = cc
divided_word false u v e f = this_word u v e f

pub binary_word : (op : BinOp) (x y v : ℤ) → IsWord x → IsWord y → binary_of op x y ≡ Some v → IsWord v
binary_word Or x y v f g e = this_word _ v e (truth_word _)
binary_word And x y v f g e = this_word _ v e (truth_word _)
binary_word BitOr x y v f g e = this_word _ v e (read_sfits w32 _)
binary_word BitXor x y v f g e = this_word _ v e (read_sfits w32 _)
binary_word BitAnd x y v f g e = this_word _ v e (read_sfits w32 _)
binary_word Eq x y v f g e = this_word _ v e (truth_word _)
binary_word Ne x y v f g e = this_word _ v e (truth_word _)
binary_word Lt x y v f g e = this_word _ v e (truth_word _)
binary_word Le x y v f g e = this_word _ v e (truth_word _)
binary_word Gt x y v f g e = this_word _ v e (truth_word _)
binary_word Ge x y v f g e = this_word _ v e (truth_word _)
binary_word Shl x y v f g e = this_word _ v e (read_sfits w32 _)
binary_word Shr x y v f g e = this_word _ v e (record { sfits = omega (arith, mag_shr x (2 ^ amount_of y), f.sfits) })
binary_word Add x y v f g e = this_word _ v e (read_sfits w32 _)
binary_word Sub x y v f g e = this_word _ v e (read_sfits w32 _)
binary_word Mul x y v f g e = this_word _ v e (read_sfits w32 _)
binary_word Div x y v f g e = divided_word (is_zero y) _ v e (read_sfits w32 _)
binary_word Rem x y v f g e = divided_word (is_zero y) _ v e (record { sfits = omega (arith, mag_rem x y, f.sfits) })

pub unary_word : (op : UnOp) (x : ℤ) → IsWord (unary_of op x)
unary_word Neg x = read_sfits w32 _
unary_word Not x = truth_word _
unary_word Inv x = read_sfits w32 _

-- EQ NOT, LE NOT and LT NOT
pub not_truth : (b : Bool) → unary_of Not (truth_of b) ≡ truth_of (not b)
not_truth true = refl
not_truth false = refl

pub not_le : (x y : ℤ) → not (int_le x y) ≡ int_lt y x
not_le x y = go (int_le x y) (int_lt y x) refl refl
  where
    go : (b c : Bool) → int_le x y ≡ b → int_lt y x ≡ c → not b ≡ c
    go true true p q = absurd (let z : ⊥ = omega (arith, ints) in z)
    go true false p q = refl
    go false true p q = refl
    go false false p q = absurd (let z : ⊥ = omega (arith, ints) in z)

pub not_lt : (x y : ℤ) → not (int_lt x y) ≡ int_le y x
not_lt x y = go (int_lt x y) (int_le y x) refl refl
  where
    go : (b c : Bool) → int_lt x y ≡ b → int_le y x ≡ c → not b ≡ c
    go true true p q = absurd (let z : ⊥ = omega (arith, ints) in z)
    go true false p q = refl
    go false true p q = refl
    go false false p q = absurd (let z : ⊥ = omega (arith, ints) in z)

-- NOT of both sides, OR, and NOT
pub and_truth : (x y : ℤ) → unary_of Not (int_bit_or w32 (unary_of Not x) (unary_of Not y)) ≡ truth_of (not (is_zero x) && not (is_zero y))
and_truth x y = go (is_zero x) (is_zero y)
  where
    go : (b c : Bool) → unary_of Not (int_bit_or w32 (truth_of b) (truth_of c)) ≡ truth_of (not b && not c)
    go true true = refl
    go true false = refl
    go false true = refl
    go false false = refl

-- a word is 0 where its bits are
bits_zero : (x : ℤ) → IsWord x → cast_unsigned w32 x ≡ 0 → x ≡ pos 0
bits_zero x f e = sym (to_z-of_z w32 x f) ∙ ap (cast_signed w32) e

zero_is : (x : ℤ) → is_zero x ≡ true → x ≡ pos 0
zero_is (pos zero) e = refl
zero_is (pos (suc n)) e = cc
zero_is (negsuc n) e = cc

-- OR gives 0 exactly for two zeros
both_zero : (x y : ℤ) → IsWord x → IsWord y → is_zero (int_bit_or w32 x y) ≡ true → (x ≡ pos 0) × (y ≡ pos 0)
both_zero x y f g e =
    let a = cast_unsigned w32 x in
    let b = cast_unsigned w32 y in
    let small = or_of_32 a b (of_z_fits w32 x f).fits (of_z_fits w32 y g).fits in
    let none : bit_or a b ≡ 0 = sym (of_z-to_z w32 (bit_or a b) small) ∙ ap (cast_unsigned w32) (zero_is (int_bit_or w32 x y) e) in
    (bits_zero x f (omega (arith, none, le_or_l a b)), bits_zero y g (omega (arith, none, le_or_r a b)))

or_zeros : (x y : ℤ) → IsWord x → IsWord y → is_zero (int_bit_or w32 x y) ≡ (is_zero x && is_zero y)
or_zeros x y f g = go (is_zero x) (is_zero y) (is_zero (int_bit_or w32 x y)) refl refl refl
  where
    go : (a b c : Bool) → is_zero x ≡ a → is_zero y ≡ b → is_zero (int_bit_or w32 x y) ≡ c → c ≡ (a && b)
    go true true true p q r = refl
    go true true false p q r =
        let x0 = zero_is x p in
        let y0 = zero_is y q in
        let z : is_zero (int_bit_or w32 x y) ≡ true = ap (λ v. is_zero (int_bit_or w32 v y)) x0 ∙ ap (λ v. is_zero (int_bit_or w32 (pos 0) v)) y0 in
        sym r ∙ z
    go true false true p q r = let h = both_zero x y f g r in let z : is_zero y ≡ true = ap is_zero h.1 in sym z ∙ q
    go true false false p q r = refl
    go false b true p q r = let h = both_zero x y f g r in let z : is_zero x ≡ true = ap is_zero h.0 in sym z ∙ p
    go false b false p q r = refl

-- OR, and NOT twice
pub or_truth : (x y : ℤ) → IsWord x → IsWord y → unary_of Not (unary_of Not (int_bit_or w32 x y)) ≡ truth_of (not (is_zero x) || not (is_zero y))
or_truth x y f g = not_truth (is_zero (int_bit_or w32 x y)) ∙ ap (λ b. truth_of (not b)) (or_zeros x y f g) ∙ go (is_zero x) (is_zero y)
  where
    go : (a b : Bool) → truth_of (not (a && b)) ≡ truth_of (not a || not b)
    go true true = refl
    go true false = refl
    go false b = refl
