-- What a checked task has room for: each part of its code is at most five times its nodes, and no statement needs more
-- than 64 operands.
use Rattle.std.proofs.Common.{ℕ, suc, ◌+◌, ◌*◌, ◌≤◌, List, [], ◌∷◌, length, arith}
use Rattle.mars_base.specs.declared.word.BinOp.{BinOp}
use Rattle.mars_base.specs.declared.word.BinOp.TheVariants.{Or, And, BitOr, BitXor, BitAnd, Eq, Ne, Lt, Le, Gt, Ge, Shl, Shr, Add, Sub, Mul, Div, Rem}
use Rattle.mc_tree.specs.declared.tree.Cell.{Cell}
use Rattle.mc_tree.specs.Counters.{Counted, CountedB, CountedL, CountedF}
use Rattle.mc_tree.specs.Height.{args_height}
use Rattle.mc_tree.specs.Size.{nodes, args_nodes, st_nodes, bl_nodes, ls_nodes, fns_nodes}
use Rattle.mc_tree.specs.Sound.{Sound, SoundB, SoundL}
use Rattle.mc_tree.specs.Tree.{Ex, Num, Var, Elem, Un, Bin, St, Assign, AssignAt, Invoke, When, Choice, Loop, Scoped, Count, Series, Bl, Nil, Then, Ls, NoLoop, OneLoop, Fn}
use Rattle.mc_compile.specs.Emit.{IsLow, IsLowB, IsLowL}
use Rattle.mc_compile.specs.Translate.{between, joined, ex_len, args_len, st_len, bl_len, ls_len}
use Rattle.mc_compile.specs.Whole.{fns_len}

-- an operator takes four instructions at most
operator_most : (op : BinOp) → length (between op 0) + length (joined op 0) ≤ 4
operator_most Or = omega arith
operator_most And = omega arith
operator_most BitOr = omega arith
operator_most BitXor = omega arith
operator_most BitAnd = omega arith
operator_most Eq = omega arith
operator_most Ne = omega arith
operator_most Lt = omega arith
operator_most Le = omega arith
operator_most Gt = omega arith
operator_most Ge = omega arith
operator_most Shl = omega arith
operator_most Shr = omega arith
operator_most Add = omega arith
operator_most Sub = omega arith
operator_most Mul = omega arith
operator_most Div = omega arith
operator_most Rem = omega arith

-- an expression
ex_most : (e : Ex) → ex_len e ≤ 4 * nodes e
ex_most (Num w) = omega arith
ex_most (Var a) = omega arith
ex_most (Elem a n i) = omega (arith, ex_most i)
ex_most (Un op e) = omega (arith, ex_most e)
ex_most (Bin op l r) = omega (arith, ex_most l, ex_most r, operator_most op)

some_nodes : (e : Ex) → 1 ≤ nodes e
some_nodes (Num w) = omega arith
some_nodes (Var a) = omega arith
some_nodes (Elem a n i) = omega arith
some_nodes (Un op e) = omega arith
some_nodes (Bin op l r) = omega arith

-- arguments with a store for each
args_most : (es : List Ex) → args_len es + length es ≤ 5 * args_nodes es
args_most [] = omega arith
args_most (e ∷ es) = omega (arith, ex_most e, some_nodes e, args_most es)

-- each argument needs an operand
args_high : (es : List Ex) → length es ≤ args_height es
args_high [] = omega arith
args_high (e ∷ es) = omega (arith, args_high es)

module _ (params : ℕ → List ℕ) where
  mutual
    pub st_most : (cur sc kb lo : ℕ) (s : St) (hi : ℕ) → Counted params cur sc kb lo s hi → st_len params s ≤ 5 * st_nodes s
    st_most cur sc kb lo (Assign p e) hi c = omega (arith, ex_most e)
    st_most cur sc kb lo (AssignAt p w i e) hi c = omega (arith, ex_most i, ex_most e)
    st_most cur sc kb lo (Invoke p g args) hi c = omega (arith, args_most args, c.2)
    st_most cur sc kb lo (When t a) hi c = omega (arith, ex_most t, bl_most cur sc kb lo a hi c)
    st_most cur sc kb lo (Choice t a b) hi c = omega (arith, ex_most t, bl_most cur sc kb lo a c.0 c.1, bl_most cur sc kb c.0 b hi c.2)
    st_most cur sc kb lo (Loop k n t a) hi c = omega (arith, ex_most t, bl_most cur sc kb (suc lo) a hi c.1)
    st_most cur sc kb lo (Scoped k n a) hi c = omega (arith, bl_most cur (suc lo) n (suc lo) a hi c.1)
    st_most cur sc kb lo (Count k n) hi c = omega arith
    st_most cur sc kb lo (Series k n l) hi c = omega (arith, ls_most cur (suc lo) l hi c.1)

    pub bl_most : (cur sc kb lo : ℕ) (b : Bl) (hi : ℕ) → CountedB params cur sc kb lo b hi → bl_len params b ≤ 5 * bl_nodes b
    bl_most cur sc kb lo Nil hi c = omega arith
    bl_most cur sc kb lo (Then s rest) hi c = omega (arith, st_most cur sc kb lo s c.0 c.1, bl_most cur sc kb c.0 rest hi c.2)

    pub ls_most : (cur lo : ℕ) (l : Ls) (hi : ℕ) → CountedL params cur lo l hi → ls_len params l ≤ 5 * ls_nodes l
    ls_most cur lo NoLoop hi c = omega arith
    ls_most cur lo (OneLoop k n t a rest) hi c =
        omega (arith, ex_most t, some_nodes t, bl_most cur 0 0 (suc lo) a c.0 c.2, ls_most cur c.0 rest hi c.3)

  pub fns_most : (cur lo : ℕ) (fs : List Fn) (hi : ℕ) → CountedF params cur lo fs hi → fns_len params fs ≤ 5 * fns_nodes fs
  fns_most cur lo [] hi c = omega arith
  fns_most cur lo (f ∷ fs) hi c = omega (arith, ex_most f.answer, bl_most cur 0 0 lo f.body c.0 c.1, fns_most (suc cur) c.0 fs hi c.2)

  module _ (seen : List Cell) where
    mutual
      pub st_low : (cur sc kb lo : ℕ) (s : St) (hi : ℕ) → Sound seen s → Counted params cur sc kb lo s hi → IsLow params s
      st_low cur sc kb lo (Assign p e) hi h c = h.1.1
      st_low cur sc kb lo (AssignAt p w i e) hi h c = h.3
      st_low cur sc kb lo (Invoke p g args) hi h c = (h.2, omega (arith, h.2, c.2, args_high args))
      st_low cur sc kb lo (When t a) hi h c = (h.0.1, bl_low cur sc kb lo a hi h.1 c)
      st_low cur sc kb lo (Choice t a b) hi h c = (h.0.1, bl_low cur sc kb lo a c.0 h.1 c.1, bl_low cur sc kb c.0 b hi h.2 c.2)
      st_low cur sc kb lo (Loop k n t a) hi h c = (h.1.1, bl_low cur sc kb (suc lo) a hi h.2 c.1)
      st_low cur sc kb lo (Scoped k n a) hi h c = bl_low cur (suc lo) n (suc lo) a hi h.1 c.1
      st_low cur sc kb lo (Count k n) hi h c = tt
      st_low cur sc kb lo (Series k n l) hi h c = ls_low cur (suc lo) l hi h.1 c.1

      pub bl_low : (cur sc kb lo : ℕ) (b : Bl) (hi : ℕ) → SoundB seen b → CountedB params cur sc kb lo b hi → IsLowB params b
      bl_low cur sc kb lo Nil hi h c = tt
      bl_low cur sc kb lo (Then s rest) hi h c = (st_low cur sc kb lo s c.0 h.0 c.1, bl_low cur sc kb c.0 rest hi h.1 c.2)

      pub ls_low : (cur lo : ℕ) (l : Ls) (hi : ℕ) → SoundL seen l → CountedL params cur lo l hi → IsLowL params l
      ls_low cur lo NoLoop hi h c = tt
      ls_low cur lo (OneLoop k n t a rest) hi h c = (h.1.1, bl_low cur 0 0 (suc lo) a c.0 h.2 c.2, ls_low cur c.0 rest hi h.3 c.3)
