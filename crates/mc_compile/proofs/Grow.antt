-- Code that grows, one part behind another.
use Rattle.std.proofs.Common.{◌≡◌, ℕ, zero, suc, Some, None, ◌+◌, ◌<◌, ◌≤◌, List, [], ◌∷◌, ◌++◌, length, map, drop, get_or, refl, sym, ap, ◌∙◌, subst, arith, append_assoc, append-nil, add-one}
use Rattle.std.specs.Prelude.{Vec, slice_get}
use Rattle.std.proofs.lemmas.List.{length-map}
use Rattle.std.specs.Global.{Global}
use Rattle.std.proofs.Math.Seq.{drop-cons}
use Rattle.mars_base.specs.declared.word.UnOp.{UnOp}
use Rattle.mc_tree.specs.declared.tree.Cell.{Cell}
use Rattle.mc_tree.specs.declared.tree.Expr.{Expr}
use Rattle.mc_tree.specs.declared.tree.Expr.TheVariants.{At, Unary, Binary}
use Rattle.mc_tree.specs.declared.tree.Func.{Func}
use Rattle.mc_tree.specs.declared.tree.Stmt.{Stmt}
use Rattle.mc_tree.specs.declared.tree.Task.{Task}
use Rattle.mc_tree.specs.Meaning.{params_at}
use Rattle.mc_tree.specs.Plain.{place_in, width_in, loop_before, plain_expr, plain_args, plain_stmt, plain_list, plain_loops, plain_func}
use Rattle.mc_tree.specs.Tree.{Ex, Bin, Un, Elem, St, Assign, AssignAt, Invoke, When, Choice, Loop, Scoped, Count, Series, Bl, Then, Ls, NoLoop, OneLoop}
use Rattle.mc_tree.proofs.Plain.{plain_at, plain_unary, plain_binary}
use Rattle.mars_base.specs.declared.word.BinOp.{BinOp}
use Rattle.word_code.specs.declared.code.Instr.{Instr}
use Rattle.word_code.specs.declared.code.Instr.TheVariants.{LoadX, Jmp, Jz, CZero, CInc}
use Rattle.word_code.specs.declared.code.Slot.{Slot}
use Rattle.mc_compile.specs.Emit.{Grows, params_of, IsLowL}
use Rattle.mc_compile.specs.Translate.{slot, unary_instr, between, joined, ex_len, ex_code, bl_len, ls_len, bl_code, ls_code}

-- nothing more
pub grows_none : (code : Vec Slot Global) → Grows code code [] 0
grows_none code = record { items = sym (append-nil code.items); len = omega arith; capacity = refl }

-- two parts
pub grows_then : (c0 c1 c2 : Vec Slot Global) (xs ys : List Slot) (m n : ℕ) → Grows c0 c1 xs m → Grows c1 c2 ys n → Grows c0 c2 (xs ++ ys) (m + n)
grows_then c0 c1 c2 xs ys m n a b = record {
  items = b.items ∙ ap (λ l. l ++ ys) a.items ∙ append_assoc c0.items xs ys;
  len = omega (arith, a.len, b.len);
  capacity = b.capacity ∙ a.capacity;
}

-- the same instructions, so many
pub grows_as : (c0 c1 : Vec Slot Global) (xs ys : List Slot) (m n : ℕ) → xs ≡ ys → m ≡ n → Grows c0 c1 xs m → Grows c0 c1 ys n
grows_as c0 c1 xs ys m n is size a = record {
  items = a.items ∙ ap (λ l. c0.items ++ l) is;
  len = omega (arith, a.len);
  capacity = a.capacity;
}

-- the code of an expression with one instruction behind its operand
pub elem_grows : (c0 c1 c2 : Vec Slot Global) (h a n a1 n1 : ℕ) (i e : Ex) → e ≡ Elem a n i → a1 ≡ a → n1 ≡ n → Grows c0 c1 (ex_code h i) (ex_len i)
    → Grows c1 c2 (slot (LoadX a1 n1) (h + 1) ∷ []) 1 → Grows c0 c2 (ex_code h e) (ex_len e)
elem_grows c0 c1 c2 h a n a1 n1 i e is ea en g last =
    let instr : ex_code h i ++ slot (LoadX a1 n1) (h + 1) ∷ [] ≡ ex_code h (Elem a n i) = ap (λ x. ex_code h (Elem x n1 i)) ea ∙ ap (λ x. ex_code h (Elem a x i)) en in
    grows_as c0 c2 _ _ _ _ (instr ∙ ap (ex_code h) (sym is)) (ap ex_len (sym is)) (grows_then c0 c1 c2 (ex_code h i) (slot (LoadX a1 n1) (h + 1) ∷ []) (ex_len i) 1 g last)

pub unary_grows : (c0 c1 c2 : Vec Slot Global) (h : ℕ) (op : UnOp) (instr : Instr) (x e : Ex) → e ≡ Un op x → instr ≡ unary_instr op
    → Grows c0 c1 (ex_code h x) (ex_len x) → Grows c1 c2 (slot instr (h + 1) ∷ []) 1 → Grows c0 c2 (ex_code h e) (ex_len e)
unary_grows c0 c1 c2 h op instr x e is same g last =
    grows_as c0 c2 _ _ _ _ (ap (λ i. ex_code h x ++ slot i (h + 1) ∷ []) same ∙ ap (ex_code h) (sym is)) (ap ex_len (sym is))
    (grows_then c0 c1 c2 (ex_code h x) (slot instr (h + 1) ∷ []) (ex_len x) 1 g last)

-- the code of an operator between its operands
pub binary_grows : (c0 c1 c2 c3 c4 : Vec Slot Global) (h : ℕ) (op : BinOp) (l r e : Ex) → e ≡ Bin op l r → Grows c0 c1 (ex_code h l) (ex_len l)
    → Grows c1 c2 (between op h) (length (between op 0)) → Grows c2 c3 (ex_code (h + 1) r) (ex_len r)
    → Grows c3 c4 (joined op h) (length (joined op 0)) → Grows c0 c4 (ex_code h e) (ex_len e)
binary_grows c0 c1 c2 c3 c4 h op l r e is a b c d =
    let size : ex_len l + (length (between op 0) + (ex_len r + length (joined op 0))) ≡ ex_len e = omega (arith, ap ex_len is) in
    grows_as c0 c4 _ _ _ _ (ap (ex_code h) (sym is)) size
    (grows_then c0 c1 c4 _ _ _ _ a (grows_then c1 c2 c4 _ _ _ _ b (grows_then c2 c3 c4 _ _ _ _ c d)))

-- one level of an expression, with its parts under other names
pub at_plain : (cells : List Cell) (e i i1 : Expr) (c : ℕ) → e ≡ At c i → i1 ≡ i → plain_expr cells e ≡ Elem (place_in cells c) (width_in cells c) (plain_expr cells i1)
at_plain cells e i i1 c ee ei = ap (plain_expr cells) ee ∙ plain_at cells c i ∙ ap (λ x. Elem (place_in cells c) (width_in cells c) (plain_expr cells x)) (sym ei)

pub un_plain : (cells : List Cell) (e x x1 : Expr) (op : UnOp) → e ≡ Unary op x → x1 ≡ x → plain_expr cells e ≡ Un op (plain_expr cells x1)
un_plain cells e x x1 op ee ex = ap (plain_expr cells) ee ∙ plain_unary cells op x ∙ ap (λ y. Un op (plain_expr cells y)) (sym ex)

pub bin_plain : (cells : List Cell) (e l r l1 r1 : Expr) (op : BinOp) → e ≡ Binary op l r → l1 ≡ l → r1 ≡ r
    → plain_expr cells e ≡ Bin op (plain_expr cells l1) (plain_expr cells r1)
bin_plain cells e l r l1 r1 op ee el er =
    ap (plain_expr cells) ee ∙ plain_binary cells op l r
    ∙ ap (λ x. Bin op (plain_expr cells x) (plain_expr cells r)) (sym el) ∙ ap (λ x. Bin op (plain_expr cells l1) (plain_expr cells x)) (sym er)

-- arguments and stores, from a number on
pub args_at : (cells : List Cell) (es : List Expr) (i : ℕ) (x : Expr) → i < length es → x ≡ get_or es i x
    → plain_args cells (drop i es) ≡ plain_expr cells x ∷ plain_args cells (drop (i + 1) es)
args_at cells es i x lt e =
    ap (plain_args cells) (drop-cons es i x lt) ∙ ap (λ y. plain_expr cells y ∷ plain_args cells (drop (suc i) es)) (sym e)
    ∙ ap (λ j. plain_expr cells x ∷ plain_args cells (drop j es)) (sym (add-one i))

-- a function's parameters
found : (cells : List Cell) (fs : List Func) (g : ℕ) (f : Func) → slice_get fs g ≡ Some f → params_at (map (plain_func cells) fs) g ≡ map (place_in cells) f.params
found cells [] g f e = absurd (let x : ⊥ = cc in x)
found cells (x ∷ fs) zero f e =
    let is : x ≡ f = cc in
    ap (λ (y : Func). map (place_in cells) y.params) is
found cells (x ∷ fs) (suc g) f e = found cells fs g f e

missing : (cells : List Cell) (fs : List Func) (g : ℕ) → slice_get fs g ≡ None → params_at (map (plain_func cells) fs) g ≡ []
missing cells [] g e = refl
missing cells (x ∷ fs) zero e = absurd (let x : ⊥ = cc in x)
missing cells (x ∷ fs) (suc g) e = missing cells fs g e

pub params_found : (t : Task) (g : ℕ) (f : Func) → slice_get t.funcs g ≡ Some f → params_of t g ≡ map (place_in t.cells) f.params
unfolding params_of
params_found t g f e = found t.cells t.funcs g f e

pub length-found : (t : Task) (g : ℕ) (f : Func) → slice_get t.funcs g ≡ Some f → length (params_of t g) ≡ length f.params
length-found t g f e = ap length (params_found t g f e) ∙ length-map f.params (place_in t.cells)

pub params_missing : (t : Task) (g : ℕ) → slice_get t.funcs g ≡ None → params_of t g ≡ []
unfolding params_of
params_missing t g e = missing t.cells t.funcs g e

-- the first of the statements that are left
pub block_at : (cells : List Cell) (ss : List Stmt) (i : ℕ) (x : Stmt) → i < length ss → x ≡ get_or ss i x
    → plain_list cells (drop i ss) ≡ Then (plain_stmt cells x) (plain_list cells (drop (i + 1) ss))
block_at cells ss i x lt e =
    ap (plain_list cells) (drop-cons ss i x lt) ∙ ap (λ y. Then (plain_stmt cells y) (plain_list cells (drop (suc i) ss))) (sym e)
    ∙ ap (λ j. Then (plain_stmt cells x) (plain_list cells (drop j ss))) (sym (add-one i))

-- and of the statements of a sequence
pub loops_at : (cells : List Cell) (ss : List Stmt) (i : ℕ) (x : Stmt) → i < length ss → x ≡ get_or ss i x
    → plain_loops cells (drop i ss) ≡ loop_before (plain_stmt cells x) (plain_loops cells (drop (i + 1) ss))
loops_at cells ss i x lt e =
    ap (plain_loops cells) (drop-cons ss i x lt) ∙ ap (λ y. loop_before (plain_stmt cells y) (plain_loops cells (drop (suc i) ss))) (sym e)
    ∙ ap (λ j. loop_before (plain_stmt cells x) (plain_loops cells (drop j ss))) (sym (add-one i))

-- a statement of a sequence stands before the rest of its loops
pub before_len : (params : ℕ → List ℕ) (s : St) (l : Ls) → ls_len params (loop_before s l) ≡ ls_len params (loop_before s NoLoop) + ls_len params l
before_len params (Loop c n t a) l = omega arith
before_len params (Assign p e) l = omega arith
before_len params (AssignAt p w i e) l = omega arith
before_len params (Invoke p g args) l = omega arith
before_len params (When t a) l = omega arith
before_len params (Choice t a b) l = omega arith
before_len params (Scoped c n a) l = omega arith
before_len params (Count c n) l = omega arith
before_len params (Series c n m) l = omega arith

pub before_low : (params : ℕ → List ℕ) (s : St) (l : Ls) → IsLowL params (loop_before s l) → IsLowL params (loop_before s NoLoop) × IsLowL params l
before_low params (Loop c n t a) l f = ((f.0, f.1, tt), f.2)
before_low params (Assign p e) l f = (tt, f)
before_low params (AssignAt p w i e) l f = (tt, f)
before_low params (Invoke p g args) l f = (tt, f)
before_low params (When t a) l f = (tt, f)
before_low params (Choice t a b) l f = (tt, f)
before_low params (Scoped c n a) l f = (tt, f)
before_low params (Count c n) l f = (tt, f)
before_low params (Series c n m) l f = (tt, f)

module _ (starts : ℕ → ℕ) (params : ℕ → List ℕ) (u k : ℕ) where
  -- the code of a loop, and then that of the others
  pub turns_code : (p c n : ℕ) (t : Ex) (b : Bl) (l : Ls)
      → ls_code starts params u k p (OneLoop c n t b l) ≡ ls_code starts params u k p (OneLoop c n t b NoLoop) ++ ls_code starts params u k (p + ls_len params (OneLoop c n t b NoLoop)) l
  turns_code p c n t b l =
      let first = p + 1 + ex_len t + 3 in
      let next = first + bl_len params b + 1 in
      let stands : next ≡ p + ls_len params (OneLoop c n t b NoLoop) = omega arith in
      let rest = ls_code starts params u k next l in
      let back = slot (Jmp (p + 1)) 0 in
      let inner : bl_code starts params first b ++ back ∷ rest ≡ (bl_code starts params first b ++ back ∷ []) ++ rest = sym (append_assoc (bl_code starts params first b) (back ∷ []) rest) in
      ap (λ x. slot (CZero c) 0 ∷ (ex_code 0 t ++ slot (Jz next) 1 ∷ slot (CInc c n) 0 ∷ slot (CInc u k) 0 ∷ x)) inner
      ∙ ap (λ x. slot (CZero c) 0 ∷ x) (sym (append_assoc (ex_code 0 t) (slot (Jz next) 1 ∷ slot (CInc c n) 0 ∷ slot (CInc u k) 0 ∷ (bl_code starts params first b ++ back ∷ [])) rest))
      ∙ ap (λ j. ls_code starts params u k p (OneLoop c n t b NoLoop) ++ ls_code starts params u k j l) stands

  none_before : (p : ℕ) (l : Ls) → ls_code starts params u k p l ≡ ls_code starts params u k (p + 0) l
  none_before p l = ap (λ j. ls_code starts params u k j l) (let e : p ≡ p + 0 = omega arith in e)

  pub before_code : (p : ℕ) (s : St) (l : Ls)
      → ls_code starts params u k p (loop_before s l) ≡ ls_code starts params u k p (loop_before s NoLoop) ++ ls_code starts params u k (p + ls_len params (loop_before s NoLoop)) l
  before_code p (Loop c n t a) l = turns_code p c n t a l
  before_code p (Assign a e) l = none_before p l
  before_code p (AssignAt a w i e) l = none_before p l
  before_code p (Invoke a g args) l = none_before p l
  before_code p (When t a) l = none_before p l
  before_code p (Choice t a b) l = none_before p l
  before_code p (Scoped c n a) l = none_before p l
  before_code p (Count c n) l = none_before p l
  before_code p (Series c n m) l = none_before p l

pub ruleset grow_rules = (grows_none, append-nil)
