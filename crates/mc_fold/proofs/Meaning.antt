-- A folded tree means the same.
use Rattle.std.proofs.Common.{◌≡◌, ℕ, zero, suc, ℤ, List, [], ◌∷◌, Option, Some, None, length, map, refl, ap, ◌∙◌, sym}
use Rattle.std.specs.Prelude.{nat_eq, if◌then◌else◌, slice_set, reverse}
use Rattle.std.proofs.lemmas.List.{length-map}
use mathlib.Core.List.{reverse_aux}
use Rattle.mars_base.specs.declared.word.BinOp.{BinOp}
use Rattle.mars_base.specs.declared.word.UnOp.{UnOp}
use Rattle.mars_base.specs.Word.{binary_of, unary_of, is_zero}
use Rattle.mars_base.specs.Store.{place_of}
use Rattle.mc_tree.specs.Meaning.{After, Done, Broken, Back, both, then_word, elem_at, value_of, values_of, first_then, with_value, with_values, with_back, by_test, then_do, back_to, turns, series_turns, set_all, set_elem, does, all_do, series_do, answered, answer_of, run_fn, run_all, params_at}
use Rattle.mc_tree.specs.Instance.{ended, words_at_start, instance_of}
use Rattle.mc_tree.specs.Tree.{Ex, Num, Var, Elem, Un, Bin, St, Assign, AssignAt, Invoke, When, Choice, Loop, Scoped, Count, Series, Bl, Nil, Then, Ls, NoLoop, OneLoop, Fn, Tree}
use Rattle.mc_fold.proofs.Mirror.{or_num, folded_un, folded_bin, folded_ex, folded_st, folded_bl, folded_ls, folded_fn, folded_tree}

-- an operator over one expression
value_un : (op : UnOp) (a : Ex) (cells : List ℤ) → value_of (folded_un op a) cells ≡ then_word (value_of a cells) (λ v. Some (unary_of op v))
value_un op (Num w) cells = refl
value_un op (Var p) cells = refl
value_un op (Elem p n i) cells = refl
value_un op (Un o a) cells = refl
value_un op (Bin o l r) cells = refl

-- an operator over two numbers
value_both : (op : BinOp) (x y : ℤ) (cells : List ℤ) (o : Option ℤ) → binary_of op x y ≡ o → value_of (or_num o (Bin op (Num x) (Num y))) cells ≡ binary_of op x y
value_both op x y cells None e = refl
value_both op x y cells (Some v) e = sym e

-- an operator over two expressions
value_bin : (op : BinOp) (l r : Ex) (cells : List ℤ) → value_of (folded_bin op l r) cells ≡ both (binary_of op) (value_of l cells) (value_of r cells)
value_bin op (Num x) (Num y) cells = value_both op x y cells (binary_of op x y) refl
value_bin op (Num x) (Var p) cells = refl
value_bin op (Num x) (Elem p n i) cells = refl
value_bin op (Num x) (Un o a) cells = refl
value_bin op (Num x) (Bin o a b) cells = refl
value_bin op (Var p) r cells = refl
value_bin op (Elem p n i) r cells = refl
value_bin op (Un o a) r cells = refl
value_bin op (Bin o a b) r cells = refl

-- an expression
pub value_folded : (x : Ex) (cells : List ℤ) → value_of (folded_ex x) cells ≡ value_of x cells
value_folded (Num w) cells = refl
value_folded (Var p) cells = refl
value_folded (Elem p n i) cells = ap (λ o. then_word o (λ v. elem_at cells (place_of p n v))) (value_folded i cells)
value_folded (Un op a) cells = value_un op (folded_ex a) cells ∙ ap (λ o. then_word o (λ v. Some (unary_of op v))) (value_folded a cells)
value_folded (Bin op l r) cells =
    value_bin op (folded_ex l) (folded_ex r) cells
    ∙ ap (λ o. both (binary_of op) o (value_of (folded_ex r) cells)) (value_folded l cells)
    ∙ ap (both (binary_of op) (value_of l cells)) (value_folded r cells)

-- arguments
values_folded : (xs : List Ex) (cells : List ℤ) → values_of (map folded_ex xs) cells ≡ values_of xs cells
values_folded [] cells = refl
values_folded (x ∷ xs) cells =
    ap (λ o. first_then o (values_of (map folded_ex xs) cells)) (value_folded x cells) ∙ ap (first_then (value_of x cells)) (values_folded xs cells)

module _ (params : ℕ → List ℕ) (run : ℕ → List ℤ → Back) where
  mutual
    does_folded : (x : St) → does params run (folded_st x) ≡ does params run x
    does_folded (Assign p x) = λ i cells m. with_value (value_folded x cells i) (λ v. Done (slice_set cells p v) m)
    does_folded (AssignAt p n x y) = λ i cells m. with_value (value_folded x cells i) (λ u. with_value (value_folded y cells i) (λ v. set_elem (place_of p n u) cells v m))
    does_folded (Invoke p g args) = λ i cells m. with_values (values_folded args cells i) (λ vs. with_back (run g (set_all (params g) vs cells)) (λ ds v. Done (slice_set ds p v) m))
    does_folded (When t a) = λ i cells m. with_value (value_folded t cells i) (λ v. by_test (is_zero v) (Done cells m) (all_folded a i cells m))
    does_folded (Choice t a b) = λ i cells m. with_value (value_folded t cells i) (λ v. by_test (is_zero v) (all_folded b i cells m) (all_folded a i cells m))
    does_folded (Loop c n t a) = λ i cells m. turns n (λ cs. value_folded t cs i) (all_folded a i) cells m
    does_folded (Scoped c n a) = λ i cells m. back_to m (all_folded a i cells 0)
    does_folded (Count c n) = refl
    does_folded (Series c n l) = λ i cells m. back_to m (series_folded n l i cells 0)

    all_folded : (b : Bl) → all_do params run (folded_bl b) ≡ all_do params run b
    all_folded Nil = refl
    all_folded (Then x rest) = λ i cells m. then_do (does_folded x i cells m) (all_folded rest i)

    series_folded : (k : ℕ) (l : Ls) → series_do params run k (folded_ls l) ≡ series_do params run k l
    series_folded k NoLoop = refl
    series_folded k (OneLoop c n t a rest) = λ i cells m. then_do (series_turns n k (λ cs. value_folded t cs i) (λ ds. all_folded a i ds 0) cells m) (series_folded k rest i)

  -- the answer of a function
  answer_same : (x : Ex) (r : After) → answer_of (folded_ex x) r ≡ answer_of x r
  answer_same x Broken = refl
  answer_same x (Done cells m) = ap (answered cells) (value_folded x cells)

  -- a function
  fn_same : (f : Fn) (cells : List ℤ) → run_fn params run (folded_fn f) cells ≡ run_fn params run f cells
  fn_same f cells = answer_same f.answer (all_do params run (folded_bl f.body) cells 0) ∙ ap (λ d. answer_of f.answer (d cells 0)) (all_folded f.body)

-- the functions
functions_folded : (params : ℕ → List ℕ) (fs : List Fn) → run_all params (map folded_fn fs) ≡ run_all params fs
functions_folded params [] = refl
functions_folded params (f ∷ fs) =
    let before = functions_folded params fs in
    let long : length (map folded_fn fs) ≡ length fs = length-map fs folded_fn in
    let this = λ (cells : List ℤ). fn_same params (run_all params (map folded_fn fs)) f cells ∙ ap (λ r. run_fn params r f cells) before in
    λ i g cells. if nat_eq g (long i) then this cells i else before i g cells

-- the parameters of the function of a number
params_same : (fs : List Fn) (g : ℕ) → params_at (map folded_fn fs) g ≡ params_at fs g
params_same [] g = refl
params_same (f ∷ fs) zero = refl
params_same (f ∷ fs) (suc g) = params_same fs g

-- and of all functions
pub params_folded : (fs : List Fn) → params_at (map folded_fn fs) ≡ params_at fs
params_folded fs = λ i g. params_same fs g i

-- folding and reversing may change places
reversed_onto : (fs done : List Fn) → reverse_aux (map folded_fn fs) (map folded_fn done) ≡ map folded_fn (reverse_aux fs done)
reversed_onto [] done = refl
reversed_onto (f ∷ fs) done = reversed_onto fs (f ∷ done)

-- an instance
pub instance_folded : (t : Tree) (state ins : List ℤ) → instance_of (folded_tree t) state ins ≡ instance_of t state ins
unfolding instance_of
instance_folded t state ins =
    let start = words_at_start t.cells state ins in
    let params = params_at (map folded_fn t.funcs) in
    ap (λ (d : List ℤ → ℕ → After). ended t.cells (d start 0)) (all_folded params (run_all params (reverse (map folded_fn t.funcs))) t.body)
    ∙ ap (λ fs. ended t.cells (all_do params (run_all params fs) t.body start 0)) (reversed_onto t.funcs [])
    ∙ ap (λ r. ended t.cells (all_do params r t.body start 0)) (functions_folded params (reverse t.funcs))
    ∙ ap (λ p. ended t.cells (all_do p (run_all p (reverse t.funcs)) t.body start 0)) (params_folded t.funcs)
