-- The plain tree of a folded task is the folded plain tree.
use Rattle.std.proofs.Common.{◌≡◌, ℤ, List, [], ◌∷◌, Option, Some, None, map, refl, ap, ◌∙◌, sym, subst}
use Rattle.mars_base.specs.declared.word.BinOp.{BinOp}
use Rattle.mars_base.specs.declared.word.UnOp.{UnOp}
use Rattle.mars_base.specs.Word.{binary_of, unary_of}
use Rattle.mc_tree.specs.Meaning.{both, then_word}
use Rattle.mc_tree.specs.declared.tree.Cell.{Cell}
use Rattle.mc_tree.specs.declared.tree.Func.{Func}
use Rattle.mc_tree.specs.declared.tree.Task.{Task}
use Rattle.mc_tree.specs.declared.tree.Expr.{Expr, map-Expr, roll-Expr, ind-Expr, fold-roll-Expr}
use Rattle.mc_tree.specs.declared.tree.Expr.TheViews.{out-Expr, out-roll-Expr, roll-out-Expr}
use Rattle.mc_tree.specs.declared.tree.Expr.TheOpen as E
use Rattle.mc_tree.specs.declared.tree.Expr.TheVariants as e
use Rattle.mc_tree.specs.declared.tree.Stmt.{Stmt, map-Stmt, roll-Stmt, ind-Stmt}
use Rattle.mc_tree.specs.declared.tree.Stmt.TheOpen as S
use Rattle.mc_tree.specs.declared.tree.Stmt.TheVariants as s
use Rattle.mc_tree.specs.Plain.{place_in, width_in, ex_of, plain_expr, plain_stmt, plain_list, plain_loops, loop_before, plain_func, plain_task}
use Rattle.mc_tree.specs.Tree.{Ex, Elem, St, Assign, AssignAt, Invoke, When, Choice, Loop, Scoped, Count, Series, Then, Ls}
use Rattle.mc_tree.proofs.Plain.{plain_number, plain_cell, plain_at, plain_unary, plain_binary, plain_set, plain_set_at, plain_call, plain_when, plain_choice, plain_while, plain_scope, plain_mark, plain_sequence}
use Rattle.mc_fold.specs.Folded.{number_in, number_of, or_number, folded_expr, folded_stmt, folded_func, folded_task}
use Rattle.mc_fold.proofs.Mirror.{num_of, or_num, folded_un, folded_bin, folded_ex, folded_st, folded_bl, folded_ls, folded_fn, folded_tree}
use Rattle.mc_fold.proofs.Rules.{folded_is_number, folded_is_cell, folded_is_at, folded_is_unary, folded_is_binary, folded_is_set, folded_is_set_at, folded_is_call, folded_is_when, folded_is_choice, folded_is_while, folded_is_scope, folded_is_mark, folded_is_sequence}

-- one level of the lemma below
number_layer : (cells : List Cell) (y : E.Expr-F Expr) → number_of (roll-Expr y) ≡ num_of (plain_expr cells (roll-Expr y))
unfolding number_of plain_expr
number_layer cells (E.Number w) = ap number_in (out-roll-Expr (E.Number w)) ∙ sym (ap num_of (fold-roll-Expr Ex (ex_of cells) (E.Number w)))
number_layer cells (E.Cell c) = ap number_in (out-roll-Expr (E.Cell c)) ∙ sym (ap num_of (fold-roll-Expr Ex (ex_of cells) (E.Cell c)))
number_layer cells (E.At c i) = ap number_in (out-roll-Expr (E.At c i)) ∙ sym (ap num_of (fold-roll-Expr Ex (ex_of cells) (E.At c i)))
number_layer cells (E.Unary op a) = ap number_in (out-roll-Expr (E.Unary op a)) ∙ sym (ap num_of (fold-roll-Expr Ex (ex_of cells) (E.Unary op a)))
number_layer cells (E.Binary op l r) = ap number_in (out-roll-Expr (E.Binary op l r)) ∙ sym (ap num_of (fold-roll-Expr Ex (ex_of cells) (E.Binary op l r)))

-- the number of an expression is that of its plain form
number_plain : (cells : List Cell) (x : Expr) → number_of x ≡ num_of (plain_expr cells x)
number_plain cells x = subst (λ z. number_of z ≡ num_of (plain_expr cells z)) (roll-out-Expr x) (number_layer cells (out-Expr x))

-- a number, or the expression as it stands
plain_or_number : (cells : List Cell) (o : Option ℤ) (x : Expr) → plain_expr cells (or_number o x) ≡ or_num o (plain_expr cells x)
plain_or_number cells None x = refl
plain_or_number cells (Some w) x = plain_number cells w

-- an expression whose folded form is plainly the folded one
abbrev Alike : List Cell → Expr → Type 0
Alike cells x = plain_expr cells (folded_expr x) ≡ folded_ex (plain_expr cells x)

-- an operator over one
alike_unary : (cells : List Cell) (op : UnOp) (a : Expr) → Alike cells a → Alike cells (e.Unary op a)
alike_unary cells op a ok =
    let f = λ (w : ℤ). Some (unary_of op w) in
    let b = folded_expr a in
    ap (plain_expr cells) (folded_is_unary op a)
    ∙ plain_or_number cells (then_word (number_of b) f) (e.Unary op b)
    ∙ ap (λ o. or_num (then_word o f) (plain_expr cells (e.Unary op b))) (number_plain cells b)
    ∙ ap (or_num (then_word (num_of (plain_expr cells b)) f)) (plain_unary cells op b)
    ∙ ap (folded_un op) ok
    ∙ ap folded_ex (sym (plain_unary cells op a))

-- an operator over two
alike_binary : (cells : List Cell) (op : BinOp) (l r : Expr) → Alike cells l → Alike cells r → Alike cells (e.Binary op l r)
alike_binary cells op l r left right =
    let f = binary_of op in
    let x = folded_expr l in
    let y = folded_expr r in
    ap (plain_expr cells) (folded_is_binary op l r)
    ∙ plain_or_number cells (both f (number_of x) (number_of y)) (e.Binary op x y)
    ∙ ap (λ o. or_num (both f o (number_of y)) (plain_expr cells (e.Binary op x y))) (number_plain cells x)
    ∙ ap (λ o. or_num (both f (num_of (plain_expr cells x)) o) (plain_expr cells (e.Binary op x y))) (number_plain cells y)
    ∙ ap (or_num (both f (num_of (plain_expr cells x)) (num_of (plain_expr cells y)))) (plain_binary cells op x y)
    ∙ ap (λ u. folded_bin op u (plain_expr cells y)) left
    ∙ ap (folded_bin op (folded_ex (plain_expr cells l))) right
    ∙ ap folded_ex (sym (plain_binary cells op l r))

-- one level of an expression
alike_layer : (cells : List Cell) {A : Type 0} (x_of : A → Expr) (ok : (a : A) → Alike cells (x_of a)) (y : E.Expr-F A) → Alike cells (roll-Expr (map-Expr A Expr x_of y))
alike_layer cells x_of ok (E.Number w) =
    subst (Alike cells) (sym (e.rolls-Number w)) (ap (plain_expr cells) (folded_is_number w) ∙ plain_number cells w ∙ ap folded_ex (sym (plain_number cells w)))
alike_layer cells x_of ok (E.Cell c) =
    subst (Alike cells) (sym (e.rolls-Cell c)) (ap (plain_expr cells) (folded_is_cell c) ∙ plain_cell cells c ∙ ap folded_ex (sym (plain_cell cells c)))
alike_layer cells x_of ok (E.At c i) =
    subst (Alike cells) (sym (e.rolls-At c (x_of i)))
    (ap (plain_expr cells) (folded_is_at c (x_of i)) ∙ plain_at cells c (folded_expr (x_of i)) ∙ ap (Elem (place_in cells c) (width_in cells c)) (ok i)
    ∙ ap folded_ex (sym (plain_at cells c (x_of i))))
alike_layer cells x_of ok (E.Unary op a) = subst (Alike cells) (sym (e.rolls-Unary op (x_of a))) (alike_unary cells op (x_of a) (ok a))
alike_layer cells x_of ok (E.Binary op l r) = subst (Alike cells) (sym (e.rolls-Binary op (x_of l) (x_of r))) (alike_binary cells op (x_of l) (x_of r) (ok l) (ok r))

-- an expression
pub plain_folded : (cells : List Cell) (x : Expr) → plain_expr cells (folded_expr x) ≡ folded_ex (plain_expr cells x)
plain_folded cells = ind-Expr (Alike cells) (λ x y is. subst (λ (z : E.Expr-F Expr). Alike cells (roll-Expr z)) is (alike_layer cells (λ d. d.0) (λ d. d.1) y))

-- arguments
plain_args_folded : (cells : List Cell) (args : List Expr) → map (plain_expr cells) (map folded_expr args) ≡ map folded_ex (map (plain_expr cells) args)
plain_args_folded cells [] = refl
plain_args_folded cells (x ∷ xs) = ap (λ y. y ∷ map (plain_expr cells) (map folded_expr xs)) (plain_folded cells x) ∙ ap (λ ys. folded_ex (plain_expr cells x) ∷ ys) (plain_args_folded cells xs)

-- the same of a statement
abbrev AlikeSt : List Cell → Stmt → Type 0
AlikeSt cells x = plain_stmt cells (folded_stmt x) ≡ folded_st (plain_stmt cells x)

-- the statements of a block
alike_list : (cells : List Cell) {A : Type 0} (s_of : A → Stmt) (ok : (a : A) → AlikeSt cells (s_of a)) (parts : List A) → plain_list cells (map folded_stmt (map s_of parts)) ≡ folded_bl (plain_list cells (map s_of parts))
alike_list cells s_of ok [] = refl
alike_list cells s_of ok (a ∷ parts) =
    ap (λ x. Then x (plain_list cells (map folded_stmt (map s_of parts)))) (ok a) ∙ ap (Then (folded_st (plain_stmt cells (s_of a)))) (alike_list cells s_of ok parts)

-- one more loop in front
folded_before : (x : St) (l : Ls) → loop_before (folded_st x) (folded_ls l) ≡ folded_ls (loop_before x l)
folded_before (Assign p v) l = refl
folded_before (AssignAt p n i v) l = refl
folded_before (Invoke p g args) l = refl
folded_before (When t a) l = refl
folded_before (Choice t a b) l = refl
folded_before (Loop c n t a) l = refl
folded_before (Scoped c n a) l = refl
folded_before (Count c n) l = refl
folded_before (Series c n m) l = refl

-- the loops of a sequence
alike_loops : (cells : List Cell) {A : Type 0} (s_of : A → Stmt) (ok : (a : A) → AlikeSt cells (s_of a)) (parts : List A) → plain_loops cells (map folded_stmt (map s_of parts)) ≡ folded_ls (plain_loops cells (map s_of parts))
alike_loops cells s_of ok [] = refl
alike_loops cells s_of ok (a ∷ parts) =
    ap (λ x. loop_before x (plain_loops cells (map folded_stmt (map s_of parts)))) (ok a)
    ∙ ap (loop_before (folded_st (plain_stmt cells (s_of a)))) (alike_loops cells s_of ok parts)
    ∙ folded_before (plain_stmt cells (s_of a)) (plain_loops cells (map s_of parts))

-- one level of a statement
st_layer : (cells : List Cell) {A : Type 0} (s_of : A → Stmt) (ok : (a : A) → AlikeSt cells (s_of a)) (x : S.Stmt-F A) → AlikeSt cells (roll-Stmt (map-Stmt A Stmt s_of x))
st_layer cells s_of ok (S.Set c v) =
    subst (AlikeSt cells) (sym (s.rolls-Set c v))
    (ap (plain_stmt cells) (folded_is_set c v) ∙ plain_set cells c (folded_expr v) ∙ ap (Assign (place_in cells c)) (plain_folded cells v) ∙ ap folded_st (sym (plain_set cells c v)))
st_layer cells s_of ok (S.SetAt c i v) =
    subst (AlikeSt cells) (sym (s.rolls-SetAt c i v))
    (ap (plain_stmt cells) (folded_is_set_at c i v) ∙ plain_set_at cells c (folded_expr i) (folded_expr v)
    ∙ ap (λ x. AssignAt (place_in cells c) (width_in cells c) x (plain_expr cells (folded_expr v))) (plain_folded cells i)
    ∙ ap (AssignAt (place_in cells c) (width_in cells c) (folded_ex (plain_expr cells i))) (plain_folded cells v)
    ∙ ap folded_st (sym (plain_set_at cells c i v)))
st_layer cells s_of ok (S.Call c g args) =
    subst (AlikeSt cells) (sym (s.rolls-Call c g args))
    (ap (plain_stmt cells) (folded_is_call c g args) ∙ plain_call cells c g (map folded_expr args) ∙ ap (Invoke (place_in cells c) g) (plain_args_folded cells args)
    ∙ ap folded_st (sym (plain_call cells c g args)))
st_layer cells s_of ok (S.If t a None) =
    let first = map s_of a in
    subst (AlikeSt cells) (sym (s.rolls-If t first None))
    (ap (plain_stmt cells) (folded_is_when t first) ∙ plain_when cells (folded_expr t) (map folded_stmt first)
    ∙ ap (λ x. When x (plain_list cells (map folded_stmt first))) (plain_folded cells t)
    ∙ ap (When (folded_ex (plain_expr cells t))) (alike_list cells s_of ok a)
    ∙ ap folded_st (sym (plain_when cells t first)))
st_layer cells s_of ok (S.If t a (Some b)) =
    let first = map s_of a in
    let other = map s_of b in
    subst (AlikeSt cells) (sym (s.rolls-If t first (Some other)))
    (ap (plain_stmt cells) (folded_is_choice t first other) ∙ plain_choice cells (folded_expr t) (map folded_stmt first) (map folded_stmt other)
    ∙ ap (λ x. Choice x (plain_list cells (map folded_stmt first)) (plain_list cells (map folded_stmt other))) (plain_folded cells t)
    ∙ ap (λ x. Choice (folded_ex (plain_expr cells t)) x (plain_list cells (map folded_stmt other))) (alike_list cells s_of ok a)
    ∙ ap (Choice (folded_ex (plain_expr cells t)) (folded_bl (plain_list cells first))) (alike_list cells s_of ok b)
    ∙ ap folded_st (sym (plain_choice cells t first other)))
st_layer cells s_of ok (S.While c n t a) =
    let body = map s_of a in
    subst (AlikeSt cells) (sym (s.rolls-While c n t body))
    (ap (plain_stmt cells) (folded_is_while c n t body) ∙ plain_while cells c n (folded_expr t) (map folded_stmt body)
    ∙ ap (λ x. Loop c n x (plain_list cells (map folded_stmt body))) (plain_folded cells t)
    ∙ ap (Loop c n (folded_ex (plain_expr cells t))) (alike_list cells s_of ok a)
    ∙ ap folded_st (sym (plain_while cells c n t body)))
st_layer cells s_of ok (S.Scope c n a) =
    let body = map s_of a in
    subst (AlikeSt cells) (sym (s.rolls-Scope c n body))
    (ap (plain_stmt cells) (folded_is_scope c n body) ∙ plain_scope cells c n (map folded_stmt body) ∙ ap (Scoped c n) (alike_list cells s_of ok a)
    ∙ ap folded_st (sym (plain_scope cells c n body)))
st_layer cells s_of ok (S.Mark c n) =
    subst (AlikeSt cells) (sym (s.rolls-Mark c n)) (ap (plain_stmt cells) (folded_is_mark c n) ∙ plain_mark cells c n ∙ ap folded_st (sym (plain_mark cells c n)))
st_layer cells s_of ok (S.Sequence c n l) =
    let loops = map s_of l in
    subst (AlikeSt cells) (sym (s.rolls-Sequence c n loops))
    (ap (plain_stmt cells) (folded_is_sequence c n loops) ∙ plain_sequence cells c n (map folded_stmt loops) ∙ ap (Series c n) (alike_loops cells s_of ok l)
    ∙ ap folded_st (sym (plain_sequence cells c n loops)))

-- a statement
pub plain_folded_st : (cells : List Cell) (x : Stmt) → plain_stmt cells (folded_stmt x) ≡ folded_st (plain_stmt cells x)
plain_folded_st cells = ind-Stmt (AlikeSt cells) (λ x y is. subst (λ (z : S.Stmt-F Stmt). AlikeSt cells (roll-Stmt z)) is (st_layer cells (λ d. d.0) (λ d. d.1) y))

-- the statements of a list
plain_folded_list : (cells : List Cell) (ss : List Stmt) → plain_list cells (map folded_stmt ss) ≡ folded_bl (plain_list cells ss)
plain_folded_list cells [] = refl
plain_folded_list cells (x ∷ xs) =
    ap (λ y. Then y (plain_list cells (map folded_stmt xs))) (plain_folded_st cells x) ∙ ap (Then (folded_st (plain_stmt cells x))) (plain_folded_list cells xs)

-- a function
plain_folded_func : (cells : List Cell) (f : Func) → plain_func cells (folded_func f) ≡ folded_fn (plain_func cells f)
plain_folded_func cells f = λ i. record {
  params = map (place_in cells) f.params;
  body = plain_folded_list cells f.body i;
  answer = plain_folded cells f.answer i;
}

-- functions
plain_folded_funcs : (cells : List Cell) (fs : List Func) → map (plain_func cells) (map folded_func fs) ≡ map folded_fn (map (plain_func cells) fs)
plain_folded_funcs cells [] = refl
plain_folded_funcs cells (f ∷ fs) =
    ap (λ x. x ∷ map (plain_func cells) (map folded_func fs)) (plain_folded_func cells f) ∙ ap (λ xs. folded_fn (plain_func cells f) ∷ xs) (plain_folded_funcs cells fs)

-- the whole task
pub plain_folded_task : (t : Task) → plain_task (folded_task t) ≡ folded_tree (plain_task t)
plain_folded_task t = λ i. record {
  name = t.name;
  cells = t.cells;
  funcs = plain_folded_funcs t.cells t.funcs i;
  body = plain_folded_list t.cells t.body i;
  counters = t.counters;
}
