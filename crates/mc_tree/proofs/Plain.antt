-- One level of a checked tree, as plain data: a line for each variant.
use Rattle.std.proofs.Common.{◌≡◌, ℕ, List, Some, None, ap, ◌∙◌, sym, ℤ}
use Rattle.mars_base.specs.declared.word.BinOp.{BinOp}
use Rattle.mars_base.specs.declared.word.UnOp.{UnOp}
use Rattle.mc_tree.specs.declared.tree.Cell.{Cell}
use Rattle.mc_tree.specs.declared.tree.Expr.{Expr, fold-roll-Expr}
use Rattle.mc_tree.specs.declared.tree.Expr.TheOpen as E
use Rattle.mc_tree.specs.declared.tree.Expr.TheVariants as e
use Rattle.mc_tree.specs.declared.tree.Stmt.{Stmt, fold-roll-Stmt}
use Rattle.mc_tree.specs.declared.tree.Stmt.TheOpen as S
use Rattle.mc_tree.specs.declared.tree.Stmt.TheVariants as s
use Rattle.mc_tree.specs.Tree.{Ex, Num, Var, Elem, Un, Bin, St, Assign, AssignAt, Invoke, When, Choice, Loop, Scoped, Count, Series}
use Rattle.mc_tree.specs.Plain.{place_in, width_in, ex_of, st_of, plain_expr, plain_args, plain_stmt, plain_list, plain_loops}

pub plain_number : (cells : List Cell) (w : ℤ) → plain_expr cells (e.Number w) ≡ Num w
unfolding plain_expr
plain_number cells w = ap (plain_expr cells) (sym (e.rolls-Number w)) ∙ fold-roll-Expr Ex (ex_of cells) (E.Number w)

pub plain_cell : (cells : List Cell) (c : ℕ) → plain_expr cells (e.Cell c) ≡ Var (place_in cells c)
unfolding plain_expr
plain_cell cells c = ap (plain_expr cells) (sym (e.rolls-Cell c)) ∙ fold-roll-Expr Ex (ex_of cells) (E.Cell c)

pub plain_at : (cells : List Cell) (c : ℕ) (i : Expr) → plain_expr cells (e.At c i) ≡ Elem (place_in cells c) (width_in cells c) (plain_expr cells i)
unfolding plain_expr
plain_at cells c i = ap (plain_expr cells) (sym (e.rolls-At c i)) ∙ fold-roll-Expr Ex (ex_of cells) (E.At c i)

pub plain_unary : (cells : List Cell) (op : UnOp) (a : Expr) → plain_expr cells (e.Unary op a) ≡ Un op (plain_expr cells a)
unfolding plain_expr
plain_unary cells op a = ap (plain_expr cells) (sym (e.rolls-Unary op a)) ∙ fold-roll-Expr Ex (ex_of cells) (E.Unary op a)

pub plain_binary : (cells : List Cell) (op : BinOp) (l r : Expr) → plain_expr cells (e.Binary op l r) ≡ Bin op (plain_expr cells l) (plain_expr cells r)
unfolding plain_expr
plain_binary cells op l r = ap (plain_expr cells) (sym (e.rolls-Binary op l r)) ∙ fold-roll-Expr Ex (ex_of cells) (E.Binary op l r)

pub plain_set : (cells : List Cell) (c : ℕ) (v : Expr) → plain_stmt cells (s.Set c v) ≡ Assign (place_in cells c) (plain_expr cells v)
unfolding plain_stmt
plain_set cells c v = ap (plain_stmt cells) (sym (s.rolls-Set c v)) ∙ fold-roll-Stmt St (st_of cells) (S.Set c v)

pub plain_set_at : (cells : List Cell) (c : ℕ) (i v : Expr) → plain_stmt cells (s.SetAt c i v) ≡ AssignAt (place_in cells c) (width_in cells c) (plain_expr cells i) (plain_expr cells v)
unfolding plain_stmt
plain_set_at cells c i v = ap (plain_stmt cells) (sym (s.rolls-SetAt c i v)) ∙ fold-roll-Stmt St (st_of cells) (S.SetAt c i v)

pub plain_call : (cells : List Cell) (c g : ℕ) (args : List Expr) → plain_stmt cells (s.Call c g args) ≡ Invoke (place_in cells c) g (plain_args cells args)
unfolding plain_stmt
plain_call cells c g args = ap (plain_stmt cells) (sym (s.rolls-Call c g args)) ∙ fold-roll-Stmt St (st_of cells) (S.Call c g args)

pub plain_when : (cells : List Cell) (t : Expr) (a : List Stmt) → plain_stmt cells (s.If t a None) ≡ When (plain_expr cells t) (plain_list cells a)
unfolding plain_stmt
plain_when cells t a = ap (plain_stmt cells) (sym (s.rolls-If t a None)) ∙ fold-roll-Stmt St (st_of cells) (S.If t a None)

pub plain_choice : (cells : List Cell) (t : Expr) (a b : List Stmt) → plain_stmt cells (s.If t a (Some b)) ≡ Choice (plain_expr cells t) (plain_list cells a) (plain_list cells b)
unfolding plain_stmt
plain_choice cells t a b = ap (plain_stmt cells) (sym (s.rolls-If t a (Some b))) ∙ fold-roll-Stmt St (st_of cells) (S.If t a (Some b))

pub plain_while : (cells : List Cell) (c n : ℕ) (t : Expr) (a : List Stmt) → plain_stmt cells (s.While c n t a) ≡ Loop c n (plain_expr cells t) (plain_list cells a)
unfolding plain_stmt
plain_while cells c n t a = ap (plain_stmt cells) (sym (s.rolls-While c n t a)) ∙ fold-roll-Stmt St (st_of cells) (S.While c n t a)

pub plain_scope : (cells : List Cell) (c n : ℕ) (a : List Stmt) → plain_stmt cells (s.Scope c n a) ≡ Scoped c n (plain_list cells a)
unfolding plain_stmt
plain_scope cells c n a = ap (plain_stmt cells) (sym (s.rolls-Scope c n a)) ∙ fold-roll-Stmt St (st_of cells) (S.Scope c n a)

pub plain_mark : (cells : List Cell) (c n : ℕ) → plain_stmt cells (s.Mark c n) ≡ Count c n
unfolding plain_stmt
plain_mark cells c n = ap (plain_stmt cells) (sym (s.rolls-Mark c n)) ∙ fold-roll-Stmt St (st_of cells) (S.Mark c n)

pub plain_sequence : (cells : List Cell) (c n : ℕ) (l : List Stmt) → plain_stmt cells (s.Sequence c n l) ≡ Series c n (plain_loops cells l)
unfolding plain_stmt
plain_sequence cells c n l = ap (plain_stmt cells) (sym (s.rolls-Sequence c n l)) ∙ fold-roll-Stmt St (st_of cells) (S.Sequence c n l)

pub ruleset plain_rules = (plain_number, plain_cell, plain_at, plain_unary, plain_binary, plain_set, plain_set_at, plain_call, plain_when, plain_choice, plain_while, plain_scope, plain_mark, plain_sequence)
