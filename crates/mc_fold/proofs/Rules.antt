-- One level of a folded tree: a line for each variant.
use Rattle.std.proofs.Common.{◌≡◌, ℕ, ℤ, List, Some, None, map, ap, ◌∙◌, sym}
use Rattle.mars_base.specs.declared.word.BinOp.{BinOp}
use Rattle.mars_base.specs.declared.word.UnOp.{UnOp}
use Rattle.mc_tree.specs.declared.tree.Expr.{Expr, fold-roll-Expr}
use Rattle.mc_tree.specs.declared.tree.Expr.TheOpen as E
use Rattle.mc_tree.specs.declared.tree.Expr.TheVariants as e
use Rattle.mc_tree.specs.declared.tree.Stmt.{Stmt, fold-roll-Stmt}
use Rattle.mc_tree.specs.declared.tree.Stmt.TheOpen as S
use Rattle.mc_tree.specs.declared.tree.Stmt.TheVariants as s
use Rattle.mc_fold.specs.Folded.{number_in, number_of, folded_unary, folded_binary, folded_part, folded_expr, folded_step, folded_stmt}

-- the number of an expression
pub number_number : (w : ℤ) → number_of (e.Number w) ≡ Some w
unfolding number_of
number_number w = ap number_in (e.outs-Number w)

pub number_cell : (c : ℕ) → number_of (e.Cell c) ≡ None
unfolding number_of
number_cell c = ap number_in (e.outs-Cell c)

pub number_at : (c : ℕ) (i : Expr) → number_of (e.At c i) ≡ None
unfolding number_of
number_at c i = ap number_in (e.outs-At c i)

pub number_unary : (op : UnOp) (a : Expr) → number_of (e.Unary op a) ≡ None
unfolding number_of
number_unary op a = ap number_in (e.outs-Unary op a)

pub number_binary : (op : BinOp) (l r : Expr) → number_of (e.Binary op l r) ≡ None
unfolding number_of
number_binary op l r = ap number_in (e.outs-Binary op l r)

-- a folded expression
pub folded_is_number : (w : ℤ) → folded_expr (e.Number w) ≡ e.Number w
unfolding folded_expr
folded_is_number w = ap folded_expr (sym (e.rolls-Number w)) ∙ fold-roll-Expr Expr folded_part (E.Number w)

pub folded_is_cell : (c : ℕ) → folded_expr (e.Cell c) ≡ e.Cell c
unfolding folded_expr
folded_is_cell c = ap folded_expr (sym (e.rolls-Cell c)) ∙ fold-roll-Expr Expr folded_part (E.Cell c)

pub folded_is_at : (c : ℕ) (i : Expr) → folded_expr (e.At c i) ≡ e.At c (folded_expr i)
unfolding folded_expr
folded_is_at c i = ap folded_expr (sym (e.rolls-At c i)) ∙ fold-roll-Expr Expr folded_part (E.At c i)

pub folded_is_unary : (op : UnOp) (a : Expr) → folded_expr (e.Unary op a) ≡ folded_unary op (folded_expr a)
unfolding folded_expr
folded_is_unary op a = ap folded_expr (sym (e.rolls-Unary op a)) ∙ fold-roll-Expr Expr folded_part (E.Unary op a)

pub folded_is_binary : (op : BinOp) (l r : Expr) → folded_expr (e.Binary op l r) ≡ folded_binary op (folded_expr l) (folded_expr r)
unfolding folded_expr
folded_is_binary op l r = ap folded_expr (sym (e.rolls-Binary op l r)) ∙ fold-roll-Expr Expr folded_part (E.Binary op l r)

-- a folded statement
pub folded_is_set : (c : ℕ) (v : Expr) → folded_stmt (s.Set c v) ≡ s.Set c (folded_expr v)
unfolding folded_stmt
folded_is_set c v = ap folded_stmt (sym (s.rolls-Set c v)) ∙ fold-roll-Stmt Stmt folded_step (S.Set c v)

pub folded_is_set_at : (c : ℕ) (i v : Expr) → folded_stmt (s.SetAt c i v) ≡ s.SetAt c (folded_expr i) (folded_expr v)
unfolding folded_stmt
folded_is_set_at c i v = ap folded_stmt (sym (s.rolls-SetAt c i v)) ∙ fold-roll-Stmt Stmt folded_step (S.SetAt c i v)

pub folded_is_call : (c g : ℕ) (args : List Expr) → folded_stmt (s.Call c g args) ≡ s.Call c g (map folded_expr args)
unfolding folded_stmt
folded_is_call c g args = ap folded_stmt (sym (s.rolls-Call c g args)) ∙ fold-roll-Stmt Stmt folded_step (S.Call c g args)

pub folded_is_when : (t : Expr) (a : List Stmt) → folded_stmt (s.If t a None) ≡ s.If (folded_expr t) (map folded_stmt a) None
unfolding folded_stmt
folded_is_when t a = ap folded_stmt (sym (s.rolls-If t a None)) ∙ fold-roll-Stmt Stmt folded_step (S.If t a None)

pub folded_is_choice : (t : Expr) (a b : List Stmt) → folded_stmt (s.If t a (Some b)) ≡ s.If (folded_expr t) (map folded_stmt a) (Some (map folded_stmt b))
unfolding folded_stmt
folded_is_choice t a b = ap folded_stmt (sym (s.rolls-If t a (Some b))) ∙ fold-roll-Stmt Stmt folded_step (S.If t a (Some b))

pub folded_is_while : (c n : ℕ) (t : Expr) (a : List Stmt) → folded_stmt (s.While c n t a) ≡ s.While c n (folded_expr t) (map folded_stmt a)
unfolding folded_stmt
folded_is_while c n t a = ap folded_stmt (sym (s.rolls-While c n t a)) ∙ fold-roll-Stmt Stmt folded_step (S.While c n t a)

pub folded_is_scope : (c n : ℕ) (a : List Stmt) → folded_stmt (s.Scope c n a) ≡ s.Scope c n (map folded_stmt a)
unfolding folded_stmt
folded_is_scope c n a = ap folded_stmt (sym (s.rolls-Scope c n a)) ∙ fold-roll-Stmt Stmt folded_step (S.Scope c n a)

pub folded_is_mark : (c n : ℕ) → folded_stmt (s.Mark c n) ≡ s.Mark c n
unfolding folded_stmt
folded_is_mark c n = ap folded_stmt (sym (s.rolls-Mark c n)) ∙ fold-roll-Stmt Stmt folded_step (S.Mark c n)

pub folded_is_sequence : (c n : ℕ) (l : List Stmt) → folded_stmt (s.Sequence c n l) ≡ s.Sequence c n (map folded_stmt l)
unfolding folded_stmt
folded_is_sequence c n l = ap folded_stmt (sym (s.rolls-Sequence c n l)) ∙ fold-roll-Stmt Stmt folded_step (S.Sequence c n l)

pub ruleset number_rules = (number_number, number_cell, number_at, number_unary, number_binary)

pub ruleset fold_rules = (folded_is_number, folded_is_cell, folded_is_at, folded_is_unary, folded_is_binary, folded_is_set, folded_is_set_at, folded_is_call, folded_is_when, folded_is_choice, folded_is_while, folded_is_scope, folded_is_mark, folded_is_sequence)
