-- One level of a checked tree, as what `IsCheckedTask` looks for: a line for each variant.
use Rattle.std.proofs.Common.{◌≡◌, ℕ, List, Some, None, map, Bool, true, ap, ◌∙◌, sym, ℤ}
use Rattle.std.specs.Prelude.{◌&&◌, nat_lt}
use Rattle.std.specs.List.{list_all}
use Rattle.mars_base.specs.declared.word.BinOp.{BinOp}
use Rattle.mars_base.specs.declared.word.UnOp.{UnOp}
use Rattle.mc_tree.specs.declared.tree.Expr.{Expr, fold-roll-Expr}
use Rattle.mc_tree.specs.declared.tree.Expr.TheOpen as E
use Rattle.mc_tree.specs.declared.tree.Expr.TheVariants as e
use Rattle.mc_tree.specs.declared.tree.Stmt.{Stmt, fold-roll-Stmt}
use Rattle.mc_tree.specs.declared.tree.Stmt.TheOpen as S
use Rattle.mc_tree.specs.declared.tree.Stmt.TheVariants as s
use Rattle.mc_tree.specs.CheckedTask.{names_in, is_expr_within, Look, look_at, look_stmt, plainly, all_within, all_loops, within_option}

module _ (cells : ℕ) where
  pub within_number : (w : ℤ) → is_expr_within cells (e.Number w) ≡ true
  unfolding is_expr_within
  within_number w = ap (is_expr_within cells) (sym (e.rolls-Number w)) ∙ fold-roll-Expr Bool (names_in cells) (E.Number w)

  pub within_cell : (c : ℕ) → is_expr_within cells (e.Cell c) ≡ nat_lt c cells
  unfolding is_expr_within
  within_cell c = ap (is_expr_within cells) (sym (e.rolls-Cell c)) ∙ fold-roll-Expr Bool (names_in cells) (E.Cell c)

  pub within_at : (c : ℕ) (i : Expr) → is_expr_within cells (e.At c i) ≡ (nat_lt c cells && is_expr_within cells i)
  unfolding is_expr_within
  within_at c i = ap (is_expr_within cells) (sym (e.rolls-At c i)) ∙ fold-roll-Expr Bool (names_in cells) (E.At c i)

  pub within_unary : (op : UnOp) (a : Expr) → is_expr_within cells (e.Unary op a) ≡ is_expr_within cells a
  unfolding is_expr_within
  within_unary op a = ap (is_expr_within cells) (sym (e.rolls-Unary op a)) ∙ fold-roll-Expr Bool (names_in cells) (E.Unary op a)

  pub within_binary : (op : BinOp) (l r : Expr) → is_expr_within cells (e.Binary op l r) ≡ (is_expr_within cells l && is_expr_within cells r)
  unfolding is_expr_within
  within_binary op l r = ap (is_expr_within cells) (sym (e.rolls-Binary op l r)) ∙ fold-roll-Expr Bool (names_in cells) (E.Binary op l r)

module _ (cells funcs : ℕ) where
  -- what is looked for in the statements of a list
  abbrev pub looks : List Stmt → List Look
  looks ss = map (look_stmt cells funcs) ss

  pub look_set : (c : ℕ) (v : Expr) → look_stmt cells funcs (s.Set c v) ≡ plainly (nat_lt c cells && is_expr_within cells v)
  unfolding look_stmt
  look_set c v = ap (look_stmt cells funcs) (sym (s.rolls-Set c v)) ∙ fold-roll-Stmt Look (look_at cells funcs) (S.Set c v)

  pub look_set_at : (c : ℕ) (i v : Expr) → look_stmt cells funcs (s.SetAt c i v) ≡ plainly (nat_lt c cells && (is_expr_within cells i && is_expr_within cells v))
  unfolding look_stmt
  look_set_at c i v = ap (look_stmt cells funcs) (sym (s.rolls-SetAt c i v)) ∙ fold-roll-Stmt Look (look_at cells funcs) (S.SetAt c i v)

  pub look_call : (c g : ℕ) (args : List Expr) → look_stmt cells funcs (s.Call c g args) ≡ plainly (nat_lt c cells && (nat_lt g funcs && list_all (is_expr_within cells) args))
  unfolding look_stmt
  look_call c g args = ap (look_stmt cells funcs) (sym (s.rolls-Call c g args)) ∙ fold-roll-Stmt Look (look_at cells funcs) (S.Call c g args)

  pub look_when : (t : Expr) (a : List Stmt) → look_stmt cells funcs (s.If t a None) ≡ plainly (is_expr_within cells t && (all_within (looks a) && true))
  unfolding look_stmt
  look_when t a = ap (look_stmt cells funcs) (sym (s.rolls-If t a None)) ∙ fold-roll-Stmt Look (look_at cells funcs) (S.If t a None)

  pub look_choice : (t : Expr) (a b : List Stmt) → look_stmt cells funcs (s.If t a (Some b)) ≡ plainly (is_expr_within cells t && (all_within (looks a) && all_within (looks b)))
  unfolding look_stmt
  look_choice t a b = ap (look_stmt cells funcs) (sym (s.rolls-If t a (Some b))) ∙ fold-roll-Stmt Look (look_at cells funcs) (S.If t a (Some b))

  pub look_while : (c n : ℕ) (t : Expr) (a : List Stmt) → look_stmt cells funcs (s.While c n t a) ≡ record { within = is_expr_within cells t && all_within (looks a); loop = true }
  unfolding look_stmt
  look_while c n t a = ap (look_stmt cells funcs) (sym (s.rolls-While c n t a)) ∙ fold-roll-Stmt Look (look_at cells funcs) (S.While c n t a)

  pub look_scope : (c n : ℕ) (a : List Stmt) → look_stmt cells funcs (s.Scope c n a) ≡ plainly (all_within (looks a))
  unfolding look_stmt
  look_scope c n a = ap (look_stmt cells funcs) (sym (s.rolls-Scope c n a)) ∙ fold-roll-Stmt Look (look_at cells funcs) (S.Scope c n a)

  pub look_mark : (c n : ℕ) → look_stmt cells funcs (s.Mark c n) ≡ plainly true
  unfolding look_stmt
  look_mark c n = ap (look_stmt cells funcs) (sym (s.rolls-Mark c n)) ∙ fold-roll-Stmt Look (look_at cells funcs) (S.Mark c n)

  pub look_sequence : (c n : ℕ) (l : List Stmt) → look_stmt cells funcs (s.Sequence c n l) ≡ plainly (all_loops (looks l) && all_within (looks l))
  unfolding look_stmt
  look_sequence c n l = ap (look_stmt cells funcs) (sym (s.rolls-Sequence c n l)) ∙ fold-roll-Stmt Look (look_at cells funcs) (S.Sequence c n l)
