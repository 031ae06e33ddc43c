-- A checked task as the code holds it. Its plain tree is a checked one, and shows all of it: no number of a cell or a
-- function is without its cell or function, and a sequence has whiles alone, so that two checked tasks of one plain
-- tree are the same. Its nodes are counted by 32 bits, so that the length of its code is counted by 64.
-- This project's own.
use Rattle.std.specs.Prelude.{◌≡◌, ℕ, ◌<◌, ◌≤◌, List, [], ◌∷◌, length, map, Option, Some, None, Bool, true, false, ◌&&◌, nat_lt, IsTrue}
use Rattle.std.specs.List.{All, list_all}
use Rattle.mc_tree.specs.declared.tree.Func.{Func}
use Rattle.mc_tree.specs.declared.tree.Task.{Task}
use Rattle.mc_tree.specs.declared.tree.Expr.{Expr}
use Rattle.mc_tree.specs.declared.tree.Expr.TheFolds.{fold-Expr}
use Rattle.mc_tree.specs.declared.tree.Expr.TheOpen as E
use Rattle.mc_tree.specs.declared.tree.Stmt.{Stmt}
use Rattle.mc_tree.specs.declared.tree.Stmt.TheFolds.{fold-Stmt}
use Rattle.mc_tree.specs.declared.tree.Stmt.TheOpen as S
use Rattle.mc_tree.specs.Plain.{plain_task}
use Rattle.mc_tree.specs.Size.{tree_nodes}
use Rattle.mc_tree.specs.Checked.{IsChecked}

-- whether each cell number of an expression is below the number of cells
abbrev pub names_in : (cells : ℕ) → E.Expr-F Bool → Bool
names_in cells (E.Number w) = true
names_in cells (E.Cell c) = nat_lt c cells
names_in cells (E.At c i) = nat_lt c cells && i
names_in cells (E.Unary op a) = a
names_in cells (E.Binary op l r) = l && r

unfoldable pub is_expr_within : (cells : ℕ) → Expr → Bool
is_expr_within cells e = fold-Expr Bool (names_in cells) e

-- what is looked for in a statement: whether its numbers have their cells and functions and its sequences are of
-- whiles alone; and whether it is a while itself
pub record Look : Type 0 where
  pub within : Bool
  pub loop : Bool

abbrev pub all_within : List Look → Bool
all_within [] = true
all_within (s ∷ ss) = s.within && all_within ss

abbrev pub all_loops : List Look → Bool
all_loops [] = true
all_loops (s ∷ ss) = s.loop && all_loops ss

abbrev pub within_option : Option (List Look) → Bool
within_option None = true
within_option (Some ss) = all_within ss

abbrev pub plainly : Bool → Look
plainly b = record { within = b; loop = false }

abbrev pub look_at : (cells funcs : ℕ) → S.Stmt-F Look → Look
look_at cells funcs (S.Set c e) = plainly (nat_lt c cells && is_expr_within cells e)
look_at cells funcs (S.SetAt c i e) = plainly (nat_lt c cells && (is_expr_within cells i && is_expr_within cells e))
look_at cells funcs (S.Call c g args) = plainly (nat_lt c cells && (nat_lt g funcs && list_all (is_expr_within cells) args))
look_at cells funcs (S.If t a b) = plainly (is_expr_within cells t && (all_within a && within_option b))
look_at cells funcs (S.While c n t a) = record { within = is_expr_within cells t && all_within a; loop = true }
look_at cells funcs (S.Scope c n a) = plainly (all_within a)
look_at cells funcs (S.Mark c n) = plainly true
look_at cells funcs (S.Sequence c n l) = plainly (all_loops l && all_within l)

unfoldable pub look_stmt : (cells funcs : ℕ) → Stmt → Look
look_stmt cells funcs s = fold-Stmt Look (look_at cells funcs) s

-- the statements of a list
abbrev pub IsWithin : (cells funcs : ℕ) → List Stmt → Type 0
IsWithin cells funcs ss = IsTrue (all_within (map (look_stmt cells funcs) ss))

pub record IsFuncWithin (cells funcs : ℕ) (f : Func) : Type 0 where
  pub params : All (λ (c : ℕ). c < cells) f.params
  pub body : IsWithin cells funcs f.body
  pub answer : IsTrue (is_expr_within cells f.answer)

pub record IsCheckedTask (t : Task) : Type 0 where
  pub tree : IsChecked (plain_task t)
  pub funcs : All (IsFuncWithin (length t.cells) (length t.funcs)) t.funcs
  pub body : IsWithin (length t.cells) (length t.funcs) t.body
  pub size : tree_nodes (plain_task t) < 4294967296
