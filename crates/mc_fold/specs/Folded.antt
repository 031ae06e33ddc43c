-- Folding: each operator whose operands, folded themselves, are numbers and which has a word for them becomes that
-- word. Nothing else changes; so `1 / 0` stays, and still breaks.
-- This project's own.
use Rattle.std.specs.Prelude.{ℤ, map, Option, Some, None}
use Rattle.mars_base.specs.declared.word.BinOp.{BinOp}
use Rattle.mars_base.specs.declared.word.UnOp.{UnOp}
use Rattle.mars_base.specs.Word.{binary_of, unary_of}
use Rattle.mc_tree.specs.Meaning.{both, then_word}
use Rattle.mc_tree.specs.declared.tree.Func.{Func}
use Rattle.mc_tree.specs.declared.tree.Task.{Task}
use Rattle.mc_tree.specs.declared.tree.Expr.{Expr}
use Rattle.mc_tree.specs.declared.tree.Expr.TheFolds.{fold-Expr}
use Rattle.mc_tree.specs.declared.tree.Expr.TheViews.{out-Expr}
use Rattle.mc_tree.specs.declared.tree.Expr.TheOpen as E
use Rattle.mc_tree.specs.declared.tree.Expr.TheVariants as e
use Rattle.mc_tree.specs.declared.tree.Stmt.{Stmt}
use Rattle.mc_tree.specs.declared.tree.Stmt.TheFolds.{fold-Stmt}
use Rattle.mc_tree.specs.declared.tree.Stmt.TheOpen as S
use Rattle.mc_tree.specs.declared.tree.Stmt.TheVariants as s

-- the number that an expression is, where it is one
abbrev pub number_in : E.Expr-F Expr → Option ℤ
number_in (E.Number w) = Some w
number_in (E.Cell c) = None
number_in (E.At c i) = None
number_in (E.Unary op a) = None
number_in (E.Binary op l r) = None

unfoldable pub number_of : Expr → Option ℤ
number_of x = number_in (out-Expr x)

-- the word where there is one, and else the expression as it stands
abbrev pub or_number : Option ℤ → Expr → Expr
or_number None x = x
or_number (Some w) x = e.Number w

-- an operator over folded operands
abbrev pub folded_unary : UnOp → Expr → Expr
folded_unary op a = or_number (then_word (number_of a) (λ w. Some (unary_of op w))) (e.Unary op a)

abbrev pub folded_binary : BinOp → Expr → Expr → Expr
folded_binary op l r = or_number (both (binary_of op) (number_of l) (number_of r)) (e.Binary op l r)

abbrev pub folded_part : E.Expr-F Expr → Expr
folded_part (E.Number w) = e.Number w
folded_part (E.Cell c) = e.Cell c
folded_part (E.At c i) = e.At c i
folded_part (E.Unary op a) = folded_unary op a
folded_part (E.Binary op l r) = folded_binary op l r

unfoldable pub folded_expr : Expr → Expr
folded_expr x = fold-Expr Expr folded_part x

-- a statement over folded statements
abbrev pub folded_step : S.Stmt-F Stmt → Stmt
folded_step (S.Set c v) = s.Set c (folded_expr v)
folded_step (S.SetAt c i v) = s.SetAt c (folded_expr i) (folded_expr v)
folded_step (S.Call c g args) = s.Call c g (map folded_expr args)
folded_step (S.If t a b) = s.If (folded_expr t) a b
folded_step (S.While c n t a) = s.While c n (folded_expr t) a
folded_step (S.Scope c n a) = s.Scope c n a
folded_step (S.Mark c n) = s.Mark c n
folded_step (S.Sequence c n l) = s.Sequence c n l

unfoldable pub folded_stmt : Stmt → Stmt
folded_stmt x = fold-Stmt Stmt folded_step x

abbrev pub folded_func : Func → Func
folded_func f = record { params = f.params; body = map folded_stmt f.body; answer = folded_expr f.answer }

abbrev pub folded_task : Task → Task
folded_task t = record {
  name = t.name;
  cells = t.cells;
  funcs = map folded_func t.funcs;
  body = map folded_stmt t.body;
  counters = t.counters;
}
