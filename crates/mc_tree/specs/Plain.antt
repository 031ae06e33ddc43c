-- What a checked tree of the code is as plain data.
-- This project's own.
use Rattle.std.specs.Prelude.{ℕ, List, [], ◌∷◌, map, Option, Some, None, slice_get}
use Rattle.mc_tree.specs.declared.tree.Cell.{Cell}
use Rattle.mc_tree.specs.declared.tree.Func.{Func}
use Rattle.mc_tree.specs.declared.tree.Task.{Task}
use Rattle.mc_tree.specs.declared.tree.Expr.{Expr}
use Rattle.mc_tree.specs.declared.tree.Expr.TheFolds.{fold-Expr}
use Rattle.mc_tree.specs.declared.tree.Expr.TheOpen as E
use Rattle.mc_tree.specs.declared.tree.Stmt.{Stmt}
use Rattle.mc_tree.specs.declared.tree.Stmt.TheFolds.{fold-Stmt}
use Rattle.mc_tree.specs.declared.tree.Stmt.TheOpen as S
use Rattle.mc_tree.specs.Tree.{Ex, Num, Var, Elem, Un, Bin, St, Assign, AssignAt, Invoke, When, Choice, Loop, Scoped, Count, Series, Bl, Nil, Then, Ls, NoLoop, OneLoop, Fn, Tree}

-- the place and the width of the cell of a number; a checked tree names no others
abbrev pub place_or_0 : Option Cell → ℕ
place_or_0 None = 0
place_or_0 (Some cell) = cell.place

abbrev pub width_or_0 : Option Cell → ℕ
width_or_0 None = 0
width_or_0 (Some cell) = cell.width

abbrev pub place_in : List Cell → ℕ → ℕ
place_in cells c = place_or_0 (slice_get cells c)

abbrev pub width_in : List Cell → ℕ → ℕ
width_in cells c = width_or_0 (slice_get cells c)

abbrev pub ex_of : List Cell → E.Expr-F Ex → Ex
ex_of cells (E.Number w) = Num w
ex_of cells (E.Cell c) = Var (place_in cells c)
ex_of cells (E.At c i) = Elem (place_in cells c) (width_in cells c) i
ex_of cells (E.Unary op a) = Un op a
ex_of cells (E.Binary op l r) = Bin op l r

unfoldable pub plain_expr : List Cell → Expr → Ex
plain_expr cells e = fold-Expr Ex (ex_of cells) e

abbrev pub plain_args : List Cell → List Expr → List Ex
plain_args cells es = map (plain_expr cells) es

abbrev pub block_of : List St → Bl
block_of [] = Nil
block_of (s ∷ ss) = Then s (block_of ss)

abbrev pub choice_of : Ex → Bl → Option (List St) → St
choice_of t a None = When t a
choice_of t a (Some b) = Choice t a (block_of b)

-- the loops of a sequence; a checked tree has nothing else in one
abbrev pub loop_before : St → Ls → Ls
loop_before (Loop c n t a) rest = OneLoop c n t a rest
loop_before (Assign c e) rest = rest
loop_before (AssignAt c w i e) rest = rest
loop_before (Invoke c g args) rest = rest
loop_before (When t a) rest = rest
loop_before (Choice t a b) rest = rest
loop_before (Scoped c n a) rest = rest
loop_before (Count c n) rest = rest
loop_before (Series c n l) rest = rest

abbrev pub series_of : List St → Ls
series_of [] = NoLoop
series_of (s ∷ ss) = loop_before s (series_of ss)

abbrev pub st_of : List Cell → S.Stmt-F St → St
st_of cells (S.Set c e) = Assign (place_in cells c) (plain_expr cells e)
st_of cells (S.SetAt c i e) = AssignAt (place_in cells c) (width_in cells c) (plain_expr cells i) (plain_expr cells e)
st_of cells (S.Call c g args) = Invoke (place_in cells c) g (plain_args cells args)
st_of cells (S.If t a b) = choice_of (plain_expr cells t) (block_of a) b
st_of cells (S.While c n t a) = Loop c n (plain_expr cells t) (block_of a)
st_of cells (S.Scope c n a) = Scoped c n (block_of a)
st_of cells (S.Mark c n) = Count c n
st_of cells (S.Sequence c n l) = Series c n (series_of l)

unfoldable pub plain_stmt : List Cell → Stmt → St
plain_stmt cells s = fold-Stmt St (st_of cells) s

abbrev pub plain_list : List Cell → List Stmt → Bl
plain_list cells ss = block_of (map (plain_stmt cells) ss)

-- the loops of a sequence
abbrev pub plain_loops : List Cell → List Stmt → Ls
plain_loops cells ss = series_of (map (plain_stmt cells) ss)

abbrev pub plain_func : List Cell → Func → Fn
plain_func cells f = record {
  params = map (place_in cells) f.params;
  body = plain_list cells f.body;
  answer = plain_expr cells f.answer;
}

abbrev pub plain_task : Task → Tree
plain_task t = record {
  name = t.name;
  cells = t.cells;
  funcs = map (plain_func t.cells) t.funcs;
  body = plain_list t.cells t.body;
  counters = t.counters;
}
