-- The checked task of a raw one: names become the numbers of cells and functions, in declared order, and each while,
-- scope and sequence has the next counter in text order. It is given for every raw tree: a name without its cell and a
-- number above its range become 0.
-- This project's own language.
use Rattle.std.specs.Prelude.{ℕ, ◌+◌, pos, Option, Some, None, List, [], ◌∷◌, ◌++◌, if◌then◌else◌, nat_le, map, length}
use Rattle.mc_tree.specs.declared.raw.Name.{Name}
use Rattle.mc_tree.specs.declared.raw.RawDecl.{RawDecl}
use Rattle.mc_tree.specs.declared.symbol.Symbol.{Symbol}
use Rattle.mc_tree.specs.declared.symbol.Symbol.TheVariants as symbol
use Rattle.mc_tree.specs.declared.symbol.Callee.{Callee}
use Rattle.mc_tree.specs.declared.tree.Expr.{Expr}
use Rattle.mc_tree.specs.declared.tree.Expr.TheVariants as e
use Rattle.mc_tree.specs.declared.tree.Stmt.{Stmt}
use Rattle.mc_tree.specs.declared.tree.Stmt.TheVariants as s
use Rattle.mc_tree.specs.declared.tree.Func.{Func as CheckedFunc}
use Rattle.mc_tree.specs.declared.tree.Cell.{Cell as CheckedCell}
use Rattle.mc_tree.specs.declared.tree.Task.{Task as CheckedTask}
use Rattle.mc_tree.specs.Symbols.{Table, look, declare}
use Rattle.mc_tree.specs.Raw.{Ex, Num, Cell, At, Un, Bin, St, Set, SetAt, Call, If, While, Scope, Mark, Sequence, Bl, Nil, Then, Else, Nothing, Otherwise, Func, Body, Task}
use Rattle.mc_tree.specs.Sites.{Outside, Sofar, means, counted, scoped, st_after, bl_after}
use Rattle.mc_tree.specs.TaskSites.{width_of, decl_after, decls_after, param_of, fn_after, enter, with_function, with_functions, fns_after, at_first, callees_from}

-- the number itself up to the limit, and 0 above
abbrev pub up_to : ℕ → ℕ → ℕ
up_to limit n = if nat_le n limit then n else 0

abbrev pub cell_of : Option Symbol → ℕ
cell_of None = 0
cell_of (Some symbol.Func) = 0
cell_of (Some symbol.Scope) = 0
cell_of (Some (symbol.Cell number width)) = number

abbrev pub numbered_ex : Outside → Table Symbol → Ex → Expr
numbered_ex o t (Num n) = e.Number (pos (up_to 2147483647 n.value))
numbered_ex o t (Cell n) = e.Cell (cell_of (means o t n))
numbered_ex o t (At n i s) = e.At (cell_of (means o t n)) (numbered_ex o t i)
numbered_ex o t (Un op a s) = e.Unary op (numbered_ex o t a)
numbered_ex o t (Bin op l r s) = e.Binary op (numbered_ex o t l) (numbered_ex o t r)

abbrev pub numbered_args : Outside → Table Symbol → List Ex → List Expr
numbered_args o t es = map (numbered_ex o t) es

abbrev pub func_of : Option Callee → ℕ
func_of None = 0
func_of (Some f) = up_to 255 f.number

-- In the innermost scope of the counter c and the bound k.
abbrev mutual
  pub numbered_st : Outside → ℕ → ℕ → Sofar → St → Stmt
  numbered_st o c k f (Set n e p) = s.Set (cell_of (means o f.locals n)) (numbered_ex o f.locals e)
  numbered_st o c k f (SetAt n i e p) = s.SetAt (cell_of (means o f.locals n)) (numbered_ex o f.locals i) (numbered_ex o f.locals e)
  numbered_st o c k f (Call n g es p) = s.Call (cell_of (means o f.locals n)) (func_of (look g.text o.callees)) (numbered_args o f.locals es)
  numbered_st o c k f (If t a b p) = s.If (numbered_ex o f.locals t) (numbered_bl o c k f a) (numbered_else o c k (bl_after a f) b)
  numbered_st o c k f (While n t a p) = s.While (up_to 255 f.counters) (up_to 65535 n.value) (numbered_ex o f.locals t) (numbered_bl o c k (counted f) a)
  numbered_st o c k f (Scope n b a p) = s.Scope (up_to 255 f.counters) (up_to 65535 b.value) (numbered_bl o (up_to 255 f.counters) (up_to 65535 b.value) (scoped n f) a)
  numbered_st o c k f (Mark n p) = s.Mark c k
  numbered_st o c k f (Sequence n a p) = s.Sequence (up_to 255 f.counters) (up_to 65535 n.value) (numbered_bl o c k (counted f) a)

  pub numbered_bl : Outside → ℕ → ℕ → Sofar → Bl → List Stmt
  numbered_bl o c k f Nil = []
  numbered_bl o c k f (Then a rest) = numbered_st o c k f a ∷ numbered_bl o c k (st_after a f) rest

  pub numbered_else : Outside → ℕ → ℕ → Sofar → Else → Option (List Stmt)
  numbered_else o c k f Nothing = None
  numbered_else o c k f (Otherwise b) = Some (numbered_bl o c k f b)

-- the cells of declarations; a place follows the words before it
abbrev pub cell_at : Sofar → RawDecl → CheckedCell
cell_at f d = record { role = d.role; name = d.name.text; place = up_to 65535 f.words; width = up_to 65535 (width_of d.width) }

abbrev pub decls_cells : Sofar → List RawDecl → List CheckedCell
decls_cells f [] = []
decls_cells f (d ∷ ds) = cell_at f d ∷ decls_cells (decl_after d f) ds

-- a function; its parameters are the next cells
abbrev pub params_at : Sofar → List Name → List ℕ
params_at f [] = []
params_at f (n ∷ ns) = f.cells ∷ params_at (decl_after (param_of n) f) ns

abbrev pub fn_cells : Sofar → Func → List CheckedCell
fn_cells f g = decls_cells f (map param_of g.params) ++ decls_cells (decls_after (map param_of g.params) f) g.locals

abbrev pub numbered_fn : Outside → Sofar → Func → CheckedFunc
numbered_fn o f g = record {
  params = params_at f g.params;
  body = numbered_bl o 0 0 (decls_after g.locals (decls_after (map param_of g.params) f)) g.body;
  answer = numbered_ex o (fn_after g f).locals g.answer;
}

abbrev pub fns_cells : Sofar → List Func → List CheckedCell
fns_cells f [] = []
fns_cells f (g ∷ gs) = fn_cells (enter f) g ++ fns_cells (fn_after g (enter f)) gs

abbrev pub numbered_fns : Table Callee → Table Symbol → ℕ → Sofar → List Func → List CheckedFunc
numbered_fns callees globals i f [] = []
numbered_fns callees globals i f (g ∷ gs) =
    numbered_fn (with_function callees globals i g) (enter f) g ∷ numbered_fns callees (declare g.name.text symbol.Func globals) (i + 1) (fn_after g (enter f)) gs

abbrev pub body_cells : Sofar → Option Body → List CheckedCell
body_cells f None = []
body_cells f (Some b) = decls_cells f b.locals

abbrev pub body_stmts : Outside → Sofar → Option Body → List Stmt
body_stmts o f None = []
body_stmts o f (Some b) = numbered_bl o 0 0 (decls_after b.locals f) b.body

abbrev pub body_after : Sofar → Option Body → Sofar
body_after f None = f
body_after f (Some b) = bl_after b.body (decls_after b.locals f)

-- the functions and the body, after the globals
abbrev pub rest_cells : Sofar → Task → List CheckedCell
rest_cells f t = fns_cells f t.funcs ++ body_cells (enter (fns_after t.funcs f)) t.body

abbrev pub rest_body : Table Callee → Table Symbol → Sofar → Task → List Stmt
rest_body cs globals f t = body_stmts (record { globals = with_functions t.funcs globals; callees = cs; current = length t.funcs }) (enter (fns_after t.funcs f)) t.body

abbrev pub rest_after : Sofar → Task → Sofar
rest_after f t = body_after (enter (fns_after t.funcs f)) t.body

abbrev pub numbered_from : Task → Sofar → CheckedTask
numbered_from t f = record {
  name = t.name.text;
  cells = decls_cells at_first t.decls ++ rest_cells (enter f) t;
  funcs = numbered_fns (callees_from 0 t.funcs []) f.locals 0 (enter f) t.funcs;
  body = rest_body (callees_from 0 t.funcs []) f.locals (enter f) t;
  counters = up_to 65535 (rest_after (enter f) t).counters;
}

-- the checked task
abbrev pub numbered : Task → CheckedTask
numbered t = numbered_from t (decls_after t.decls at_first)
