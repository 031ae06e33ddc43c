-- How many nodes a checked tree has: one for each expression, statement, function and the task itself. The length of
-- a task's code is at most a small multiple of it.
-- This project's own.
use Rattle.std.specs.Prelude.{ℕ, suc, ◌+◌, List, [], ◌∷◌}
use Rattle.mc_tree.specs.Tree.{Ex, Num, Var, Elem, Un, Bin, St, Assign, AssignAt, Invoke, When, Choice, Loop, Scoped, Count, Series, Bl, Nil, Then, Ls, NoLoop, OneLoop, Fn, Tree}

abbrev pub nodes : Ex → ℕ
nodes (Num w) = 1
nodes (Var p) = 1
nodes (Elem p n i) = suc (nodes i)
nodes (Un op a) = suc (nodes a)
nodes (Bin op l r) = suc (nodes l + nodes r)

abbrev pub args_nodes : List Ex → ℕ
args_nodes [] = 0
args_nodes (e ∷ es) = nodes e + args_nodes es

abbrev mutual
  pub st_nodes : St → ℕ
  st_nodes (Assign p e) = suc (nodes e)
  st_nodes (AssignAt p n i e) = suc (nodes i + nodes e)
  st_nodes (Invoke p g args) = suc (args_nodes args)
  st_nodes (When t a) = suc (nodes t + bl_nodes a)
  st_nodes (Choice t a b) = suc (nodes t + (bl_nodes a + bl_nodes b))
  st_nodes (Loop c n t a) = suc (nodes t + bl_nodes a)
  st_nodes (Scoped c n a) = suc (bl_nodes a)
  st_nodes (Count c n) = 1
  st_nodes (Series c n l) = suc (ls_nodes l)

  pub bl_nodes : Bl → ℕ
  bl_nodes Nil = 0
  bl_nodes (Then s rest) = st_nodes s + bl_nodes rest

  pub ls_nodes : Ls → ℕ
  ls_nodes NoLoop = 0
  ls_nodes (OneLoop c n t a rest) = suc (nodes t + bl_nodes a) + ls_nodes rest

-- a function: itself, its statements and its answer
abbrev pub fn_nodes : Fn → ℕ
fn_nodes f = suc (bl_nodes f.body + nodes f.answer)

abbrev pub fns_nodes : List Fn → ℕ
fns_nodes [] = 0
fns_nodes (f ∷ fs) = fn_nodes f + fns_nodes fs

abbrev pub tree_nodes : Tree → ℕ
tree_nodes t = suc (fns_nodes t.funcs + bl_nodes t.body)
