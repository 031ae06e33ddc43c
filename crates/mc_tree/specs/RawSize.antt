-- How many nodes a raw tree has: one for each expression, statement, function and the task itself.
-- This project's own.
use Rattle.std.specs.Prelude.{ℕ, suc, ◌+◌, List, [], ◌∷◌, Option, Some, None}
use Rattle.mc_tree.specs.Raw.{Ex, Num, Cell, At, Un, Bin, St, Set, SetAt, Call, If, While, Scope, Mark, Sequence, Bl, Nil, Then, Else, Nothing, Otherwise, Func, Body, Task}

abbrev pub ex_nodes : Ex → ℕ
ex_nodes (Num n) = 1
ex_nodes (Cell n) = 1
ex_nodes (At n i s) = suc (ex_nodes i)
ex_nodes (Un op a s) = suc (ex_nodes a)
ex_nodes (Bin op l r s) = suc (ex_nodes l + ex_nodes r)

abbrev pub args_nodes : List Ex → ℕ
args_nodes [] = 0
args_nodes (e ∷ es) = ex_nodes e + args_nodes es

abbrev mutual
  pub st_nodes : St → ℕ
  st_nodes (Set c e s) = suc (ex_nodes e)
  st_nodes (SetAt c i e s) = suc (ex_nodes i + ex_nodes e)
  st_nodes (Call c g args s) = suc (args_nodes args)
  st_nodes (If t a b s) = suc (ex_nodes t + (bl_nodes a + else_nodes b))
  st_nodes (While n t a s) = suc (ex_nodes t + bl_nodes a)
  st_nodes (Scope n k a s) = suc (bl_nodes a)
  st_nodes (Mark n s) = 1
  st_nodes (Sequence k a s) = suc (bl_nodes a)

  pub bl_nodes : Bl → ℕ
  bl_nodes Nil = 0
  bl_nodes (Then s rest) = st_nodes s + bl_nodes rest

  pub else_nodes : Else → ℕ
  else_nodes Nothing = 0
  else_nodes (Otherwise b) = bl_nodes b

abbrev pub fn_nodes : Func → ℕ
fn_nodes f = suc (bl_nodes f.body + ex_nodes f.answer)

abbrev pub fns_nodes : List Func → ℕ
fns_nodes [] = 0
fns_nodes (f ∷ fs) = fn_nodes f + fns_nodes fs

abbrev pub body_nodes : Option Body → ℕ
body_nodes None = 0
body_nodes (Some b) = bl_nodes b.body

abbrev pub raw_nodes : Task → ℕ
raw_nodes t = suc (fns_nodes t.funcs + body_nodes t.body)
