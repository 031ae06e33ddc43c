-- A checked task has no more nodes than its raw one.
use Rattle.std.proofs.Common.{◌≡◌, ℕ, suc, ◌+◌, ◌≤◌, List, [], ◌∷◌, length, map, Option, Some, None, arith, refl, ap, sym, ◌∙◌, pos}
use Rattle.mc_tree.specs.declared.raw.Name.{Name}
use Rattle.mc_tree.specs.declared.symbol.Symbol.{Symbol}
use Rattle.mc_tree.specs.declared.symbol.Symbol.TheVariants as symbol
use Rattle.mc_tree.specs.declared.symbol.Callee.{Callee}
use Rattle.mc_tree.specs.declared.tree.Cell.{Cell}
use Rattle.mc_tree.specs.Numbered.{up_to, cell_of, func_of, numbered_ex, numbered_args, numbered_st, numbered_bl, numbered_fn, numbered_fns, body_stmts, numbered}
use Rattle.mc_tree.specs.Plain.{plain_expr, plain_args, plain_stmt, plain_list, plain_loops, plain_func, plain_task, loop_before}
use Rattle.mc_tree.specs.Raw as R
use Rattle.mc_tree.specs.RawSize as raw
use Rattle.mc_tree.specs.Sites.{Outside, Sofar, means, counted, scoped, st_after, bl_after}
use Rattle.mc_tree.specs.Size.{nodes, args_nodes, st_nodes, bl_nodes, ls_nodes, fn_nodes, fns_nodes, tree_nodes}
use Rattle.mc_tree.specs.Symbols.{Table, look, declare}
use Rattle.mc_tree.specs.TaskSites.{at_first, callees_from, with_function, with_functions, enter, fns_after, fn_after, decls_after, param_of}
use Rattle.mc_tree.specs.Tree.{St, Loop, Ls}
use Rattle.mc_tree.proofs.Plain.{plain_number, plain_cell, plain_at, plain_unary, plain_binary, plain_set, plain_set_at, plain_call, plain_when, plain_choice, plain_while, plain_scope, plain_mark, plain_sequence}

ex_same : (all : List Cell) (o : Outside) (t : Table Symbol) (x : R.Ex) → nodes (plain_expr all (numbered_ex o t x)) ≡ raw.ex_nodes x
ex_same all o t (R.Num n) = ap nodes (plain_number all (pos (up_to 2147483647 n.value)))
ex_same all o t (R.Cell n) = ap nodes (plain_cell all (cell_of (means o t n)))
ex_same all o t (R.At n i s) = ap nodes (plain_at all (cell_of (means o t n)) (numbered_ex o t i)) ∙ ap suc (ex_same all o t i)
ex_same all o t (R.Un op a s) = ap nodes (plain_unary all op (numbered_ex o t a)) ∙ ap suc (ex_same all o t a)
ex_same all o t (R.Bin op l r s) = omega (arith, ap nodes (plain_binary all op (numbered_ex o t l) (numbered_ex o t r)), ex_same all o t l, ex_same all o t r)

args_same : (all : List Cell) (o : Outside) (t : Table Symbol) (xs : List R.Ex) → args_nodes (plain_args all (numbered_args o t xs)) ≡ raw.args_nodes xs
args_same all o t [] = refl
args_same all o t (x ∷ xs) = omega (arith, ex_same all o t x, args_same all o t xs)

-- what isn't a loop vanishes from a sequence
loop_nodes : (x : St) (rest : Ls) → ls_nodes (loop_before x rest) ≤ st_nodes x + ls_nodes rest
loop_nodes (Loop c n t a) rest = omega arith
loop_nodes x rest = omega arith

module _ (all : List Cell) (o : Outside) where
  mutual
    st_less : (c k : ℕ) (f : Sofar) (x : R.St) → st_nodes (plain_stmt all (numbered_st o c k f x)) ≤ raw.st_nodes x
    st_less c k f (R.Set n v p) = omega (arith, ap st_nodes (plain_set all (cell_of (means o f.locals n)) (numbered_ex o f.locals v)), ex_same all o f.locals v)
    st_less c k f (R.SetAt n i v p) =
        omega (arith, ap st_nodes (plain_set_at all (cell_of (means o f.locals n)) (numbered_ex o f.locals i) (numbered_ex o f.locals v)), ex_same all o f.locals i, ex_same all o f.locals v)
    st_less c k f (R.Call n g es p) =
        omega (arith, ap st_nodes (plain_call all (cell_of (means o f.locals n)) (func_of (look g.text o.callees)) (numbered_args o f.locals es)), args_same all o f.locals es)
    st_less c k f (R.If t b R.Nothing p) =
        omega (arith, ap st_nodes (plain_when all (numbered_ex o f.locals t) (numbered_bl o c k f b)), ex_same all o f.locals t, bl_less c k f b)
    st_less c k f (R.If t b (R.Otherwise d) p) =
        omega (arith, ap st_nodes (plain_choice all (numbered_ex o f.locals t) (numbered_bl o c k f b) (numbered_bl o c k (bl_after b f) d)), ex_same all o f.locals t, bl_less c k f b, bl_less c k (bl_after b f) d)
    st_less c k f (R.While n t b p) =
        omega (arith, ap st_nodes (plain_while all (up_to 255 f.counters) (up_to 65535 n.value) (numbered_ex o f.locals t) (numbered_bl o c k (counted f) b)), ex_same all o f.locals t, bl_less c k (counted f) b)
    st_less c k f (R.Scope n m b p) =
        let own = up_to 255 f.counters in
        let most = up_to 65535 m.value in
        omega (arith, ap st_nodes (plain_scope all own most (numbered_bl o own most (scoped n f) b)), bl_less own most (scoped n f) b)
    st_less c k f (R.Mark n p) = omega (arith, ap st_nodes (plain_mark all c k))
    st_less c k f (R.Sequence m b p) =
        omega (arith, ap st_nodes (plain_sequence all (up_to 255 f.counters) (up_to 65535 m.value) (numbered_bl o c k (counted f) b)), ls_less c k (counted f) b)

    bl_less : (c k : ℕ) (f : Sofar) (b : R.Bl) → bl_nodes (plain_list all (numbered_bl o c k f b)) ≤ raw.bl_nodes b
    bl_less c k f R.Nil = omega arith
    bl_less c k f (R.Then x rest) = omega (arith, st_less c k f x, bl_less c k (st_after x f) rest)

    ls_less : (c k : ℕ) (f : Sofar) (b : R.Bl) → ls_nodes (plain_loops all (numbered_bl o c k f b)) ≤ raw.bl_nodes b
    ls_less c k f R.Nil = omega arith
    ls_less c k f (R.Then x rest) =
        omega (arith, st_less c k f x, ls_less c k (st_after x f) rest, loop_nodes (plain_stmt all (numbered_st o c k f x)) (plain_loops all (numbered_bl o c k (st_after x f) rest)))

  fn_less : (f : Sofar) (g : R.Func) → fn_nodes (plain_func all (numbered_fn o f g)) ≤ raw.fn_nodes g
  fn_less f g = omega (arith, bl_less 0 0 (decls_after g.locals (decls_after (map param_of g.params) f)) g.body, ex_same all o (fn_after g f).locals g.answer)

  body_less : (f : Sofar) (b : Option R.Body) → bl_nodes (plain_list all (body_stmts o f b)) ≤ raw.body_nodes b
  body_less f None = omega arith
  body_less f (Some b) = bl_less 0 0 (decls_after b.locals f) b.body

fns_less : (all : List Cell) (cs : Table Callee) (globals : Table Symbol) (i : ℕ) (f : Sofar) (gs : List R.Func) → fns_nodes (map (plain_func all) (numbered_fns cs globals i f gs)) ≤ raw.fns_nodes gs
fns_less all cs globals i f [] = omega arith
fns_less all cs globals i f (g ∷ gs) =
    omega (arith, fn_less all (with_function cs globals i g) (enter f) g, fns_less all cs (declare g.name.text symbol.Func globals) (i + 1) (fn_after g (enter f)) gs)

pub nodes_less : (t : R.Task) → tree_nodes (plain_task (numbered t)) ≤ raw.raw_nodes t
nodes_less t =
    let all = (numbered t).cells in
    let f0 = decls_after t.decls at_first in
    let cs = callees_from 0 t.funcs [] in
    let f1 = enter f0 in
    let o : Outside = record { globals = with_functions t.funcs f0.locals; callees = cs; current = length t.funcs } in
    omega (arith, fns_less all cs f0.locals 0 f1 t.funcs, body_less all o (enter (fns_after t.funcs f1)) t.body)
