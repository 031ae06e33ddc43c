-- What a raw tree of the code is as plain data.
-- This project's own.
use Rattle.std.specs.Prelude.{List, [], ◌∷◌, map, Option, Some, None}
use Rattle.mc_tree.specs.declared.raw.RawExpr.{RawExpr}
use Rattle.mc_tree.specs.declared.raw.RawExpr.TheFolds.{fold-RawExpr}
use Rattle.mc_tree.specs.declared.raw.RawExpr.TheOpen as E
use Rattle.mc_tree.specs.declared.raw.RawStmt.{RawStmt}
use Rattle.mc_tree.specs.declared.raw.RawStmt.TheFolds.{fold-RawStmt}
use Rattle.mc_tree.specs.declared.raw.RawStmt.TheOpen as S
use Rattle.mc_tree.specs.declared.raw.RawFunc.{RawFunc}
use Rattle.mc_tree.specs.declared.raw.RawBody.{RawBody}
use Rattle.mc_tree.specs.declared.raw.RawTask.{RawTask}
use Rattle.mc_tree.specs.Raw as R

abbrev pub ex_of : E.RawExpr-F R.Ex → R.Ex
ex_of (E.Number n) = R.Num n
ex_of (E.Cell n) = R.Cell n
ex_of (E.At n i s) = R.At n i s
ex_of (E.Unary op e s) = R.Un op e s
ex_of (E.Binary op l r s) = R.Bin op l r s

unfoldable pub plain_expr : RawExpr → R.Ex
plain_expr e = fold-RawExpr R.Ex ex_of e

abbrev pub block_of : List R.St → R.Bl
block_of [] = R.Nil
block_of (s ∷ ss) = R.Then s (block_of ss)

abbrev pub else_of : Option (List R.St) → R.Else
else_of None = R.Nothing
else_of (Some b) = R.Otherwise (block_of b)

abbrev pub st_of : S.RawStmt-F R.St → R.St
st_of (S.Set c e s) = R.Set c (plain_expr e) s
st_of (S.SetAt c i e s) = R.SetAt c (plain_expr i) (plain_expr e) s
st_of (S.Call c f es s) = R.Call c f (map plain_expr es) s
st_of (S.If e b o s) = R.If (plain_expr e) (block_of b) (else_of o) s
st_of (S.While n e b s) = R.While n (plain_expr e) (block_of b) s
st_of (S.Scope n k b s) = R.Scope n k (block_of b) s
st_of (S.Mark n s) = R.Mark n s
st_of (S.Sequence k b s) = R.Sequence k (block_of b) s

unfoldable pub plain_stmt : RawStmt → R.St
plain_stmt s = fold-RawStmt R.St st_of s

abbrev pub plain_list : List RawStmt → R.Bl
plain_list ss = block_of (map plain_stmt ss)

abbrev pub plain_func : RawFunc → R.Func
plain_func f = record { name = f.name; params = f.params; locals = f.locals; body = plain_list f.body; answer = plain_expr f.answer; span = f.span }

abbrev pub plain_body : Option RawBody → Option R.Body
plain_body None = None
plain_body (Some b) = Some (record { locals = b.locals; body = plain_list b.body })

abbrev pub plain_task : RawTask → R.Task
plain_task t = record { name = t.name; decls = t.decls; funcs = map plain_func t.funcs; body = plain_body t.body; end = t.end }
