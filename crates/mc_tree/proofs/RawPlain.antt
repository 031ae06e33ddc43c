-- One level of a raw tree, as plain data: a line for each variant.
use Rattle.std.proofs.Common.{◌≡◌, List, Some, None, map, ap, ◌∙◌, sym}
use Rattle.mars_base.specs.declared.text.Span.{Span}
use Rattle.mars_base.specs.declared.word.BinOp.{BinOp}
use Rattle.mars_base.specs.declared.word.UnOp.{UnOp}
use Rattle.mc_tree.specs.declared.raw.Name.{Name}
use Rattle.mc_tree.specs.declared.raw.RawNumber.{RawNumber}
use Rattle.mc_tree.specs.declared.raw.RawExpr.{RawExpr, fold-roll-RawExpr}
use Rattle.mc_tree.specs.declared.raw.RawExpr.TheOpen as E
use Rattle.mc_tree.specs.declared.raw.RawExpr.TheVariants as e
use Rattle.mc_tree.specs.declared.raw.RawStmt.{RawStmt, fold-roll-RawStmt}
use Rattle.mc_tree.specs.declared.raw.RawStmt.TheOpen as O
use Rattle.mc_tree.specs.declared.raw.RawStmt.TheVariants as v
use Rattle.mc_tree.specs.Raw as R
use Rattle.mc_tree.specs.RawPlain.{ex_of, st_of, plain_expr, plain_stmt, plain_list}

pub plain_number : (n : RawNumber) → plain_expr (e.Number n) ≡ R.Num n
unfolding plain_expr
plain_number n = ap plain_expr (sym (e.rolls-Number n)) ∙ fold-roll-RawExpr R.Ex ex_of (E.Number n)

pub plain_cell : (n : Name) → plain_expr (e.Cell n) ≡ R.Cell n
unfolding plain_expr
plain_cell n = ap plain_expr (sym (e.rolls-Cell n)) ∙ fold-roll-RawExpr R.Ex ex_of (E.Cell n)

pub plain_at : (n : Name) (i : RawExpr) (s : Span) → plain_expr (e.At n i s) ≡ R.At n (plain_expr i) s
unfolding plain_expr
plain_at n i s = ap plain_expr (sym (e.rolls-At n i s)) ∙ fold-roll-RawExpr R.Ex ex_of (E.At n i s)

pub plain_unary : (op : UnOp) (a : RawExpr) (s : Span) → plain_expr (e.Unary op a s) ≡ R.Un op (plain_expr a) s
unfolding plain_expr
plain_unary op a s = ap plain_expr (sym (e.rolls-Unary op a s)) ∙ fold-roll-RawExpr R.Ex ex_of (E.Unary op a s)

pub plain_binary : (op : BinOp) (l r : RawExpr) (s : Span) → plain_expr (e.Binary op l r s) ≡ R.Bin op (plain_expr l) (plain_expr r) s
unfolding plain_expr
plain_binary op l r s = ap plain_expr (sym (e.rolls-Binary op l r s)) ∙ fold-roll-RawExpr R.Ex ex_of (E.Binary op l r s)

pub plain_set : (c : Name) (x : RawExpr) (s : Span) → plain_stmt (v.Set c x s) ≡ R.Set c (plain_expr x) s
unfolding plain_stmt
plain_set c x s = ap plain_stmt (sym (v.rolls-Set c x s)) ∙ fold-roll-RawStmt R.St st_of (O.Set c x s)

pub plain_set_at : (c : Name) (i x : RawExpr) (s : Span) → plain_stmt (v.SetAt c i x s) ≡ R.SetAt c (plain_expr i) (plain_expr x) s
unfolding plain_stmt
plain_set_at c i x s = ap plain_stmt (sym (v.rolls-SetAt c i x s)) ∙ fold-roll-RawStmt R.St st_of (O.SetAt c i x s)

pub plain_call : (c f : Name) (es : List RawExpr) (s : Span) → plain_stmt (v.Call c f es s) ≡ R.Call c f (map plain_expr es) s
unfolding plain_stmt
plain_call c f es s = ap plain_stmt (sym (v.rolls-Call c f es s)) ∙ fold-roll-RawStmt R.St st_of (O.Call c f es s)

pub plain_mark : (n : Name) (s : Span) → plain_stmt (v.Mark n s) ≡ R.Mark n s
unfolding plain_stmt
plain_mark n s = ap plain_stmt (sym (v.rolls-Mark n s)) ∙ fold-roll-RawStmt R.St st_of (O.Mark n s)

pub plain_scope : (n : Name) (k : RawNumber) (b : List RawStmt) (s : Span) → plain_stmt (v.Scope n k b s) ≡ R.Scope n k (plain_list b) s
unfolding plain_stmt
plain_scope n k b s = ap plain_stmt (sym (v.rolls-Scope n k b s)) ∙ fold-roll-RawStmt R.St st_of (O.Scope n k b s)

pub plain_while : (n : RawNumber) (x : RawExpr) (b : List RawStmt) (s : Span) → plain_stmt (v.While n x b s) ≡ R.While n (plain_expr x) (plain_list b) s
unfolding plain_stmt
plain_while n x b s = ap plain_stmt (sym (v.rolls-While n x b s)) ∙ fold-roll-RawStmt R.St st_of (O.While n x b s)

pub plain_sequence : (n : RawNumber) (b : List RawStmt) (s : Span) → plain_stmt (v.Sequence n b s) ≡ R.Sequence n (plain_list b) s
unfolding plain_stmt
plain_sequence n b s = ap plain_stmt (sym (v.rolls-Sequence n b s)) ∙ fold-roll-RawStmt R.St st_of (O.Sequence n b s)

pub plain_if : (x : RawExpr) (a : List RawStmt) (s : Span) → plain_stmt (v.If x a None s) ≡ R.If (plain_expr x) (plain_list a) R.Nothing s
unfolding plain_stmt
plain_if x a s = ap plain_stmt (sym (v.rolls-If x a None s)) ∙ fold-roll-RawStmt R.St st_of (O.If x a None s)

pub plain_if_else : (x : RawExpr) (a b : List RawStmt) (s : Span) → plain_stmt (v.If x a (Some b) s) ≡ R.If (plain_expr x) (plain_list a) (R.Otherwise (plain_list b)) s
unfolding plain_stmt
plain_if_else x a b s = ap plain_stmt (sym (v.rolls-If x a (Some b) s)) ∙ fold-roll-RawStmt R.St st_of (O.If x a (Some b) s)

pub ruleset raw_rules = (plain_number, plain_cell, plain_at, plain_unary, plain_binary, plain_set, plain_set_at, plain_call, plain_mark, plain_scope, plain_while, plain_sequence, plain_if, plain_if_else)
