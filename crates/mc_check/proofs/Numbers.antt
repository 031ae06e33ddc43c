-- One turn of the loops that make the checked tree.
use Rattle.std.proofs.Common.{◌≡◌, ℕ, ◌+◌, ◌<◌, ◌≤◌, List, [], ◌∷◌, ◌++◌, drop, length, get_or, refl, ap, sym, ◌∙◌, append_assoc, map}
use Rattle.mc_tree.specs.declared.raw.RawExpr.{RawExpr}
use Rattle.mc_tree.specs.declared.raw.RawStmt.{RawStmt}
use Rattle.mc_tree.specs.declared.tree.Expr.{Expr}
use Rattle.mc_tree.specs.declared.tree.Stmt.{Stmt}
use Rattle.mc_tree.specs.declared.symbol.Symbol.{Symbol}
use Rattle.mc_tree.specs.Symbols.{Table}
use Rattle.mc_tree.specs.Numbered.{numbered_ex, numbered_args, numbered_st, numbered_bl}
use Rattle.mc_tree.specs.RawPlain.{plain_expr, plain_stmt, plain_list}
use Rattle.mc_tree.specs.Sites.{Outside, Sofar, st_after}
use Rattle.mc_check.proofs.Loops.{left_more}

pub exprs-more : (o : Outside) (t : Table Symbol) (es : List RawExpr) (i : ℕ) (x : RawExpr) (old new : List Expr) (r : Expr) → i < length es → x ≡ get_or es i x → r ≡ numbered_ex o t (plain_expr x) → new ≡ old ++ r ∷ []
    → new ++ numbered_args o t (map plain_expr (drop (i + 1) es)) ≡ old ++ numbered_args o t (map plain_expr (drop i es))
exprs-more o t es i x old new r lt is e n =
    let rest = numbered_args o t (map plain_expr (drop (i + 1) es)) in
    ap (λ (l : List Expr). l ++ rest) n ∙ append_assoc old (r ∷ []) rest ∙ ap (λ (y : Expr). old ++ y ∷ rest) e
    ∙ ap (λ (l : List RawExpr). old ++ numbered_args o t (map plain_expr l)) (sym (left_more es i x lt is))

pub stmts-more : (o : Outside) (c k : ℕ) (ss : List RawStmt) (i : ℕ) (x : RawStmt) (f g : Sofar) (old new : List Stmt) (r : Stmt) → i < length ss → x ≡ get_or ss i x → r ≡ numbered_st o c k f (plain_stmt x) → g ≡ st_after (plain_stmt x) f
    → new ≡ old ++ r ∷ []
    → new ++ numbered_bl o c k g (plain_list (drop (i + 1) ss)) ≡ old ++ numbered_bl o c k f (plain_list (drop i ss))
stmts-more o c k ss i x f g old new r lt is e a n =
    let rest = numbered_bl o c k (st_after (plain_stmt x) f) (plain_list (drop (i + 1) ss)) in
    ap (λ (s : Sofar). new ++ numbered_bl o c k s (plain_list (drop (i + 1) ss))) a
    ∙ ap (λ (l : List Stmt). l ++ rest) n ∙ append_assoc old (r ∷ []) rest ∙ ap (λ (y : Stmt). old ++ y ∷ rest) e
    ∙ ap (λ (l : List RawStmt). old ++ numbered_bl o c k f (plain_list l)) (sym (left_more ss i x lt is))
