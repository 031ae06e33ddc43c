-- One turn of the loops over arguments and statements.
use Rattle.std.proofs.Common.{◌≡◌, ℕ, zero, suc, ◌+◌, ◌<◌, ◌≤◌, Bool, true, false, List, [], ◌∷◌, ◌++◌, drop, length, get_or, map, max, min, Option, Some, None, arith, refl, ap, sym, ◌∙◌, drop-cons, add-one}
use Rattle.std.proofs.Math.ListN.{drop_of_length-le}
use Rattle.mc_tree.specs.declared.raw.RawExpr.{RawExpr}
use Rattle.mc_tree.specs.declared.raw.RawStmt.{RawStmt}
use Rattle.mc_tree.specs.declared.raw.RawDecl.{RawDecl}
use Rattle.mc_tree.specs.declared.raw.Name.{Name}
use Rattle.mc_tree.specs.declared.kind.Fault.{Fault}
use Rattle.mc_tree.specs.declared.symbol.Symbol.{Symbol}
use Rattle.mc_tree.specs.Rules.{earliest}
use Rattle.mc_tree.specs.Symbols.{Table}
use Rattle.mc_tree.specs.RawPlain.{plain_expr, plain_stmt, plain_list}
use Rattle.mc_tree.specs.Rules.{first}
use Rattle.mc_tree.specs.Sites.{Outside, Sofar, Around, need, args_need, ex_sites, args_sites, st_sites, bl_sites, st_after, bl_after}
use Rattle.mc_tree.specs.TaskSites.{decl_sites, decl_after, decls_sites, decls_after, param_of}
use Rattle.mc_rules.proofs.First.{earliest-assoc, earliest-none, first-append}

pub left_more : {X : Type 0} (xs : List X) (i : ℕ) (x : X) → i < length xs → x ≡ get_or xs i x → drop i xs ≡ x ∷ drop (i + 1) xs
left_more {X} xs i x lt is = drop-cons xs i x lt ∙ ap (λ (y : X). y ∷ drop (suc i) xs) (sym is) ∙ ap (λ n. x ∷ drop n xs) (sym (add-one i))

pub args_need-more : (es : List RawExpr) (i words kept e : ℕ) (x : RawExpr) → i < length es → x ≡ get_or es i x → e ≡ min (need (plain_expr x)) 65 → kept ≡ min (max words (min i 65 + e)) 65
    → min (max kept (args_need (i + 1) (map plain_expr (drop (i + 1) es)))) 65 ≡ min (max words (args_need i (map plain_expr (drop i es)))) 65
args_need-more es i words kept e x lt is n k =
    let d = ap (λ (l : List RawExpr). args_need i (map plain_expr l)) (left_more es i x lt is) in
    omega (arith, d, n, k)

pub args-more : (o : Outside) (t : Table Symbol) (es : List RawExpr) (i : ℕ) (x : RawExpr) (best fault new : Option Fault) → i < length es → x ≡ get_or es i x → fault ≡ first (ex_sites o t (plain_expr x)) → new ≡ earliest best fault
    → earliest new (first (args_sites o t (map plain_expr (drop (i + 1) es)))) ≡ earliest best (first (args_sites o t (map plain_expr (drop i es))))
args-more o t es i x best fault new lt is f n =
    let rest = args_sites o t (map plain_expr (drop (i + 1) es)) in
    ap (λ a. earliest a (first rest)) (n ∙ ap (earliest best) f)
    ∙ earliest-assoc best (first (ex_sites o t (plain_expr x))) (first rest)
    ∙ ap (earliest best) (sym (first-append (ex_sites o t (plain_expr x)) rest))
    ∙ ap (λ (l : List RawExpr). earliest best (first (args_sites o t (map plain_expr l)))) (sym (left_more es i x lt is))

pub args-end : (o : Outside) (t : Table Symbol) (es : List RawExpr) (i : ℕ) (best : Option Fault) → length es ≤ i → earliest best (first (args_sites o t (map plain_expr (drop i es)))) ≡ best
args-end o t es i best le = ap (λ (l : List RawExpr). earliest best (first (args_sites o t (map plain_expr l)))) (drop_of_length-le es {i = i} le) ∙ earliest-none best

pub block-more : (o : Outside) (a : Around) (ss : List RawStmt) (i : ℕ) (x : RawStmt) (old new : Sofar) (best fault next : Option Fault) → i < length ss → x ≡ get_or ss i x
    → fault ≡ first (st_sites o a old (plain_stmt x)) → new ≡ st_after (plain_stmt x) old → next ≡ earliest best fault
    → earliest next (first (bl_sites o a new (plain_list (drop (i + 1) ss)))) ≡ earliest best (first (bl_sites o a old (plain_list (drop i ss))))
block-more o a ss i x old new best fault next lt is f g n =
    let here = st_sites o a old (plain_stmt x) in
    let rest = bl_sites o a (st_after (plain_stmt x) old) (plain_list (drop (i + 1) ss)) in
    ap (λ (s : Sofar). earliest next (first (bl_sites o a s (plain_list (drop (i + 1) ss))))) g
    ∙ ap (λ b. earliest b (first rest)) (n ∙ ap (earliest best) f)
    ∙ earliest-assoc best (first here) (first rest)
    ∙ ap (earliest best) (sym (first-append here rest))
    ∙ ap (λ (l : List RawStmt). earliest best (first (bl_sites o a old (plain_list l)))) (sym (left_more ss i x lt is))

pub after-more : (ss : List RawStmt) (i : ℕ) (x : RawStmt) (old new : Sofar) → i < length ss → x ≡ get_or ss i x → new ≡ st_after (plain_stmt x) old
    → bl_after (plain_list (drop (i + 1) ss)) new ≡ bl_after (plain_list (drop i ss)) old
after-more ss i x old new lt is g =
    ap (bl_after (plain_list (drop (i + 1) ss))) g ∙ ap (λ (l : List RawStmt). bl_after (plain_list l) old) (sym (left_more ss i x lt is))

pub block-end : (o : Outside) (a : Around) (ss : List RawStmt) (i : ℕ) (now : Sofar) (best : Option Fault) → length ss ≤ i → earliest best (first (bl_sites o a now (plain_list (drop i ss)))) ≡ best
block-end o a ss i now best le = ap (λ (l : List RawStmt). earliest best (first (bl_sites o a now (plain_list l)))) (drop_of_length-le ss {i = i} le) ∙ earliest-none best

pub after-end : (ss : List RawStmt) (i : ℕ) (now : Sofar) → length ss ≤ i → bl_after (plain_list (drop i ss)) now ≡ now
after-end ss i now le = ap (λ (l : List RawStmt). bl_after (plain_list l) now) (drop_of_length-le ss {i = i} le)

pub args_count : (es : List RawExpr) → length (map plain_expr es) ≡ length es
args_count [] = refl
args_count (e ∷ es) = ap suc (args_count es)

pub decls-more : (o : Outside) (ds : List RawDecl) (i : ℕ) (x : RawDecl) (old new : Sofar) (best fault next : Option Fault) → i < length ds → x ≡ get_or ds i x
    → fault ≡ first (decl_sites o old x) → new ≡ decl_after x old → next ≡ earliest best fault
    → earliest next (first (decls_sites o new (drop (i + 1) ds))) ≡ earliest best (first (decls_sites o old (drop i ds)))
decls-more o ds i x old new best fault next lt is f g n =
    let here = decl_sites o old x in
    let rest = decls_sites o (decl_after x old) (drop (i + 1) ds) in
    ap (λ (s : Sofar). earliest next (first (decls_sites o s (drop (i + 1) ds)))) g
    ∙ ap (λ b. earliest b (first rest)) (n ∙ ap (earliest best) f)
    ∙ earliest-assoc best (first here) (first rest)
    ∙ ap (earliest best) (sym (first-append here rest))
    ∙ ap (λ (l : List RawDecl). earliest best (first (decls_sites o old l))) (sym (left_more ds i x lt is))

pub decls_after-more : (ds : List RawDecl) (i : ℕ) (x : RawDecl) (old new : Sofar) → i < length ds → x ≡ get_or ds i x → new ≡ decl_after x old
    → decls_after (drop (i + 1) ds) new ≡ decls_after (drop i ds) old
decls_after-more ds i x old new lt is g =
    ap (decls_after (drop (i + 1) ds)) g ∙ ap (λ (l : List RawDecl). decls_after l old) (sym (left_more ds i x lt is))

pub params-more : (o : Outside) (ns : List Name) (i : ℕ) (x : Name) (old new : Sofar) (best fault next : Option Fault) → i < length ns → x ≡ get_or ns i x
    → fault ≡ first (decl_sites o old (param_of x)) → new ≡ decl_after (param_of x) old → next ≡ earliest best fault
    → earliest next (first (decls_sites o new (map param_of (drop (i + 1) ns)))) ≡ earliest best (first (decls_sites o old (map param_of (drop i ns))))
params-more o ns i x old new best fault next lt is f g n =
    let here = decl_sites o old (param_of x) in
    let rest = decls_sites o (decl_after (param_of x) old) (map param_of (drop (i + 1) ns)) in
    ap (λ (s : Sofar). earliest next (first (decls_sites o s (map param_of (drop (i + 1) ns))))) g
    ∙ ap (λ b. earliest b (first rest)) (n ∙ ap (earliest best) f)
    ∙ earliest-assoc best (first here) (first rest)
    ∙ ap (earliest best) (sym (first-append here rest))
    ∙ ap (λ (l : List Name). earliest best (first (decls_sites o old (map param_of l)))) (sym (left_more ns i x lt is))

pub params_after-more : (ns : List Name) (i : ℕ) (x : Name) (old new : Sofar) → i < length ns → x ≡ get_or ns i x → new ≡ decl_after (param_of x) old
    → decls_after (map param_of (drop (i + 1) ns)) new ≡ decls_after (map param_of (drop i ns)) old
params_after-more ns i x old new lt is g =
    ap (decls_after (map param_of (drop (i + 1) ns))) g ∙ ap (λ (l : List Name). decls_after (map param_of l) old) (sym (left_more ns i x lt is))
