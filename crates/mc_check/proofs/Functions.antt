-- One turn of the loops over functions.
use Rattle.std.proofs.Common.{◌≡◌, ℕ, suc, ◌+◌, ◌<◌, ◌≤◌, List, [], ◌∷◌, ◌++◌, drop, length, get_or, map, Option, Some, None, arith, refl, ap, sym, ◌∙◌}
use Rattle.std.proofs.Math.ListN.{drop_of_length-le}
use Rattle.mc_tree.specs.declared.raw.RawFunc.{RawFunc}
use Rattle.mc_tree.specs.declared.kind.Fault.{Fault}
use Rattle.mc_tree.specs.declared.symbol.Symbol.{Symbol}
use Rattle.mc_tree.specs.declared.symbol.Symbol.TheVariants as symbol
use Rattle.mc_tree.specs.declared.symbol.Callee.{Callee}
use Rattle.mc_tree.specs.Rules.{earliest}
use Rattle.mc_tree.specs.Symbols.{Table, declare}
use Rattle.mc_tree.specs.RawPlain.{plain_func}
use Rattle.mc_tree.specs.Raw.{Func}
use Rattle.mc_tree.specs.Rules.{first}
use Rattle.mc_tree.specs.Sites.{Sofar}
use Rattle.mc_tree.specs.TaskSites.{enter, named_fn_sites, fn_after, fns_sites, fns_after, with_functions, callees_from}
use Rattle.mc_rules.proofs.First.{earliest-assoc, earliest-none, first-append}
use Rattle.mc_check.proofs.Loops.{left_more}

abbrev pub plain_funcs : List RawFunc → List Func
plain_funcs fs = map plain_func fs

pub fns-more : (cs seen : Table Callee) (gs : List RawFunc) (i : ℕ) (x : RawFunc) (names more : Table Symbol) (old new : Sofar) (best fault next : Option Fault) → i < length gs → x ≡ get_or gs i x → seen ≡ cs
    → fault ≡ first (named_fn_sites seen names i old (plain_func x)) → new ≡ fn_after (plain_func x) (enter old) → more ≡ declare x.name.text symbol.Func names → next ≡ earliest best fault
    → earliest next (first (fns_sites cs more (i + 1) new (plain_funcs (drop (i + 1) gs)))) ≡ earliest best (first (fns_sites cs names i old (plain_funcs (drop i gs))))
fns-more cs seen gs i x names more old new best fault next lt is same f g m n =
    let here = named_fn_sites cs names i old (plain_func x) in
    let rest = fns_sites cs (declare x.name.text symbol.Func names) (i + 1) (fn_after (plain_func x) (enter old)) (plain_funcs (drop (i + 1) gs)) in
    ap (λ (s : Sofar). earliest next (first (fns_sites cs more (i + 1) s (plain_funcs (drop (i + 1) gs))))) g
    ∙ ap (λ (t : Table Symbol). earliest next (first (fns_sites cs t (i + 1) (fn_after (plain_func x) (enter old)) (plain_funcs (drop (i + 1) gs))))) m
    ∙ ap (λ b. earliest b (first rest)) (n ∙ ap (earliest best) (f ∙ ap (λ (t : Table Callee). first (named_fn_sites t names i old (plain_func x))) same))
    ∙ earliest-assoc best (first here) (first rest)
    ∙ ap (earliest best) (sym (first-append here rest))
    ∙ ap (λ (l : List RawFunc). earliest best (first (fns_sites cs names i old (plain_funcs l)))) (sym (left_more gs i x lt is))

pub fns_after-more : (gs : List RawFunc) (i : ℕ) (x : RawFunc) (old new : Sofar) → i < length gs → x ≡ get_or gs i x → new ≡ fn_after (plain_func x) (enter old)
    → fns_after (plain_funcs (drop (i + 1) gs)) new ≡ fns_after (plain_funcs (drop i gs)) old
fns_after-more gs i x old new lt is g =
    ap (fns_after (plain_funcs (drop (i + 1) gs))) g ∙ ap (λ (l : List RawFunc). fns_after (plain_funcs l) old) (sym (left_more gs i x lt is))

pub with_functions-more : (gs : List RawFunc) (i : ℕ) (x : RawFunc) (names more : Table Symbol) → i < length gs → x ≡ get_or gs i x → more ≡ declare x.name.text symbol.Func names
    → with_functions (plain_funcs (drop (i + 1) gs)) more ≡ with_functions (plain_funcs (drop i gs)) names
with_functions-more gs i x names more lt is g =
    ap (with_functions (plain_funcs (drop (i + 1) gs))) g ∙ ap (λ (l : List RawFunc). with_functions (plain_funcs l) names) (sym (left_more gs i x lt is))

pub callees-more : (gs : List RawFunc) (i n : ℕ) (x : RawFunc) (old new : Table Callee) → i < length gs → x ≡ get_or gs i x → n ≡ length x.params → new ≡ declare x.name.text (record { number = i; params = n }) old
    → callees_from (i + 1) (plain_funcs (drop (i + 1) gs)) new ≡ callees_from i (plain_funcs (drop i gs)) old
callees-more gs i n x old new lt is m g =
    ap (callees_from (i + 1) (plain_funcs (drop (i + 1) gs))) (g ∙ ap (λ k. declare x.name.text (record { number = i; params = k }) old) m)
    ∙ ap (λ (l : List RawFunc). callees_from i (plain_funcs l) old) (sym (left_more gs i x lt is))

pub fns-end : (cs : Table Callee) (gs : List RawFunc) (i : ℕ) (names : Table Symbol) (now : Sofar) (best : Option Fault) → length gs ≤ i → earliest best (first (fns_sites cs names i now (plain_funcs (drop i gs)))) ≡ best
fns-end cs gs i names now best le = ap (λ (l : List RawFunc). earliest best (first (fns_sites cs names i now (plain_funcs l)))) (drop_of_length-le gs {i = i} le) ∙ earliest-none best
