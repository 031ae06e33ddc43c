-- The parts of a task together.
use Rattle.std.proofs.Common.{◌≡◌, ℕ, List, [], ◌∷◌, ◌++◌, Option, length, map, suc, refl, ap, sym, ◌∙◌}
use Rattle.mc_tree.specs.declared.kind.Fault.{Fault}
use Rattle.mc_tree.specs.declared.symbol.Symbol.{Symbol}
use Rattle.mc_tree.specs.declared.symbol.Callee.{Callee}
use Rattle.mc_tree.specs.Rules.{earliest}
use Rattle.mc_tree.specs.Symbols.{Table}
use Rattle.mc_tree.specs.Raw.{Task as Tree, Func}
use Rattle.mc_tree.specs.RawPlain.{plain_func, plain_body, plain_task}
use Rattle.mc_tree.specs.declared.raw.RawFunc.{RawFunc}
use Rattle.mc_tree.specs.declared.raw.RawTask.{RawTask}
use Rattle.mc_tree.specs.Rules.{first}
use Rattle.mc_tree.specs.Sites.{Outside, Sofar}
use Rattle.mc_tree.specs.TaskSites.{nothing, at_first, enter, decls_sites, decls_after, callees_from, routine_sites, sites_after, first_fault, fns_sites, fns_after, with_functions, body_sites}
use Rattle.mc_rules.proofs.First.{first-append}

pub whole : (t : Tree) (o : Outside) (start now later : Sofar) (cs : Table Callee) (a b c : Option Fault) → o ≡ nothing → start ≡ at_first → a ≡ first (decls_sites o start t.decls) → now ≡ decls_after t.decls start
    → cs ≡ callees_from 0 t.funcs [] → later ≡ enter now → b ≡ first (routine_sites cs now.locals later t) → c ≡ earliest a b → c ≡ first_fault t
whole t o start now later cs a b c is begin f after all empty g e =
    let then : now ≡ decls_after t.decls at_first = after ∙ ap (decls_after t.decls) begin in
    let one : a ≡ first (decls_sites nothing at_first t.decls) = f ∙ ap (λ (x : Outside). first (decls_sites x start t.decls)) is ∙ ap (λ (s : Sofar). first (decls_sites nothing s t.decls)) begin in
    let two : b ≡ first (sites_after (decls_after t.decls at_first) t) =
    g ∙ ap (λ (x : Table Callee). first (routine_sites x now.locals later t)) all
    ∙ ap (λ (s : Sofar). first (routine_sites (callees_from 0 t.funcs []) now.locals s t)) empty
    ∙ ap (λ (s : Sofar). first (sites_after s t)) then in
    e ∙ ap (λ x. earliest x b) one ∙ ap (earliest (first (decls_sites nothing at_first t.decls))) two
    ∙ sym (first-append (decls_sites nothing at_first t.decls) (sites_after (decls_after t.decls at_first) t))

pub fn_count : (gs : List RawFunc) → length gs ≡ length (map plain_func gs)
fn_count [] = refl
fn_count (g ∷ gs) = ap suc (fn_count gs)

pub together : (raw : RawTask) (gs : List RawFunc) (cs ds : Table Callee) (names more : Table Symbol) (f later empty : Sofar) (n : ℕ) (a b c : Option Fault) → gs ≡ raw.funcs
    → a ≡ first (fns_sites cs names 0 f (map plain_func gs)) → later ≡ fns_after (map plain_func gs) f → more ≡ with_functions (map plain_func gs) names → ds ≡ cs → n ≡ length raw.funcs
    → empty ≡ enter later → b ≡ first (body_sites (record { globals = more; callees = ds; current = n }) empty raw.end (plain_body raw.body)) → c ≡ earliest a b
    → c ≡ first (routine_sites cs names f (plain_task raw))
together raw gs cs ds names more f later empty n a b c is first_ after withs same many enters last e =
    let ts = map plain_func raw.funcs in
    let same_funcs : map plain_func gs ≡ ts = ap (map plain_func) is in
    let one : a ≡ first (fns_sites cs names 0 f ts) = first_ ∙ ap (λ (x : List Func). first (fns_sites cs names 0 f x)) same_funcs in
    let up : more ≡ with_functions ts names = withs ∙ ap (λ (x : List Func). with_functions x names) same_funcs in
    let on : empty ≡ enter (fns_after ts f) = enters ∙ ap enter (after ∙ ap (λ (x : List Func). fns_after x f) same_funcs) in
    let count : n ≡ length ts = many ∙ fn_count raw.funcs in
    let two : b ≡ first (body_sites (record { globals = with_functions ts names; callees = cs; current = length ts }) (enter (fns_after ts f)) raw.end (plain_body raw.body)) =
    last ∙ ap (λ (x : Table Symbol). first (body_sites (record { globals = x; callees = ds; current = n }) empty raw.end (plain_body raw.body))) up
    ∙ ap (λ (x : Table Callee). first (body_sites (record { globals = with_functions ts names; callees = x; current = n }) empty raw.end (plain_body raw.body))) same
    ∙ ap (λ (x : ℕ). first (body_sites (record { globals = with_functions ts names; callees = cs; current = x }) empty raw.end (plain_body raw.body))) count
    ∙ ap (λ (x : Sofar). first (body_sites (record { globals = with_functions ts names; callees = cs; current = length ts }) x raw.end (plain_body raw.body))) on in
    e ∙ ap (λ x. earliest x b) one ∙ ap (earliest (first (fns_sites cs names 0 f ts))) two
    ∙ sym (first-append (fns_sites cs names 0 f ts) (body_sites (record { globals = with_functions ts names; callees = cs; current = length ts }) (enter (fns_after ts f)) raw.end (plain_body raw.body)))

pub empty_outside : (names : Table Symbol) (cs : Table Callee) (o : Outside) → names ≡ [] → cs ≡ [] → o ≡ record { globals = names; callees = cs; current = 0 } → o ≡ nothing
empty_outside names cs o n c is =
    is ∙ ap (λ (x : Table Symbol). let r : Outside = record { globals = x; callees = cs; current = 0 } in r) n
    ∙ ap (λ (x : Table Callee). let r : Outside = record { globals = []; callees = x; current = 0 } in r) c

pub empty_names : (names : Table Symbol) (d w p k : ℕ) → names ≡ [] → (let r : Sofar = record { locals = names; cells = d; words = w; ports = p; counters = k } in r) ≡ record { locals = []; cells = d; words = w; ports = p; counters = k }
empty_names names d w p k n = ap (λ (x : Table Symbol). let r : Sofar = record { locals = x; cells = d; words = w; ports = p; counters = k } in r) n
