-- A task without a fault is numbered to a checked one.
use Rattle.std.proofs.Common.{◌≡◌, ◌≢◌, ℕ, zero, suc, ◌+◌, ◌<◌, ◌≤◌, Bool, true, false, List, [], ◌∷◌, ◌++◌, length, map, Option, Some, None, arith, refl, ap, sym, subst, ◌∙◌, append_assoc}
use Rattle.std.specs.List.{All}
use Rattle.std.proofs.lemmas.List.{length-map}
use Rattle.std.proofs.lemmas.List.Elements.{All-append, All-cons, All-nil}
use Rattle.mars_base.specs.declared.word.Role.TheVariants as role
use Rattle.mc_tree.specs.declared.kind.Kind.TheVariants as kind
use Rattle.mc_tree.specs.declared.raw.RawDecl.{RawDecl}
use Rattle.mc_tree.specs.declared.symbol.Symbol.{Symbol}
use Rattle.mc_tree.specs.declared.symbol.Symbol.TheVariants as symbol
use Rattle.mc_tree.specs.declared.symbol.Callee.{Callee}
use Rattle.mc_tree.specs.declared.tree.Cell.{Cell}
use Rattle.mc_tree.specs.Checked.{Placed, HasWidth, DifferInName, Routines, IsChecked}
use Rattle.mc_tree.specs.CheckedTask.{IsFuncWithin, IsWithin, IsCheckedTask}
use Rattle.mc_tree.specs.Counters.{CountedB, CountedF}
use Rattle.mc_tree.specs.Meaning.{params_at}
use Rattle.mc_tree.specs.Numbered.{up_to, cell_at, decls_cells, fns_cells, body_cells, body_stmts, body_after, numbered_fns, numbered_bl, numbered}
use Rattle.mc_tree.specs.Plain.{plain_func, plain_list, plain_task}
use Rattle.mc_tree.specs.Raw as R
use Rattle.mc_tree.specs.Rules.{first}
use Rattle.mc_tree.specs.Sites.{Outside, Sofar, bl_sites, bl_after}
use Rattle.mc_tree.specs.Sound.{SoundB}
use Rattle.mc_tree.specs.Spellable.{IsSpellable, AreLocals, BodyHasLocals}
use Rattle.mc_tree.specs.Symbols.{Table, look}
use Rattle.mc_tree.specs.TaskSites.{nothing, at_first, enter, decls_sites, decl_after, decls_after, callees_from, with_functions, fns_sites, fns_after, no_around, body_sites, first_fault}
use Rattle.mc_rules.proofs.NoFault.{none_parts, none_here}
use Rattle.mc_rules.proofs.Cells.{Knows, Names, Laid, Declared, decls_fine, names_enter, up_to_fine}
use Rattle.mc_rules.proofs.Statements.{bl_fine}
use Rattle.mc_rules.proofs.Functions.{laid_bl, locals_role, fns_role, fns_fine, FnsFine, counts_same, callees_fine, fns_count, counts}
use Rattle.mc_rules.proofs.Nodes.{nodes_less}
use Rattle.mc_rules.proofs.Expressions.{no_fault}

globals_role : (ds : List RawDecl) (f : Sofar) → All (λ (d : RawDecl). d.role ≢ role.Local) ds → All (λ (c : Cell). c.role ≢ role.Local) (decls_cells f ds)
globals_role [] f h = All-nil (λ (c : Cell). c.role ≢ role.Local)
globals_role (d ∷ ds) f h =
    All-cons (λ (c : Cell). c.role ≢ role.Local) (cell_at f d) (decls_cells (decl_after d f) ds) (h 0 d (omega arith)) (globals_role ds (decl_after d f) (λ k x lt. h (suc k) x (omega (arith, lt))))

nothing_laid : Laid [] 0 0 0
nothing_laid = record { count = refl; placed = tt; widths = All-nil HasWidth; sum = refl; role_count = refl; limit = omega arith; most = omega arith; few = omega arith }

nothing_named : Names [] [] [] []
nothing_named = record {
  knows = λ x k w e. absurd (let c : None ≡ Some (symbol.Cell k w) = e in cc);
  covers = λ c i. absurd (omega (arith, i.1));
  differ = λ i j d lt lt2. absurd (omega (arith, lt2));
}

-- the body after the functions
record BodyFine (all G before : List Cell) (o : Outside) (params : ℕ → List ℕ) (funcs : ℕ) (f : Sofar) (b : Option R.Body) : Type 0 where
  routines : Routines G (body_cells f b) [] (plain_list all (body_stmts o f b))
  laid : Laid (before ++ body_cells f b) (body_after f b).cells (body_after f b).words (body_after f b).ports
  count : CountedB params o.current 0 0 f.counters (plain_list all (body_stmts o f b)) (body_after f b).counters
  within : IsWithin (length all) funcs (body_stmts o f b)
  limit : (body_after f b).counters ≤ 256
  roles : BodyHasLocals b → All (λ (c : Cell). c.role ≡ role.Local) (body_cells f b)

body_fine : (all G before : List Cell) (o : Outside) (params : ℕ → List ℕ) (funcs : ℕ) (f : Sofar) (end : ℕ) (b : Option R.Body) → all ≡ before ++ body_cells f b
    → ((x : List ℕ) (f : Callee) → look x o.callees ≡ Some f → f.number < o.current → length (params f.number) ≡ f.params) → o.current ≤ funcs → o.current ≤ 255
    → Names before G o.globals f.locals → Laid before f.cells f.words f.ports → f.counters ≤ 256 → first (body_sites o f end b) ≡ None → BodyFine all G before o params funcs f b
body_fine all G before o params funcs f end None is calls low few n l limit none =
    absurd (no_fault (record { kind = kind.NoBody; span = record { from = end; to = end } }) none)
body_fine all G before o params funcs f end (Some b) is calls low few n l limit none =
    let f1 = decls_after b.locals f in
    let cells = decls_cells f b.locals in
    let parts = none_parts (decls_sites o f b.locals) (bl_sites o no_around f1 b.body) none in
    let d = decls_fine o b.locals f before G parts.0 l n in
    let known : Knows all (G ++ cells) o.globals f1.locals = subst (λ (x : List Cell). Knows x (G ++ cells) o.globals f1.locals) (sym is) d.names.knows in
    let same : f.counters ≡ f1.counters = sym d.counters in
    let body = bl_fine all (G ++ cells) o params funcs calls low few no_around 0 0 0 0 f.counters f1 b.body (λ h g. absurd (let c : false ≡ true = h in cc)) (omega arith) refl same (omega (arith, limit, same)) known parts.1 in
    record {
      routines = (d.names.differ, body.sound);
      laid = laid_bl (before ++ cells) b.body f1 d.laid;
      count = body.count;
      within = body.within;
      limit = body.limit;
      roles = λ h. locals_role b.locals f h;
    }

pub checked : (t : R.Task) → IsSpellable t → first_fault t ≡ None → IsCheckedTask (numbered t)
checked t shape none =
    let f0 = decls_after t.decls at_first in
    let G = decls_cells at_first t.decls in
    let cs = callees_from 0 t.funcs [] in
    let f1 = enter f0 in
    let f2 = fns_after t.funcs f1 in
    let f3 = enter f2 in
    let F = fns_cells f1 t.funcs in
    let B = body_cells f3 t.body in
    let all = G ++ (F ++ B) in
    let fs = numbered_fns cs f0.locals 0 f1 t.funcs in
    let plain = map (plain_func all) fs in
    let o : Outside = record { globals = with_functions t.funcs f0.locals; callees = cs; current = length t.funcs } in
    let one = none_parts (decls_sites nothing at_first t.decls) (fns_sites cs f0.locals 0 f1 t.funcs ++ body_sites o f3 t.end t.body) none in
    let two = none_parts (fns_sites cs f0.locals 0 f1 t.funcs) (body_sites o f3 t.end t.body) one.1 in
    let d = decls_fine nothing t.decls at_first [] [] one.0 nothing_laid nothing_named in
    let names = names_enter G G f0.locals d.names in
    let calls = λ (x : List ℕ) (f : Callee) (e : look x cs ≡ Some f). counts_same all cs f0.locals 0 f1 t.funcs f.number ∙ callees_fine x t.funcs f e in
    let number = fns_count cs f0.locals 0 f1 t.funcs in
    let zero_count : f1.counters ≤ 256 = omega (arith, d.counters) in
    let fine = fns_fine all G cs (params_at plain) (length fs) calls G B 0 f0.locals f1 t.funcs refl (omega (arith, number)) (omega arith) names d.laid zero_count two.0 in
    let body = body_fine all G (G ++ F) o (params_at plain) (length fs) f3 t.end t.body (sym (append_assoc G F B)) (λ x f e lt. calls x f e) (omega (arith, number)) (omega (arith, fine.few)) fine.names fine.laid fine.limit two.1 in
    let end = body_after f3 t.body in
    let laid : Laid all end.cells end.words end.ports = subst (λ (x : List Cell). Laid x end.cells end.words end.ports) (append_assoc G F B) body.laid in
    let same : length plain ≡ length t.funcs = length-map fs (plain_func all) ∙ number in
    let last : up_to 65535 end.counters ≡ end.counters = up_to_fine 65535 end.counters (omega (arith, body.limit)) in
    let stmts = body_stmts o f3 t.body in
    record {
      tree = record {
        placed = laid.placed;
        widths = laid.widths;
        words = omega (arith, laid.sum, laid.limit);
        ports = omega (arith, laid.role_count, laid.most);
        functions = omega (arith, same, fine.few);
        globals = G;
        locals = F ++ B;
        declared = refl;
        global_roles = globals_role t.decls at_first shape.globals;
        local_roles = All-append (λ (c : Cell). c.role ≡ role.Local) F B (fns_role t.funcs f1 shape.funcs) (body.roles shape.body);
        routines = fine.routines (plain_list all stmts) body.routines;
        first = f2.counters;
        fn_counters = subst (λ (n : ℕ). CountedF (params_at plain) 0 n plain f2.counters) d.counters fine.count;
        body_counters = subst (λ (n : ℕ). CountedB (params_at plain) n 0 0 f2.counters (plain_list all stmts) (up_to 65535 end.counters)) (sym same)
            (subst (λ (n : ℕ). CountedB (params_at plain) (length t.funcs) 0 0 f2.counters (plain_list all stmts) n) (sym last) body.count);
        counters = omega (arith, last, body.limit);
      };
      funcs = fine.within;
      body = body.within;
      size = omega (arith, nodes_less t, shape.size);
    }
