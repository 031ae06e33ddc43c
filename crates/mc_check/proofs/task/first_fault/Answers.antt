use Rattle.std.proofs.Common.{◌≡◌, ◌∙◌, ap, refl, List, [], map}
use Rattle.mc_tree.specs.declared.raw.RawFunc.{RawFunc}
use Rattle.mc_tree.specs.declared.raw.RawDecl.{RawDecl}
use Rattle.mc_check.specs.View.{table}
use Rattle.mc_tree.specs.RawPlain.{plain_func, plain_task}
use Rattle.mc_tree.specs.Rules.{first}
use Rattle.mc_check.specs.View.{sofar, outside}
use Rattle.mc_tree.specs.Sites.{Outside, Sofar}
use Rattle.mc_tree.specs.TaskSites.{decls_sites, decls_after, callees_from}
use Rattle.mc_check.proofs.Tables.{seen}
use Rattle.mc_check.proofs.Whole.{whole, empty_outside, empty_names}
use Rattle.mc_check.proofs.task.first_fault.Goals as goal

pub returns : goal.returns
returns c =
    let o : Outside = outside (record { names = c.new.result; callees = c.new-2.result; current = 0 }) in
    let start : Sofar = sofar (record { names = c.new-3.result; cells = 0; words = 0; ports = 0; counters = 0 }) in
    whole (plain_task c.args.raw.now) o start (sofar c.declarations.new.locals)
    (sofar (record { names = c.new-4.result; cells = c.declarations.new.locals.cells; words = c.declarations.new.locals.words; ports = c.declarations.new.locals.ports; counters = c.declarations.new.locals.counters }))
    (table c.in_ok-callees.callees) c.in_ok-cells.cells c.in_ok-rest.rest c.earlier.result
    (empty_outside (table c.new.result) (table c.new-2.result) o (ap seen c.new.ensures.empty) (ap seen c.new-2.ensures.empty) refl)
    (empty_names (table c.new-3.result) 0 0 0 0 (ap seen c.new-3.ensures.empty))
    (c.in_ok-cells.ensures.first ∙ ap (λ (l : List RawDecl). first (decls_sites o start l)) c.as_slice.ensures)
    (c.in_ok-cells.ensures.after ∙ ap (λ (l : List RawDecl). decls_after l start) c.as_slice.ensures)
    (c.in_ok-callees.ensures ∙ ap (λ (l : List RawFunc). callees_from 0 (map plain_func l) []) c.as_slice-2.ensures)
    (empty_names (table c.new-4.result) c.declarations.new.locals.cells c.declarations.new.locals.words c.declarations.new.locals.ports c.declarations.new.locals.counters (ap seen c.new-4.ensures.empty))
    c.in_ok-rest.ensures c.earlier.ensures
