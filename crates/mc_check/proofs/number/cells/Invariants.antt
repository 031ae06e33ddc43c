use Rattle.std.proofs.Common.{◌≡◌, ◌++◌, drop}
use Rattle.mc_tree.specs.Numbered.{decls_cells}
use Rattle.mc_tree.specs.TaskSites.{decls_after}
use Rattle.mc_check.specs.View.{sofar}
use Rattle.mc_check.proofs.number.cells.Given as goal

abbrev pub invariant-loop-d : goal.invariant-loop-d
invariant-loop-d l = record {
  cells : l.all ++ decls_cells (sofar l.locals) (drop l.d-index l.decls) ≡ l.initial.all ++ decls_cells (sofar l.initial.locals) l.decls;
  after : decls_after (drop l.d-index l.decls) (sofar l.locals) ≡ decls_after l.decls (sofar l.initial.locals);
}
