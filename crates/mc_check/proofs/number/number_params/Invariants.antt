use Rattle.std.proofs.Common.{◌≡◌, ◌++◌, drop, map}
use Rattle.mc_tree.specs.Numbered.{decls_cells, params_at}
use Rattle.mc_tree.specs.TaskSites.{decls_after, param_of}
use Rattle.mc_check.specs.View.{sofar}
use Rattle.mc_check.proofs.number.number_params.Given as goal

abbrev pub invariant-loop-n : goal.invariant-loop-n
invariant-loop-n l = record {
  params : l.params ++ params_at (sofar l.locals) (drop l.n-index l.names) ≡ params_at (sofar l.initial.locals) l.names;
  cells : l.all ++ decls_cells (sofar l.locals) (map param_of (drop l.n-index l.names)) ≡ l.initial.all ++ decls_cells (sofar l.initial.locals) (map param_of l.names);
  after : decls_after (map param_of (drop l.n-index l.names)) (sofar l.locals) ≡ decls_after (map param_of l.names) (sofar l.initial.locals);
}
