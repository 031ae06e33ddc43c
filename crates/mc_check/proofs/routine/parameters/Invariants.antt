use Rattle.std.proofs.Common.{◌≡◌, drop, map}
use Rattle.mc_tree.specs.Rules.{earliest}
use Rattle.mc_tree.specs.Rules.{first}
use Rattle.mc_tree.specs.TaskSites.{decls_sites, decls_after, param_of}
use Rattle.mc_check.specs.View.{outside, sofar}
use Rattle.mc_check.proofs.routine.parameters.Given as goal

abbrev pub invariant-loop-n : goal.invariant-loop-n
invariant-loop-n l = record {
  first : earliest l.best (first (decls_sites (outside l.globals) (sofar l.locals) (map param_of (drop l.n-index l.names)))) ≡ first (decls_sites (outside l.globals) (sofar l.initial.locals) (map param_of (l.names)));
  after : decls_after (map param_of (drop l.n-index l.names)) (sofar l.locals) ≡ decls_after (map param_of (l.names)) (sofar l.initial.locals);
}
