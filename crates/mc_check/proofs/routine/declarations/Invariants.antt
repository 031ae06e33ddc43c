use Rattle.std.proofs.Common.{◌≡◌, drop, map}
use Rattle.mc_tree.specs.Rules.{earliest}
use Rattle.mc_tree.specs.Rules.{first}
use Rattle.mc_tree.specs.TaskSites.{decls_sites, decls_after, param_of}
use Rattle.mc_check.specs.View.{outside, sofar}
use Rattle.mc_check.proofs.routine.declarations.Given as goal

abbrev pub invariant-loop-d : goal.invariant-loop-d
invariant-loop-d l = record {
  first : earliest l.best (first (decls_sites (outside l.globals) (sofar l.locals) (drop l.d-index l.decls))) ≡ first (decls_sites (outside l.globals) (sofar l.initial.locals) l.decls);
  after : decls_after (drop l.d-index l.decls) (sofar l.locals) ≡ decls_after l.decls (sofar l.initial.locals);
}
