use Rattle.std.proofs.Common.{◌≡◌, drop}
use Rattle.mc_tree.specs.Rules.{earliest}
use Rattle.mc_check.specs.View.{table}
use Rattle.mc_tree.specs.Rules.{first}
use Rattle.mc_tree.specs.TaskSites.{fns_sites, fns_after, with_functions}
use Rattle.mc_check.specs.View.{sofar}
use Rattle.mc_check.proofs.Functions.{plain_funcs}
use Rattle.mc_check.proofs.task.functions.Given as goal

abbrev pub invariant-loop-i : goal.invariant-loop-i
invariant-loop-i l = record {
  first : earliest l.best (first (fns_sites (table l.initial.globals.callees) (table l.globals.names) l.i (sofar l.locals) (plain_funcs (drop l.i l.funcs))))
      ≡ first (fns_sites (table l.initial.globals.callees) (table l.initial.globals.names) 0 (sofar l.initial.locals) (plain_funcs l.funcs));
  after : fns_after (plain_funcs (drop l.i l.funcs)) (sofar l.locals) ≡ fns_after (plain_funcs l.funcs) (sofar l.initial.locals);
  names : with_functions (plain_funcs (drop l.i l.funcs)) (table l.globals.names) ≡ with_functions (plain_funcs l.funcs) (table l.initial.globals.names);
  callees : table l.globals.callees ≡ table l.initial.globals.callees;
}
