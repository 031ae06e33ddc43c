use Rattle.std.proofs.Common.{◌≡◌, drop, []}
use Rattle.mc_check.specs.View.{table}
use Rattle.mc_tree.specs.TaskSites.{callees_from}
use Rattle.mc_check.proofs.Functions.{plain_funcs}
use Rattle.mc_check.proofs.task.callees.Given as goal

abbrev pub invariant-loop-i : goal.invariant-loop-i
invariant-loop-i l = callees_from l.i (plain_funcs (drop l.i l.funcs)) (table l.callees) ≡ callees_from 0 (plain_funcs l.funcs) []
