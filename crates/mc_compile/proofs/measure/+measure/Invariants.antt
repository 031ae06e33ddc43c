use Rattle.std.proofs.Common.{◌≡◌, ◌+◌, ◌-◌, ◌^◌, ◌<◌, min, drop}
use Rattle.mc_compile.specs.Emit.{params_of}
use Rattle.mc_compile.specs.Translate.{bl_len, ls_len}
use Rattle.mc_tree.specs.Plain.{plain_list, plain_loops}
use Rattle.mc_compile.proofs.measure.+measure.Given as goal

abbrev pub invariant-block_len-loop-stmt : goal.invariant-block_len-loop-stmt
invariant-block_len-loop-stmt l = record {
  small : l.total < 2 ^ 64;
  sum : min (l.total + bl_len (params_of l.task) (plain_list l.task.cells (drop l.stmt-index l.stmts))) (2 ^ 64 - 1) ≡ min (bl_len (params_of l.task) (plain_list l.task.cells l.stmts)) (2 ^ 64 - 1);
}

abbrev pub invariant-loops_len-loop-stmt : goal.invariant-loops_len-loop-stmt
invariant-loops_len-loop-stmt l = record {
  small : l.total < 2 ^ 64;
  sum : min (l.total + ls_len (params_of l.task) (plain_loops l.task.cells (drop l.stmt-index l.loops))) (2 ^ 64 - 1) ≡ min (ls_len (params_of l.task) (plain_loops l.task.cells l.loops)) (2 ^ 64 - 1);
}
