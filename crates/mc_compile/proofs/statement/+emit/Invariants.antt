use Rattle.std.proofs.Common.{◌≡◌, ◌+◌, ◌*◌, ◌++◌, ◌≤◌, drop}
use Rattle.std.specs.Prelude.{vec_len, vec_capacity, slice_index}
use Rattle.mc_compile.specs.Emit.{params_of, IsLowB, IsLowL}
use Rattle.mc_compile.specs.Translate.{st_len, bl_len, ls_len, bl_code, ls_code}
use Rattle.mc_tree.specs.Plain.{loop_before, plain_expr, plain_stmt, plain_list, plain_loops}
use Rattle.mc_tree.specs.Tree.{When, Choice, Loop, NoLoop, OneLoop}
use Rattle.mc_compile.proofs.statement.+emit.Given as goal

abbrev pub decreases-emit_block : goal.decreases-emit_block
decreases-emit_block l = 3 * bl_len (params_of l.task.now) (plain_list l.task.now.cells l.stmts.now) + 2

abbrev pub decreases-emit_stmt : goal.decreases-emit_stmt
decreases-emit_stmt l = 3 * st_len (params_of l.task.now) (plain_stmt l.task.now.cells l.stmt.now) + 1

abbrev pub decreases-emit_when : goal.decreases-emit_when
decreases-emit_when l = 3 * st_len (params_of l.task.now) (When (plain_expr l.task.now.cells l.test.now) (plain_list l.task.now.cells l.first.now))

abbrev pub decreases-emit_choice : goal.decreases-emit_choice
decreases-emit_choice l = 3 * st_len (params_of l.task.now) (Choice (plain_expr l.task.now.cells l.test.now) (plain_list l.task.now.cells l.first.now) (plain_list l.task.now.cells l.other.now))

abbrev pub decreases-emit_loop : goal.decreases-emit_loop
decreases-emit_loop l = 3 * st_len (params_of l.task.now) (Loop l.counter l.bound (plain_expr l.task.now.cells l.test.now) (plain_list l.task.now.cells l.body.now))

abbrev pub decreases-emit_loops : goal.decreases-emit_loops
decreases-emit_loops l = 3 * ls_len (params_of l.task.now) (plain_loops l.task.now.cells l.loops.now) + 2

abbrev pub decreases-emit_part : goal.decreases-emit_part
decreases-emit_part l = 3 * ls_len (params_of l.task.now) (loop_before (plain_stmt l.task.now.cells l.stmt.now) NoLoop) + 1

abbrev pub decreases-emit_turns : goal.decreases-emit_turns
decreases-emit_turns l = 3 * ls_len (params_of l.task.now) (OneLoop l.counter l.bound (plain_expr l.task.now.cells l.test.now) (plain_list l.task.now.cells l.body.now) NoLoop)

abbrev pub invariant-emit_block-loop-stmt : goal.invariant-emit_block-loop-stmt
invariant-emit_block-loop-stmt l = record {
  items : l.code.items ++ bl_code (slice_index l.firsts) (params_of l.task) (vec_len l.code) (plain_list l.task.cells (drop l.stmt-index l.stmts)) ≡ l.initial.code.items ++ bl_code (slice_index l.firsts) (params_of l.task) (vec_len l.initial.code) (plain_list l.task.cells l.stmts);
  len : vec_len l.code + bl_len (params_of l.task) (plain_list l.task.cells (drop l.stmt-index l.stmts)) ≡ vec_len l.initial.code + bl_len (params_of l.task) (plain_list l.task.cells l.stmts);
  grown : vec_len l.initial.code ≤ vec_len l.code;
  capacity : vec_capacity l.code ≡ vec_capacity l.initial.code;
  low : IsLowB (params_of l.task) (plain_list l.task.cells (drop l.stmt-index l.stmts));
}

abbrev pub invariant-emit_loops-loop-stmt : goal.invariant-emit_loops-loop-stmt
invariant-emit_loops-loop-stmt l = record {
  items : l.code.items ++ ls_code (slice_index l.firsts) (params_of l.task) l.total l.most (vec_len l.code) (plain_loops l.task.cells (drop l.stmt-index l.loops)) ≡ l.initial.code.items ++ ls_code (slice_index l.firsts) (params_of l.task) l.total l.most (vec_len l.initial.code) (plain_loops l.task.cells l.loops);
  len : vec_len l.code + ls_len (params_of l.task) (plain_loops l.task.cells (drop l.stmt-index l.loops)) ≡ vec_len l.initial.code + ls_len (params_of l.task) (plain_loops l.task.cells l.loops);
  grown : vec_len l.initial.code ≤ vec_len l.code;
  capacity : vec_capacity l.code ≡ vec_capacity l.initial.code;
  low : IsLowL (params_of l.task) (plain_loops l.task.cells (drop l.stmt-index l.loops));
}
