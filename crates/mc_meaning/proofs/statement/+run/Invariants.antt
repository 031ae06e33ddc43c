use Rattle.std.proofs.Common.{◌≡◌, ◌+◌, ◌≤◌, drop}
use Rattle.mc_tree.specs.Plain.{loop_before, plain_expr, plain_stmt, plain_list, plain_loops}
use Rattle.mc_tree.specs.Tree.{NoLoop}
use Rattle.mc_tree.specs.Meaning.{value_of, all_do, series_do, turns, series_turns}
use Rattle.mc_meaning.specs.Run.{params_of, calls_of}
use Rattle.mc_meaning.proofs.Sizes.{st_size, bl_size, ls_size, known_size}
use Rattle.mc_meaning.proofs.statement.+run.Given as goal

abbrev pub decreases-call : goal.decreases-call
decreases-call l = known_size l.task.now l.known

abbrev pub decreases-run_block : goal.decreases-run_block
decreases-run_block l = bl_size (plain_list l.task.now.cells l.stmts.now) + known_size l.task.now l.known

abbrev pub decreases-run_stmt : goal.decreases-run_stmt
decreases-run_stmt l = st_size (plain_stmt l.task.now.cells l.stmt.now) + known_size l.task.now l.known

abbrev pub decreases-run_loop : goal.decreases-run_loop
decreases-run_loop l = 1 + (bl_size (plain_list l.task.now.cells l.body.now) + known_size l.task.now l.known)

abbrev pub decreases-run_series_loop : goal.decreases-run_series_loop
decreases-run_series_loop l = 1 + (bl_size (plain_list l.task.now.cells l.body.now) + known_size l.task.now l.known)

abbrev pub decreases-run_series : goal.decreases-run_series
decreases-run_series l = 1 + (ls_size (plain_loops l.task.now.cells l.loops.now) + known_size l.task.now l.known)

abbrev pub decreases-run_series_part : goal.decreases-run_series_part
decreases-run_series_part l = ls_size (loop_before (plain_stmt l.task.now.cells l.stmt.now) NoLoop) + known_size l.task.now l.known

abbrev pub invariant-run_block-loop-stmt : goal.invariant-run_block-loop-stmt
invariant-run_block-loop-stmt l =
    (all_do (params_of l.task) (calls_of l.task l.known) (plain_list l.task.cells (drop l.stmt-index l.stmts)) l.words l.count ≡ all_do (params_of l.task) (calls_of l.task l.known) (plain_list l.task.cells l.stmts) l.initial.words l.initial.count)
    × (bl_size (plain_list l.task.cells (drop l.stmt-index l.stmts)) ≤ bl_size (plain_list l.task.cells l.stmts))

abbrev pub invariant-run_loop-loop-word : goal.invariant-run_loop-loop-word
invariant-run_loop-loop-word l =
    turns l.left (value_of (plain_expr l.task.cells l.test)) (all_do (params_of l.task) (calls_of l.task l.known) (plain_list l.task.cells l.body)) l.words l.count
    ≡ turns l.bound (value_of (plain_expr l.task.cells l.test)) (all_do (params_of l.task) (calls_of l.task l.known) (plain_list l.task.cells l.body)) l.initial.words l.initial.count

abbrev pub decreases-run_loop-loop-word : goal.decreases-run_loop-loop-word
decreases-run_loop-loop-word l = l.left

abbrev pub invariant-run_series_loop-loop-word : goal.invariant-run_series_loop-loop-word
invariant-run_series_loop-loop-word l =
    series_turns l.left l.most (value_of (plain_expr l.task.cells l.test)) (λ ds. all_do (params_of l.task) (calls_of l.task l.known) (plain_list l.task.cells l.body) ds 0) l.words l.total
    ≡ series_turns l.bound l.most (value_of (plain_expr l.task.cells l.test)) (λ ds. all_do (params_of l.task) (calls_of l.task l.known) (plain_list l.task.cells l.body) ds 0) l.initial.words l.initial.total

abbrev pub decreases-run_series_loop-loop-word : goal.decreases-run_series_loop-loop-word
decreases-run_series_loop-loop-word l = l.left

abbrev pub invariant-run_series-loop-stmt : goal.invariant-run_series-loop-stmt
invariant-run_series-loop-stmt l =
    (series_do (params_of l.task) (calls_of l.task l.known) l.most (plain_loops l.task.cells (drop l.stmt-index l.loops)) l.words l.total ≡ series_do (params_of l.task) (calls_of l.task l.known) l.most (plain_loops l.task.cells l.loops) l.initial.words l.initial.total)
    × (ls_size (plain_loops l.task.cells (drop l.stmt-index l.loops)) ≤ ls_size (plain_loops l.task.cells l.loops))
