use Rattle.std.proofs.Common.{rules, ◌∙◌, arith, sym, ap, subst, ◌<◌, length}
use Rattle.std.specs.Prelude.{slice_index}
use Rattle.mc_tree.proofs.Plain.{plain_set, plain_set_at, plain_scope, plain_sequence}
use Rattle.mc_tree.specs.Plain.{plain_expr, plain_stmt, plain_list, plain_loops}
use Rattle.mc_tree.specs.Tree.{When, Choice, Loop, Scoped, Series, OneLoop, NoLoop}
use Rattle.mc_compile.specs.Emit.{params_of, IsLowB, IsLowL}
use Rattle.mc_compile.specs.Translate.{bl_len, ls_len}
use Rattle.mc_compile.proofs.Grow.{block_at, loops_at, before_len, before_low}
use Rattle.mc_compile.proofs.Mended.{assign_grows, assign_at_grows, when_grows, choice_grows, loop_grows, turns_grows, scope_grows, series_grows}
use Rattle.mc_compile.proofs.statement.+emit.Goals as goal

pub emit_when-returns : goal.emit_when-returns
emit_when-returns t c =
    let task = c.args.task.now in
    let is = ap (λ cs. When (plain_expr cs c.args.test.now) (plain_list task.cells c.args.first.now)) (sym c.as_slice.ensures) in
    when_grows (slice_index c.args.firsts.now) (params_of task) _ _ _ _ _ _ _ _ _ _ _ is c.emit_expr.ensures c.next-leave.ensures c.put.ensures c.emit_block.ensures c.next-end.ensures c.mend.ensures

pub emit_choice-returns : goal.emit_choice-returns
emit_choice-returns t c =
    let task = c.args.task.now in
    let is = ap (λ cs. Choice (plain_expr cs c.args.test.now) (plain_list task.cells c.args.first.now) (plain_list task.cells c.args.other.now)) (sym c.as_slice.ensures) in
    choice_grows (slice_index c.args.firsts.now) (params_of task) _ _ _ _ _ _ _ _ _ _ _ _ _ _ _ _ _ _ is c.emit_expr.ensures c.next-leave.ensures c.put.ensures c.emit_block.ensures c.next-skip.ensures c.put-2.ensures c.next-start.ensures c.mend.ensures c.emit_block-2.ensures c.next-end.ensures c.mend-2.ensures

pub emit_loop-returns : goal.emit_loop-returns
emit_loop-returns t c =
    let task = c.args.task.now in
    let is = ap (λ cs. Loop c.args.counter c.args.bound (plain_expr cs c.args.test.now) (plain_list task.cells c.args.body.now)) (sym c.as_slice.ensures) in
    loop_grows (slice_index c.args.firsts.now) (params_of task) _ _ _ _ _ _ _ _ c.args.counter c.args.bound _ _ _ _ _ _ _ is c.put.ensures c.next-head.ensures c.emit_expr.ensures c.next-leave.ensures c.put-2.ensures c.put-3.ensures c.emit_block.ensures c.put-4.ensures c.next-end.ensures c.mend.ensures

pub emit_turns-returns : goal.emit_turns-returns
emit_turns-returns t c =
    let task = c.args.task.now in
    let is = ap (λ cs. OneLoop c.args.counter c.args.bound (plain_expr cs c.args.test.now) (plain_list task.cells c.args.body.now) NoLoop) (sym c.as_slice.ensures) in
    turns_grows (slice_index c.args.firsts.now) (params_of task) _ _ _ _ _ _ _ _ _ c.args.total c.args.most c.args.counter c.args.bound _ _ _ _ _ _ _ is c.put.ensures c.next-start.ensures c.emit_expr.ensures c.next-leave.ensures c.put-2.ensures c.put-3.ensures c.put-4.ensures c.emit_block.ensures c.put-5.ensures c.next-end.ensures c.mend.ensures

pub emit_block-emit_stmt-requires : goal.emit_block-emit_stmt-requires
emit_block-emit_stmt-requires t c =
    let params = params_of c.args.task.now in
    let lt : c.loop-stmt.stmt-index < length c.args.stmts.now = search rules in
    let d = block_at c.args.task.now.cells c.args.stmts.now c.loop-stmt.stmt-index c.stmt-item.result lt c.stmt-item.is in
    let e = ap (bl_len params) d in
    let inv = c.loop-stmt.invariant in (
      omega (arith, e, inv.len, inv.grown, c.decreases),
      ((subst (IsLowB params) d inv.low).0, record { room = omega (arith, e, inv.len, inv.capacity, c.requires.room.room); most = omega (arith, inv.capacity, c.requires.room.most) }),
    )

pub emit_loops-emit_part-requires : goal.emit_loops-emit_part-requires
emit_loops-emit_part-requires t c =
    let params = params_of c.args.task.now in
    let lt : c.loop-stmt.stmt-index < length c.args.loops.now = search rules in
    let d = loops_at c.args.task.now.cells c.args.loops.now c.loop-stmt.stmt-index c.stmt-item.result lt c.stmt-item.is in
    let s = plain_stmt c.args.task.now.cells c.stmt-item.result in
    let e = ap (ls_len params) d ∙ before_len params s _ in
    let inv = c.loop-stmt.invariant in (
      omega (arith, e, inv.len, inv.grown, c.decreases),
      ((before_low params s _ (subst (IsLowL params) d inv.low)).0, record { room = omega (arith, e, inv.len, inv.capacity, c.requires.room.room); most = omega (arith, inv.capacity, c.requires.room.most) }),
    )

pub emit_stmt-returns-in-Set : goal.emit_stmt-returns-in-Set
emit_stmt-returns-in-Set t c =
    let cells = c.as_slice-cells.result.now in
    let is = ap (λ cs. plain_stmt cs c.args.stmt.now) (sym c.as_slice-cells.ensures) ∙ ap (plain_stmt cells) c.in-Set.is ∙ plain_set cells c.in-Set.cell c.in-Set.value in
    assign_grows (slice_index c.args.firsts.now) (params_of c.args.task.now) _ _ _ _ _ _ _ is c.place.ensures c.emit_expr.ensures c.put.ensures

pub emit_stmt-returns-in-SetAt : goal.emit_stmt-returns-in-SetAt
emit_stmt-returns-in-SetAt t c =
    let cells = c.as_slice-cells.result.now in
    let is = ap (λ cs. plain_stmt cs c.args.stmt.now) (sym c.as_slice-cells.ensures) ∙ ap (plain_stmt cells) c.in-SetAt.is ∙ plain_set_at cells c.in-SetAt.cell c.in-SetAt.index c.in-SetAt.value in
    assign_at_grows (slice_index c.args.firsts.now) (params_of c.args.task.now) _ _ _ _ _ _ _ _ _ _ _ is c.place-place.ensures c.width-width.ensures c.emit_expr-in-SetAt.ensures c.emit_expr-in-SetAt-2.ensures c.put-in-SetAt.ensures

pub emit_stmt-returns-in-Scope : goal.emit_stmt-returns-in-Scope
emit_stmt-returns-in-Scope t c =
    let cells = c.args.task.now.cells in
    let is = ap (plain_stmt cells) c.in-Scope.is ∙ plain_scope cells c.in-Scope.counter c.in-Scope.bound c.in-Scope.body ∙ ap (λ b. Scoped c.in-Scope.counter c.in-Scope.bound (plain_list cells b)) (sym c.as_slice-in-Scope.ensures) in
    scope_grows (slice_index c.args.firsts.now) (params_of c.args.task.now) _ _ _ _ _ _ _ is c.put-in-Scope.ensures c.emit_block.ensures

pub emit_stmt-returns-in-Sequence : goal.emit_stmt-returns-in-Sequence
emit_stmt-returns-in-Sequence t c =
    let cells = c.args.task.now.cells in
    let is = ap (plain_stmt cells) c.in-Sequence.is ∙ plain_sequence cells c.in-Sequence.counter c.in-Sequence.bound c.in-Sequence.loops ∙ ap (λ l. Series c.in-Sequence.counter c.in-Sequence.bound (plain_loops cells l)) (sym c.as_slice-in-Sequence.ensures) in
    series_grows (slice_index c.args.firsts.now) (params_of c.args.task.now) _ _ _ _ _ _ _ is c.put-in-Sequence.ensures c.emit_loops.ensures
