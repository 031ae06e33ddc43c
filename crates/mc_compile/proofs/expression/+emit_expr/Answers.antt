use Rattle.std.proofs.Common.{rules, arith, refl, ap}
use Rattle.mc_tree.specs.declared.tree.Expr.{the_lemmas}
use Rattle.mc_tree.specs.Height.{height}
use Rattle.mc_compile.specs.Translate.{ex_len}
use Rattle.mc_compile.proofs.Grow.{at_plain, un_plain, bin_plain, elem_grows, unary_grows, binary_grows}
use Rattle.mc_compile.proofs.expression.+emit_expr.Goals as goal

pub emit_expr-requires : goal.emit_expr-requires
emit_expr-requires t c =
    let is = at_plain c.args.cells.now c.args.expr.now c.in-At.index c.get.result.now c.in-At.cell c.in-At.is c.get.ensures in
    (search (rules, the_lemmas), (omega (arith, ap height is, c.requires.low), omega (arith, ap ex_len is, c.requires.room)))

pub emit_expr-requires-in-Unary : goal.emit_expr-requires-in-Unary
emit_expr-requires-in-Unary t c =
    let is = un_plain c.args.cells.now c.args.expr.now c.in-Unary.arg c.get-in-Unary.result.now c.in-Unary.op c.in-Unary.is c.get-in-Unary.ensures in
    (search (rules, the_lemmas), (omega (arith, ap height is, c.requires.low), omega (arith, ap ex_len is, c.requires.room)))

pub emit_expr-requires-in-Binary : goal.emit_expr-requires-in-Binary
emit_expr-requires-in-Binary t c =
    let is = bin_plain c.args.cells.now c.args.expr.now c.in-Binary.left c.in-Binary.right c.get-in-Binary.result.now c.in-Binary.right c.in-Binary.op c.in-Binary.is c.get-in-Binary.ensures refl in
    (search (rules, the_lemmas), (omega (arith, ap height is, c.requires.low), omega (arith, ap ex_len is, c.requires.room)))

pub emit_expr-requires-in-Binary-2 : goal.emit_expr-requires-in-Binary-2
emit_expr-requires-in-Binary-2 t c =
    let is = bin_plain c.args.cells.now c.args.expr.now c.in-Binary.left c.in-Binary.right c.get-in-Binary.result.now c.get-in-Binary-2.result.now c.in-Binary.op c.in-Binary.is c.get-in-Binary.ensures c.get-in-Binary-2.ensures in
    (search (rules, the_lemmas), (omega (arith, ap height is, c.requires.low), omega (arith, ap ex_len is, c.requires.room)))

pub returns-in-At : goal.returns-in-At
returns-in-At t c =
    let is = at_plain c.args.cells.now c.args.expr.now c.in-At.index c.get.result.now c.in-At.cell c.in-At.is c.get.ensures in
    elem_grows _ _ _ c.args.base _ _ _ _ _ _ is c.place-place.ensures c.width-width.ensures c.emit_expr.ensures c.put-in-At.ensures

pub returns-in-Unary : goal.returns-in-Unary
returns-in-Unary t c =
    let is = un_plain c.args.cells.now c.args.expr.now c.in-Unary.arg c.get-in-Unary.result.now c.in-Unary.op c.in-Unary.is c.get-in-Unary.ensures in
    unary_grows _ _ _ c.args.base c.in-Unary.op _ _ _ is c.unary.ensures c.emit_expr-in-Unary.ensures c.put-in-Unary.ensures

pub returns-in-Binary : goal.returns-in-Binary
returns-in-Binary t c =
    let is = bin_plain c.args.cells.now c.args.expr.now c.in-Binary.left c.in-Binary.right c.get-in-Binary.result.now c.get-in-Binary-2.result.now c.in-Binary.op c.in-Binary.is c.get-in-Binary.ensures c.get-in-Binary-2.ensures in
    binary_grows _ _ _ _ _ c.args.base c.in-Binary.op _ _ _ is c.emit_expr-in-Binary.ensures c.put_between.ensures c.emit_expr-in-Binary-2.ensures c.put_joined.ensures
