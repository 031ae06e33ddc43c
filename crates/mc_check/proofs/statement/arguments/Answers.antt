use Rattle.std.proofs.Common.{◌∙◌, sym}
use Rattle.mc_check.specs.View.{table}
use Rattle.mc_check.specs.View.{outside}
use Rattle.mc_check.proofs.Loops.{args-more, args-end}
use Rattle.mc_check.proofs.statement.arguments.Goals as goal

pub loop-e-preserved : goal.loop-e-preserved
loop-e-preserved c =
    args-more (outside c.args.globals.now) (table c.args.locals.now.names) c.args.args.now c.loop-e.e-index c.e-item.result c.loop-e.best c.expression.result c.earlier-best.result
    c.loop-e-test.true c.e-item.is c.expression.ensures c.earlier-best.ensures
    ∙ c.loop-e.invariant
