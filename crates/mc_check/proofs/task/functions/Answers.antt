use Rattle.std.proofs.Common.{◌∙◌}
use Rattle.mc_check.specs.View.{table}
use Rattle.mc_check.specs.View.{sofar}
use Rattle.mc_check.proofs.Functions.{fns-more, fns_after-more, with_functions-more}
use Rattle.mc_check.proofs.task.functions.Goals as goal

pub loop-i-preserved : goal.loop-i-preserved
loop-i-preserved c = record {
  first = fns-more (table c.args.globals.now.callees) (table c.loop-i.globals.callees) c.args.funcs.now c.loop-i.i c.index-funcs-i.result (table c.loop-i.globals.names) (table c.named_function.new.globals.names)
      (sofar c.loop-i.locals) (sofar c.named_function.new.locals) c.loop-i.best c.in_ok-fault.fault c.earlier-best.result c.loop-i-test.true c.index-funcs-i.is c.loop-i.invariant.callees
      c.in_ok-fault.ensures.first c.in_ok-fault.ensures.after c.in_ok-fault.ensures.names c.earlier-best.ensures
      ∙ c.loop-i.invariant.first;
  after = fns_after-more c.args.funcs.now c.loop-i.i c.index-funcs-i.result (sofar c.loop-i.locals) (sofar c.named_function.new.locals) c.loop-i-test.true c.index-funcs-i.is c.in_ok-fault.ensures.after
      ∙ c.loop-i.invariant.after;
  names = with_functions-more c.args.funcs.now c.loop-i.i c.index-funcs-i.result (table c.loop-i.globals.names) (table c.named_function.new.globals.names) c.loop-i-test.true c.index-funcs-i.is c.in_ok-fault.ensures.names
      ∙ c.loop-i.invariant.names;
  callees = c.in_ok-fault.ensures.callees ∙ c.loop-i.invariant.callees;
}
