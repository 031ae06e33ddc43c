use Rattle.std.proofs.Common.{◌∙◌, ap, length, List}
use Rattle.mc_tree.specs.declared.raw.RawFunc.{RawFunc}
use Rattle.mc_check.specs.View.{table}
use Rattle.mc_check.specs.View.{sofar}
use Rattle.mc_check.proofs.Whole.{together}
use Rattle.mc_check.proofs.task.routines.Goals as goal

pub returns : goal.returns
returns c = together c.args.raw.now c.as_slice.result.now (table c.args.globals.now.callees) (table c.functions.new.globals.callees) (table c.args.globals.now.names) (table c.functions.new.globals.names)
    (sofar c.args.locals.now) (sofar c.functions.new.locals) (sofar c.enter.new.self) c.len-globals.result c.in_ok-inner.inner c.in_ok-last.last c.earlier.result c.as_slice.ensures
    c.in_ok-inner.ensures.first c.in_ok-inner.ensures.after c.in_ok-inner.ensures.names c.in_ok-inner.ensures.callees c.len-globals.ensures c.enter.ensures c.in_ok-last.ensures c.earlier.ensures
