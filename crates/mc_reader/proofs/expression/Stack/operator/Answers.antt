use Rattle.std.proofs.Common.{arith, ◌∙◌, ap, sym}
use Rattle.mc_tree.specs.RawPlain.{plain_expr as plain}
use Rattle.mc_reader.specs.Frames.{stack}
use Rattle.mc_reader.specs.Machine.{opened}
use Rattle.mc_reader.proofs.Opened.{same_opened}
use Rattle.mc_reader.proofs.expression.Stack.operator.Goals as goal

pub returns-clause-sized : goal.returns-clause-sized
returns-clause-sized c =
    let e = same_opened c.level_of.result (stack c.args.self.now.frames.items) (stack c.reduce.new.frames.items) (plain c.args.value) (plain c.in_ok-left.left) c.in_ok-left.ensures in
    record { opened = c.requires.sized.opened ∙ sym e ∙ ap opened (sym c.in_ok-put.ensures); used = omega arith }
