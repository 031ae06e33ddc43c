use Rattle.std.proofs.Common.{arith}
use Rattle.mc_tree.specs.RawPlain.{plain_expr as plain}
use Rattle.mc_reader.specs.Frames.{stack}
use Rattle.mc_reader.specs.Machine as M
use Rattle.mc_reader.proofs.Opened.{one_less}
use Rattle.mc_reader.proofs.expression.Stack.close.Goals as goal

pub overflow_sub-self : goal.overflow_sub-self
overflow_sub-self c =
    let e = one_less 0 (stack c.args.self.now.frames.items) (stack c.reduce.new.frames.items) (stack c.pull.new.frames.items) M.Paren (plain c.args.value) (plain c.in_ok-value.value) c.args.self.now.opened c.in_ok-value.ensures (rw c.in-Some-Paren.field-0-is at c.in-Some-Paren.ensures) c.requires.sized.opened in
    omega (arith, e)

pub returns-in-Some-Paren-clause-sized : goal.returns-in-Some-Paren-clause-sized
returns-in-Some-Paren-clause-sized c =
    let e = one_less 0 (stack c.args.self.now.frames.items) (stack c.reduce.new.frames.items) (stack c.pull.new.frames.items) M.Paren (plain c.args.value) (plain c.in_ok-value.value) c.args.self.now.opened c.in_ok-value.ensures (rw c.in-Some-Paren.field-0-is at c.in-Some-Paren.ensures) c.requires.sized.opened in
    record { opened = omega (arith, e); used = c.requires.sized.used }
