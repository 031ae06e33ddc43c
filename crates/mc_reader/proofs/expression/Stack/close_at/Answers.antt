use Rattle.std.proofs.Common.{arith}
use Rattle.mc_tree.specs.RawPlain.{plain_expr as plain}
use Rattle.mc_reader.specs.Frames.{stack}
use Rattle.mc_reader.specs.Machine as M
use Rattle.mc_reader.proofs.Opened.{one_less, index_ends}
use Rattle.mc_tree.proofs.RawPlain.{plain_at}
use Rattle.mc_reader.proofs.expression.Stack.close_at.Goals as goal

pub overflow_sub-self : goal.overflow_sub-self
overflow_sub-self c =
    let e = one_less 0 (stack c.args.self.now.frames.items) (stack c.reduce.new.frames.items) (stack c.pull.new.frames.items) (M.Index c.in-Some-Index.name) (plain c.args.value) (plain c.in_ok-value.value) c.args.self.now.opened c.in_ok-value.ensures (rw c.in-Some-Index.field-0-is at c.in-Some-Index.ensures) c.requires.sized.opened in
    omega (arith, e)

pub returns-in_ok-index-in-Some-Index-clause-step : goal.returns-in_ok-index-in-Some-Index-clause-step
returns-in_ok-index-in-Some-Index-clause-step c =
    rw (plain_at, c.in_ok-index-in-Some-Index.ensures, c.join-span.ensures)
    (index_ends c.args.self.now.used (stack c.args.self.now.frames.items) (stack c.reduce.new.frames.items) (stack c.pull.new.frames.items) (plain c.args.value) (plain c.in_ok-value.value) c.in-Some-Index.name c.args.at c.in_ok-value.ensures (rw c.in-Some-Index.field-0-is at c.in-Some-Index.ensures))

pub returns-in_ok-index-in-Some-Index-clause-sized : goal.returns-in_ok-index-in-Some-Index-clause-sized
returns-in_ok-index-in-Some-Index-clause-sized c =
    let e = one_less 0 (stack c.args.self.now.frames.items) (stack c.reduce.new.frames.items) (stack c.pull.new.frames.items) (M.Index c.in-Some-Index.name) (plain c.args.value) (plain c.in_ok-value.value) c.args.self.now.opened c.in_ok-value.ensures (rw c.in-Some-Index.field-0-is at c.in-Some-Index.ensures) c.requires.sized.opened in
    record { opened = omega (arith, e); used = c.requires.sized.used }
