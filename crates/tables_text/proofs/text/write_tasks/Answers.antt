use Rattle.std.proofs.Common.{◌++◌, ◌+◌, length, Ok, refl, subst, arith}
use Rattle.mars_base.specs.declared.outside.SinkFault.{SinkFault}
use Rattle.lines.specs.Gathered.{Writes}
use Rattle.lines.proofs.Gather.{writes_both}
use Rattle.tables_text.specs.Text.{lines_of_tasks, line_of_task}
use Rattle.tables_text.proofs.Joining.{tasks_whole, tasks_next, stopped}
use Rattle.tables_text.proofs.text.write_tasks.Goals as goal

pub returns-in-Err-clause-bytes : goal.returns-in-Err-clause-bytes
returns-in-Err-clause-bytes g c =
    let i = c.loop-number.invariant in
    stopped (g.O.Sink.holds c.args.out.now) (g.O.Sink.holds c.loop-number.out) (g.O.Sink.holds c.write_line_of_task.new.out) c.args.buffer.now c.loop-number.buffer (lines_of_tasks c.args.net.now c.args.graph.now c.args.tables.now c.args.maxts.now c.loop-number.number) _ _ _
    (tasks_whole c.args.net.now c.args.graph.now c.args.tables.now c.args.maxts.now c.loop-number.number (length c.args.net.now.tasks) (omega (arith, c.loop-number-test.true, c.len-number-end.ensures))) i.written (c.in-Err.ensures {u = tt}).bytes

pub loop-number-preserved : goal.loop-number-preserved
loop-number-preserved g c =
    let i = c.loop-number.invariant in
    let n = c.loop-number.number in
    let t = lines_of_tasks c.args.net.now c.args.graph.now c.args.tables.now c.args.maxts.now n in
    let l = line_of_task c.args.net.now c.args.graph.now c.args.tables.now c.args.maxts.now n in
    record {
      written = subst (λ x. Writes {E = SinkFault} (g.O.Sink.holds c.args.out.now) c.args.buffer.now x (g.O.Sink.holds c.write_line_of_task.new.out) c.write_line_of_task.new.buffer (Ok tt))
          (tasks_next c.args.net.now c.args.graph.now c.args.tables.now c.args.maxts.now n (n + 1) refl)
          (writes_both {E = SinkFault} (Ok tt) (g.O.Sink.holds c.args.out.now) (g.O.Sink.holds c.loop-number.out) (g.O.Sink.holds c.write_line_of_task.new.out) c.args.buffer.now c.loop-number.buffer c.write_line_of_task.new.buffer t l i.written (c.in_default.ensures {u = tt}).bytes);
      later = omega (arith, i.later, c.write_line_of_task.ensures.cause.later);
    }
