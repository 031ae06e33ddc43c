use Rattle.std.proofs.Common.{◌++◌, Ok, arith}
use Rattle.mars_base.specs.declared.outside.SinkFault.{SinkFault}
use Rattle.lines.proofs.Gather.{writes_both}
use Rattle.tables_text.specs.Text.{line_of_job}
use Rattle.tables_text.proofs.Joining.{lines_more, stopped}
use Rattle.tables_text.proofs.text.write_jobs.Goals as goal

pub returns-in-Err-clause-bytes : goal.returns-in-Err-clause-bytes
returns-in-Err-clause-bytes g c =
    let i = c.loop-entry.invariant in
    stopped (g.O.Sink.holds c.args.out.now) (g.O.Sink.holds c.loop-entry.out) (g.O.Sink.holds c.write_line_of_job.new.out) c.args.buffer.now c.loop-entry.buffer i.sent _ _ _
    (lines_more (line_of_job c.args.net.now c.args.graph.now) c.args.entries.now c.loop-entry.entry-index _ i.sent c.loop-entry-test.true i.whole) i.written (c.in-Err.ensures {u = tt}).bytes

pub loop-entry-preserved : goal.loop-entry-preserved
loop-entry-preserved g c =
    let i = c.loop-entry.invariant in
    record {
      sent = i.sent ++ _;
      whole = lines_more (line_of_job c.args.net.now c.args.graph.now) c.args.entries.now c.loop-entry.entry-index _ i.sent c.loop-entry-test.true i.whole;
      written = writes_both {E = SinkFault} (Ok tt) (g.O.Sink.holds c.args.out.now) (g.O.Sink.holds c.loop-entry.out) (g.O.Sink.holds c.write_line_of_job.new.out)
          c.args.buffer.now c.loop-entry.buffer c.write_line_of_job.new.buffer i.sent _ i.written (c.in_default.ensures {u = tt}).bytes;
      later = omega (arith, i.later, c.write_line_of_job.ensures.cause.later);
    }
