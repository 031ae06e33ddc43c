use Rattle.std.proofs.Common.{◌++◌, Ok, arith}
use Rattle.mars_base.specs.declared.outside.SinkFault.{SinkFault}
use Rattle.lines.proofs.Gather.{writes_both}
use Rattle.tables_text.proofs.Joining.{lines_more, stopped}
use Rattle.cycle_text.specs.Lines.{line_of_output}
use Rattle.cycle_text.proofs.text.write_outs.Goals as goal

pub returns-in-Err-clause-bytes : goal.returns-in-Err-clause-bytes
returns-in-Err-clause-bytes g c =
    let i = c.loop-output.invariant in
    let line = line_of_output c.args.net.now c.args.cycle (g.R.Outcome.given c.args.outcome.now) in
    stopped (g.O.Sink.holds c.args.out.now) (g.O.Sink.holds c.loop-output.out) (g.O.Sink.holds c.write_output.new.out) c.args.buffer.now c.loop-output.buffer i.sent _ _ _
    (lines_more line c.args.outputs.now c.loop-output.output-index _ i.sent c.loop-output-test.true i.whole) i.written (c.in-Err.ensures {u = tt}).bytes

pub loop-output-preserved : goal.loop-output-preserved
loop-output-preserved g c =
    let i = c.loop-output.invariant in
    let line = line_of_output c.args.net.now c.args.cycle (g.R.Outcome.given c.args.outcome.now) in
    record {
      sent = i.sent ++ _;
      whole = lines_more line c.args.outputs.now c.loop-output.output-index _ i.sent c.loop-output-test.true i.whole;
      written = writes_both {E = SinkFault} (Ok tt) (g.O.Sink.holds c.args.out.now) (g.O.Sink.holds c.loop-output.out) (g.O.Sink.holds c.write_output.new.out)
          c.args.buffer.now c.loop-output.buffer c.write_output.new.buffer i.sent _ i.written (c.in_default.ensures {u = tt}).bytes;
      later = omega (arith, i.later, c.write_output.ensures.cause.later);
    }
