use Rattle.std.proofs.Common.{◌++◌, Ok, arith}
use Rattle.mars_base.specs.declared.outside.SinkFault.{SinkFault}
use Rattle.lines.proofs.Gather.{writes_both}
use Rattle.tables_text.specs.Text.{message_line}
use Rattle.tables_text.proofs.Joining.{lines_more, stopped}
use Rattle.tables_text.proofs.text.write_messages.Goals as goal

pub returns-in-Err-clause-bytes : goal.returns-in-Err-clause-bytes
returns-in-Err-clause-bytes g c =
    let i = c.loop-message.invariant in
    stopped (g.O.Sink.holds c.args.out.now) (g.O.Sink.holds c.loop-message.out) (g.O.Sink.holds c.write_message.new.out) c.args.buffer.now c.loop-message.buffer i.sent _ _ _
    (lines_more message_line c.args.messages.now c.loop-message.message-index _ i.sent c.loop-message-test.true i.whole) i.written (c.in-Err.ensures {u = tt}).bytes

pub loop-message-preserved : goal.loop-message-preserved
loop-message-preserved g c =
    let i = c.loop-message.invariant in
    record {
      sent = i.sent ++ _;
      whole = lines_more message_line c.args.messages.now c.loop-message.message-index _ i.sent c.loop-message-test.true i.whole;
      written = writes_both {E = SinkFault} (Ok tt) (g.O.Sink.holds c.args.out.now) (g.O.Sink.holds c.loop-message.out) (g.O.Sink.holds c.write_message.new.out)
          c.args.buffer.now c.loop-message.buffer c.write_message.new.buffer i.sent _ i.written (c.in_default.ensures {u = tt}).bytes;
      later = omega (arith, i.later, c.write_message.ensures.cause.later);
    }
