use Rattle.std.proofs.Common.{◌++◌, Ok, arith}
use Rattle.mars_base.specs.declared.outside.SinkFault.{SinkFault}
use Rattle.lines.proofs.Gather.{writes_both}
use Rattle.tables_text.proofs.Joining.{lines_more, stopped}
use Rattle.trace_text.specs.Lines.{line_of_effect}
use Rattle.trace_text.proofs.text.write_effects.Goals as goal

pub returns-in-Err-clause-bytes : goal.returns-in-Err-clause-bytes
returns-in-Err-clause-bytes g c =
    let i = c.loop-effect.invariant in
    let line = line_of_effect c.args.net.now c.args.graph.now c.args.tables.now (g.R.Outcome.given c.args.outcome.now) c.args.place in
    stopped (g.O.Sink.holds c.args.out.now) (g.O.Sink.holds c.loop-effect.out) (g.O.Sink.holds c.write_effect.new.out) c.args.buffer.now c.loop-effect.buffer i.sent _ _ _
    (lines_more line c.args.effects.now c.loop-effect.effect-index _ i.sent c.loop-effect-test.true i.whole) i.written (c.in-Err.ensures {u = tt}).bytes

pub loop-effect-preserved : goal.loop-effect-preserved
loop-effect-preserved g c =
    let i = c.loop-effect.invariant in
    let line = line_of_effect c.args.net.now c.args.graph.now c.args.tables.now (g.R.Outcome.given c.args.outcome.now) c.args.place in
    record {
      sent = i.sent ++ _;
      whole = lines_more line c.args.effects.now c.loop-effect.effect-index _ i.sent c.loop-effect-test.true i.whole;
      written = writes_both {E = SinkFault} (Ok tt) (g.O.Sink.holds c.args.out.now) (g.O.Sink.holds c.loop-effect.out) (g.O.Sink.holds c.write_effect.new.out)
          c.args.buffer.now c.loop-effect.buffer c.write_effect.new.buffer i.sent _ i.written (c.in_default.ensures {u = tt}).bytes;
      later = omega (arith, i.later, c.write_effect.ensures.cause.later);
    }
