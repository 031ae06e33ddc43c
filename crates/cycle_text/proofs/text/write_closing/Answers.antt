use Rattle.std.proofs.Common.{◌++◌, ◌+◌, length, Ok, sym, ap, subst, arith}
use Rattle.mars_base.specs.declared.outside.SinkFault.{SinkFault}
use Rattle.lines.specs.Gathered.{Writes}
use Rattle.lines.proofs.Gather.{writes_both}
use Rattle.cycle_outputs.proofs.InOrder.{number_more}
use Rattle.tables_text.proofs.Joining.{stopped}
use Rattle.cycle_text.specs.Lines.{line_of_seen, numbered}
use Rattle.cycle_text.proofs.Numbers.{numbers_whole}
use Rattle.cycle_text.proofs.text.write_closing.Goals as goal

pub returns-in-Err-clause-bytes : goal.returns-in-Err-clause-bytes
returns-in-Err-clause-bytes g c =
    let i = c.loop-number.invariant in
    let line = line_of_seen c.args.net.now c.args.maxts.now c.args.seen.now in
    stopped (g.O.Sink.holds c.args.out.now) (g.O.Sink.holds c.loop-number.out) (g.O.Sink.holds c.write_seen.new.out) c.args.buffer.now c.loop-number.buffer (numbered line c.loop-number.number) _ _ _
    (numbers_whole line c.loop-number.number (length c.args.net.now.tasks) (omega (arith, c.loop-number-test.true, c.len-number-end.ensures))) i.written (c.in-Err.ensures {u = tt}).bytes

pub loop-number-preserved : goal.loop-number-preserved
loop-number-preserved g c =
    let i = c.loop-number.invariant in
    let n = c.loop-number.number in
    let line = line_of_seen c.args.net.now c.args.maxts.now c.args.seen.now in
    record {
      written = subst (λ x. Writes {E = SinkFault} (g.O.Sink.holds c.args.out.now) c.args.buffer.now x (g.O.Sink.holds c.write_seen.new.out) c.write_seen.new.buffer (Ok tt))
          (sym (number_more line n))
          (writes_both {E = SinkFault} (Ok tt) (g.O.Sink.holds c.args.out.now) (g.O.Sink.holds c.loop-number.out) (g.O.Sink.holds c.write_seen.new.out) c.args.buffer.now c.loop-number.buffer c.write_seen.new.buffer (numbered line n) (line n) i.written (c.in_default.ensures {u = tt}).bytes);
      later = omega (arith, i.later, c.write_seen.ensures.cause.later);
    }
