use Rattle.std.proofs.Common.{◌++◌, ◌+◌, length, Ok, sym, ap, subst, arith}
use Rattle.mars_base.specs.declared.outside.SinkFault.{SinkFault}
use Rattle.lines.specs.Gathered.{Writes}
use Rattle.lines.proofs.Gather.{writes_both}
use Rattle.cycle_outputs.proofs.InOrder.{number_more}
use Rattle.tables_text.proofs.Joining.{stopped}
use Rattle.cycle_text.specs.Lines.{numbered}
use Rattle.cycle_text.proofs.Numbers.{numbers_whole}
use Rattle.lost_units.specs.Lost.{line_of_lost}
use Rattle.lost_units.proofs.lost.write_lost_units.Goals as goal

pub returns-in-Err-clause-bytes : goal.returns-in-Err-clause-bytes
returns-in-Err-clause-bytes g c =
    let i = c.loop-unit.invariant in
    let line = line_of_lost c.args.firsts.now c.args.ticks c.args.cycle in
    stopped (g.O.Sink.holds c.args.out.now) (g.O.Sink.holds c.loop-unit.out) (g.O.Sink.holds c.write_if_lost.new.out) c.args.buffer.now c.loop-unit.buffer (numbered line c.loop-unit.unit) _ _ _
    (numbers_whole line c.loop-unit.unit c.args.units (omega (arith, c.loop-unit-test.true))) i.written (c.in-Err.ensures {u = tt}).bytes

pub loop-unit-preserved : goal.loop-unit-preserved
loop-unit-preserved g c =
    let i = c.loop-unit.invariant in
    let n = c.loop-unit.unit in
    let line = line_of_lost c.args.firsts.now c.args.ticks c.args.cycle in
    record {
      written = subst (λ x. Writes {E = SinkFault} (g.O.Sink.holds c.args.out.now) c.args.buffer.now x (g.O.Sink.holds c.write_if_lost.new.out) c.write_if_lost.new.buffer (Ok tt))
          (sym (number_more line n))
          (writes_both {E = SinkFault} (Ok tt) (g.O.Sink.holds c.args.out.now) (g.O.Sink.holds c.loop-unit.out) (g.O.Sink.holds c.write_if_lost.new.out) c.args.buffer.now c.loop-unit.buffer c.write_if_lost.new.buffer (numbered line n) (line n) i.written (c.in_default.ensures {u = tt}).bytes);
      later = omega (arith, i.later, c.write_if_lost.ensures.cause.later);
    }
