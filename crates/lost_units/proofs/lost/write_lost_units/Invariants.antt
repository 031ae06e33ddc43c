use Rattle.std.proofs.Common.{◌≤◌, Ok}
use Rattle.mars_base.specs.declared.outside.SinkFault.{SinkFault}
use Rattle.lines.specs.Gathered.{Writes}
use Rattle.cycle_text.specs.Lines.{numbered}
use Rattle.lost_units.specs.Lost.{line_of_lost}
use Rattle.lost_units.proofs.lost.write_lost_units.Given as goal

abbrev pub invariant-loop-unit : goal.invariant-loop-unit
invariant-loop-unit g l = record {
  written : Writes {E = SinkFault} (g.O.Sink.holds l.fn.out) l.fn.buffer (numbered (line_of_lost l.firsts l.ticks l.cycle) l.unit) (g.O.Sink.holds l.out) l.buffer (Ok tt);
  later : g.O.Sink.faults l.fn.out ≤ g.O.Sink.faults l.out;
}
