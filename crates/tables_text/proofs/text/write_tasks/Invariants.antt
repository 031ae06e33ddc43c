use Rattle.std.proofs.Common.{◌≤◌, Ok}
use Rattle.mars_base.specs.declared.outside.SinkFault.{SinkFault}
use Rattle.lines.specs.Gathered.{Writes}
use Rattle.tables_text.specs.Text.{lines_of_tasks}
use Rattle.tables_text.proofs.text.write_tasks.Given as goal

abbrev pub invariant-loop-number : goal.invariant-loop-number
invariant-loop-number g l = record {
  written : Writes {E = SinkFault} (g.O.Sink.holds l.fn.out) l.fn.buffer (lines_of_tasks l.net l.graph l.tables l.maxts l.number) (g.O.Sink.holds l.out) l.buffer (Ok tt);
  later : g.O.Sink.faults l.fn.out ≤ g.O.Sink.faults l.out;
}
