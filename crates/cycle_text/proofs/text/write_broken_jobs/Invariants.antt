use Rattle.std.proofs.Common.{◌≤◌, Ok}
use Rattle.mars_base.specs.declared.outside.SinkFault.{SinkFault}
use Rattle.lines.specs.Gathered.{Writes}
use Rattle.cycle_text.specs.Lines.{line_of_broken, numbered}
use Rattle.cycle_text.proofs.text.write_broken_jobs.Given as goal

abbrev pub invariant-loop-number : goal.invariant-loop-number
invariant-loop-number g l = record {
  written : Writes {E = SinkFault} (g.O.Sink.holds l.fn.out) l.fn.buffer (numbered (line_of_broken l.net l.graph l.cycle (g.R.Outcome.broken l.outcome)) l.number) (g.O.Sink.holds l.out) l.buffer (Ok tt);
  later : g.O.Sink.faults l.fn.out ≤ g.O.Sink.faults l.out;
}
