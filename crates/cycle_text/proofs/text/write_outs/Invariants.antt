use Rattle.std.proofs.Common.{◌≡◌, ◌≤◌, ◌++◌, ℕ, List, drop, Ok}
use Rattle.mars_base.specs.declared.outside.SinkFault.{SinkFault}
use Rattle.lines.specs.Gathered.{Writes}
use Rattle.tables_text.specs.Text.{lines_of}
use Rattle.cycle_text.specs.Lines.{line_of_output}
use Rattle.cycle_text.proofs.text.write_outs.Given as goal

abbrev pub invariant-loop-output : goal.invariant-loop-output
invariant-loop-output g l = record {
  sent : List ℕ;
  whole : lines_of (line_of_output l.net l.cycle (g.R.Outcome.given l.outcome)) l.outputs ≡ sent ++ lines_of (line_of_output l.net l.cycle (g.R.Outcome.given l.outcome)) (drop l.output-index l.outputs);
  written : Writes {E = SinkFault} (g.O.Sink.holds l.fn.out) l.fn.buffer sent (g.O.Sink.holds l.out) l.buffer (Ok tt);
  later : g.O.Sink.faults l.fn.out ≤ g.O.Sink.faults l.out;
}
