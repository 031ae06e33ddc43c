use Rattle.std.proofs.Common.{◌≡◌, ◌≤◌, ◌++◌, ℕ, List, drop, Ok}
use Rattle.mars_base.specs.declared.outside.SinkFault.{SinkFault}
use Rattle.lines.specs.Gathered.{Writes}
use Rattle.tables_text.specs.Text.{lines_of, line_of_job}
use Rattle.tables_text.proofs.text.write_jobs.Given as goal

abbrev pub invariant-loop-entry : goal.invariant-loop-entry
invariant-loop-entry g l = record {
  sent : List ℕ;
  whole : lines_of (line_of_job l.net l.graph) l.entries ≡ sent ++ lines_of (line_of_job l.net l.graph) (drop l.entry-index l.entries);
  written : Writes {E = SinkFault} (g.O.Sink.holds l.fn.out) l.fn.buffer sent (g.O.Sink.holds l.out) l.buffer (Ok tt);
  later : g.O.Sink.faults l.fn.out ≤ g.O.Sink.faults l.out;
}
