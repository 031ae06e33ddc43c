use Rattle.std.proofs.Common.{◌≡◌, ◌≤◌, ◌++◌, ℕ, List, drop, Ok}
use Rattle.mars_base.specs.declared.outside.SinkFault.{SinkFault}
use Rattle.lines.specs.Gathered.{Writes}
use Rattle.tables_text.specs.Text.{lines_of}
use Rattle.trace_text.specs.Lines.{line_of_effect}
use Rattle.trace_text.proofs.text.write_effects.Given as goal

abbrev pub invariant-loop-effect : goal.invariant-loop-effect
invariant-loop-effect g l = record {
  sent : List ℕ;
  whole : lines_of (line_of_effect l.net l.graph l.tables (g.R.Outcome.given l.outcome) l.place) l.effects ≡ sent ++ lines_of (line_of_effect l.net l.graph l.tables (g.R.Outcome.given l.outcome) l.place) (drop l.effect-index l.effects);
  written : Writes {E = SinkFault} (g.O.Sink.holds l.fn.out) l.fn.buffer sent (g.O.Sink.holds l.out) l.buffer (Ok tt);
  later : g.O.Sink.faults l.fn.out ≤ g.O.Sink.faults l.out;
}
