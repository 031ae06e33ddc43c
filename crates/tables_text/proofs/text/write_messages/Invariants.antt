use Rattle.std.proofs.Common.{◌≡◌, ◌≤◌, ◌++◌, ℕ, List, drop, Ok}
use Rattle.mars_base.specs.declared.outside.SinkFault.{SinkFault}
use Rattle.lines.specs.Gathered.{Writes}
use Rattle.tables_text.specs.Text.{lines_of, message_line}
use Rattle.tables_text.proofs.text.write_messages.Given as goal

abbrev pub invariant-loop-message : goal.invariant-loop-message
invariant-loop-message g l = record {
  sent : List ℕ;
  whole : lines_of message_line l.messages ≡ sent ++ lines_of message_line (drop l.message-index l.messages);
  written : Writes {E = SinkFault} (g.O.Sink.holds l.fn.out) l.fn.buffer sent (g.O.Sink.holds l.out) l.buffer (Ok tt);
  later : g.O.Sink.faults l.fn.out ≤ g.O.Sink.faults l.out;
}
