use Rattle.std.proofs.Common.{length}
use Rattle.graph.specs.FeederTable.{IsTable, IsBefore}
use Rattle.graph.proofs.feeds.note_sensors.Given as goal

abbrev pub invariant-loop-number : goal.invariant-loop-number
invariant-loop-number l = IsTable l.net l.table.items (IsBefore (length l.net.edges) l.number)
