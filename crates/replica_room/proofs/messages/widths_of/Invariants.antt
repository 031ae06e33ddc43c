use Rattle.std.proofs.Common.{◌≡◌, map, take}
use Rattle.graph.specs.Net.{width_of}
use Rattle.tables.specs.Named.{edge_at}
use Rattle.tables.specs.declared.table.Message.{Message}
use Rattle.replica_room.proofs.messages.widths_of.Given as goal

abbrev pub invariant-loop-message : goal.invariant-loop-message
invariant-loop-message l = record {
  widths : l.widths.items ≡ map (λ (message : Message). width_of l.net (edge_at l.net message.edge)) (take l.message-index l.message-items);
}
