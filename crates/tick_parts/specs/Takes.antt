-- The room that a replica has for the messages that it takes. This project's own.
use Rattle.std.specs.Prelude.{◌≡◌, ℕ, ◌<◌, List, length, slice_index}
use Rattle.graph.specs.Net.{width_of}
use Rattle.graph.specs.declared.net.Net.{Net}
use Rattle.tables.specs.Named.{edge_at, message_at}
use Rattle.tables.specs.declared.table.Tables.{Tables}

-- for each message as many words as its edge is wide
abbrev pub AreWidths : Net → Tables → List ℕ → Type 0
AreWidths net t widths = (place : ℕ) → place < length t.messages → slice_index widths place ≡ width_of net (edge_at net (message_at t place).edge)
