use Rattle.std.proofs.Common.{ℕ, ◌<◌}
use Rattle.tables.specs.Named.{message_at}
use Rattle.tables.specs.Rules.{IsInTime}
use Rattle.tables.specs.Valid.{bus_of}
use Rattle.tables.proofs.inputs.are_in_time.Given as goal

abbrev pub invariant-loop-place : goal.invariant-loop-place
invariant-loop-place l = (i : ℕ) → i < l.place → IsInTime l.net l.graph (bus_of l.net l.graph) l.tables (message_at l.tables i)
