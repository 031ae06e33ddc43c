use Rattle.std.proofs.Common.{ℕ, ◌<◌}
use Rattle.tables.specs.Rules.{IsReadyHere}
use Rattle.tables.proofs.inputs.is_edge_ready.Given as goal

abbrev pub invariant-loop-instance : goal.invariant-loop-instance
invariant-loop-instance l = (instance : ℕ) → instance < l.instance → IsReadyHere l.net l.graph l.tables l.edge instance
