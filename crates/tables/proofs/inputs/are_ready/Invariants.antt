use Rattle.std.proofs.Common.{ℕ, ◌<◌}
use Rattle.graph.specs.Net.{instances}
use Rattle.tables.specs.Named.{edge_at}
use Rattle.tables.specs.Rules.{IsReadyHere}
use Rattle.tables.proofs.inputs.are_ready.Given as goal

abbrev pub invariant-loop-edge : goal.invariant-loop-edge
invariant-loop-edge l = (edge instance : ℕ) → edge < l.edge → instance < instances l.net l.graph.cycle (edge_at l.net edge).from_task → IsReadyHere l.net l.graph l.tables edge instance
