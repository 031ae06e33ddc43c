use Rattle.std.proofs.Common.{◌≡◌, ◌-◌}
use Rattle.graph.specs.Net.{instances}
use Rattle.tables.specs.Keys.{strip}
use Rattle.tables.specs.Named.{edge_at}
use Rattle.tables.specs.Rules.{keys_of, keys_of_edge}
use Rattle.tables.proofs.inputs.strip_edge.Given as goal

abbrev pub invariant-loop-instance : goal.invariant-loop-instance
invariant-loop-instance l =
    strip (keys_of_edge l.net l.graph l.tables l.edge l.instance ((instances l.net l.graph.cycle (edge_at l.net l.edge).from_task) - l.instance)) (keys_of l.rest) ≡ strip (keys_of_edge l.net l.graph l.tables l.edge 0 (instances l.net l.graph.cycle (edge_at l.net l.edge).from_task)) (keys_of l.messages)
