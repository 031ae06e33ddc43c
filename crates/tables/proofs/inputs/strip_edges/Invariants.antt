use Rattle.std.proofs.Common.{◌≡◌, ◌-◌, length}
use Rattle.tables.specs.Keys.{strip}
use Rattle.tables.specs.Rules.{keys_of, keys_of_edges}
use Rattle.tables.proofs.inputs.strip_edges.Given as goal

abbrev pub invariant-loop-edge : goal.invariant-loop-edge
invariant-loop-edge l =
    strip (keys_of_edges l.net l.graph l.tables l.edge ((length l.net.edges) - l.edge)) (keys_of l.rest) ≡ strip (keys_of_edges l.net l.graph l.tables 0 (length l.net.edges)) (keys_of l.messages)
