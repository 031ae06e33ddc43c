use Rattle.std.proofs.Common.{◌≡◌}
use Rattle.decisions.specs.TablesOf.{messages_of}
use Rattle.placement.proofs.into_tables.messages_of.Given as goal

abbrev pub invariant-loop-edge : goal.invariant-loop-edge
invariant-loop-edge l = l.messages ≡ messages_of l.state.problem l.state.placed.items l.edge
