use Rattle.std.proofs.Common.{◌≡◌, ◌++◌}
use Rattle.decisions.specs.TablesOf.{messages_over}
use Rattle.placement.proofs.into_tables.add_edge.Given as goal

abbrev pub invariant-loop-job : goal.invariant-loop-job
invariant-loop-job l = l.messages ≡ l.fn.messages ++ messages_over l.state.problem l.state.placed.items l.edge l.job
