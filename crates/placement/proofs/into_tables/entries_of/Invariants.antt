use Rattle.std.proofs.Common.{◌≡◌}
use Rattle.decisions.specs.TablesOf.{entries_of}
use Rattle.placement.proofs.into_tables.entries_of.Given as goal

abbrev pub invariant-loop-job : goal.invariant-loop-job
invariant-loop-job l = l.entries ≡ entries_of l.state.placed.items l.job
