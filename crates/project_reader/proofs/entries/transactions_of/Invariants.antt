use Rattle.std.proofs.Common.{◌≡◌, map, take}
use Rattle.project_reader.specs.ProjectOf.{transaction_entry}
use Rattle.project_reader.proofs.entries.transactions_of.Given as goal

abbrev pub invariant-loop-row : goal.invariant-loop-row
invariant-loop-row l = l.list ≡ map (transaction_entry) (take l.row-index l.rows)
