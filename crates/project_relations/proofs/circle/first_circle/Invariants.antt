use Rattle.std.proofs.Common.{ℕ, ◌<◌}
use Rattle.project_sheet.specs.Sheet.{plain_sheet}
use Rattle.project_relations.specs.Relations.{CanRank, links_of}
use Rattle.project_relations.proofs.circle.first_circle.Given as goal

abbrev pub invariant-loop-transaction : goal.invariant-loop-transaction
invariant-loop-transaction l = (t : ℕ) → t < l.transaction → CanRank (links_of (plain_sheet l.sheet) t)
