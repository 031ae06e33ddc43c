use Rattle.std.proofs.Common.{◌≡◌, map, take}
use Rattle.project_sheet.specs.Sheet.{plain_sheet}
use Rattle.project_reader.specs.ProjectOf.{outlet_of}
use Rattle.project_reader.proofs.entries.outlets_of.Given as goal

abbrev pub invariant-loop-row : goal.invariant-loop-row
invariant-loop-row l = l.list ≡ map (outlet_of (plain_sheet l.sheet)) (take l.row-index l.rows)
