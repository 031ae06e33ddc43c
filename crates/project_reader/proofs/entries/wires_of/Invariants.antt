use Rattle.std.proofs.Common.{◌≡◌, map, take}
use Rattle.project_sheet.specs.Sheet.{plain_sheet}
use Rattle.project_reader.specs.ProjectOf.{wire_of}
use Rattle.project_reader.proofs.entries.wires_of.Given as goal

abbrev pub invariant-loop-row : goal.invariant-loop-row
invariant-loop-row l = l.list ≡ map (wire_of (plain_sheet l.sheet)) (take l.row-index l.rows)
