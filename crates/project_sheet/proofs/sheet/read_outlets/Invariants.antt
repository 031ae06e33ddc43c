use Rattle.std.proofs.Common.{◌≡◌, map, take}
use Rattle.toml.specs.View.{view}
use Rattle.project_sheet.specs.Sheet.{rows_of, outlet_row}
use Rattle.project_sheet.proofs.sheet.read_outlets.Given as goal

abbrev pub invariant-loop-entry : goal.invariant-loop-entry
invariant-loop-entry l = l.rows.items ≡ rows_of (outlet_row l.key) (map view (take l.entry-index l.entries))
