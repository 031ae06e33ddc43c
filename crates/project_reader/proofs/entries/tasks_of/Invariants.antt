use Rattle.std.proofs.Common.{◌≡◌, map, take}
use Rattle.project_sheet.specs.Sheet.{plain_sheet}
use Rattle.project_reader.specs.ProjectOf.{task_entry}
use Rattle.project_reader.proofs.entries.tasks_of.Given as goal

abbrev pub invariant-loop-row : goal.invariant-loop-row
invariant-loop-row l = l.list ≡ map (task_entry (plain_sheet l.sheet)) (take l.row-index l.rows)
