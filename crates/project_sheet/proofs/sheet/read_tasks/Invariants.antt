use Rattle.std.proofs.Common.{◌≡◌, map, take}
use Rattle.std.specs.Prelude.{All}
use Rattle.toml.specs.View.{view}
use Rattle.project_sheet.specs.Sheet.{rows_of, task_row, HasUtf8File}
use Rattle.project_sheet.proofs.sheet.read_tasks.Given as goal

abbrev pub invariant-loop-entry : goal.invariant-loop-entry
invariant-loop-entry l = record {
  rows : l.rows.items ≡ rows_of task_row (map view (take l.entry-index l.entries));
  utf8 : All HasUtf8File l.rows.items;
}
