use Rattle.project_sheet.specs.Sheet.{task_row}
use Rattle.project_sheet.proofs.Lists.{rows_more}
use Rattle.project_sheet.proofs.sheet.read_tasks.Goals as goal

pub loop-entry-preserved : goal.loop-entry-preserved
loop-entry-preserved c = record {
  rows = rows_more task_row c.args.entries.now c.loop-entry.entry-index c.entry-item.result c.loop-entry.rows.items _ c.loop-entry-test.true c.entry-item.is c.loop-entry.invariant.rows c.in_ok-push_task.ensures.rows;
  utf8 = c.in_ok-push_task.ensures.utf8 c.loop-entry.invariant.utf8;
}
