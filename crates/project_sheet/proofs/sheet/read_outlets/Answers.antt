use Rattle.project_sheet.specs.Sheet.{outlet_row}
use Rattle.project_sheet.proofs.Lists.{rows_more}
use Rattle.project_sheet.proofs.sheet.read_outlets.Goals as goal

pub loop-entry-preserved : goal.loop-entry-preserved
loop-entry-preserved c = rows_more (outlet_row c.args.key.now) c.args.entries.now c.loop-entry.entry-index c.entry-item.result c.loop-entry.rows.items _ c.loop-entry-test.true c.entry-item.is c.loop-entry.invariant c.in_ok-push_outlet.ensures
