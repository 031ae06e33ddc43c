use Rattle.project_sheet.specs.Sheet.{edge_row}
use Rattle.project_sheet.proofs.Lists.{rows_more}
use Rattle.project_sheet.proofs.sheet.read_edges.Goals as goal

pub loop-entry-preserved : goal.loop-entry-preserved
loop-entry-preserved c = rows_more edge_row c.args.entries.now c.loop-entry.entry-index c.entry-item.result c.loop-entry.rows.items _ c.loop-entry-test.true c.entry-item.is c.loop-entry.invariant c.in_ok-push_edge.ensures
