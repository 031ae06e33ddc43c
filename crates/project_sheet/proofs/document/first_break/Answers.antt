use Rattle.toml.specs.View.{table_view}
use Rattle.project_sheet.specs.Document.{Breaks}
use Rattle.project_sheet.proofs.Firsts.{found_ok, least_at}
use Rattle.project_sheet.proofs.document.first_break.Goals as goal

pub returns : goal.returns
returns c = found_ok (Breaks (table_view c.args.doc.now) c.args.rule) _
    (least_at _ _ _ c.first_in_table.ensures) (least_at _ _ _ c.first_in_cluster.ensures) (least_at _ _ _ c.first_in_array.ensures)
    (least_at _ _ _ c.first_in_array-2.ensures) (least_at _ _ _ c.first_in_array-3.ensures) (least_at _ _ _ c.first_in_array-4.ensures)
    (least_at _ _ _ c.first_in_array-5.ensures)
    c.first_place.result c.first_place.ensures
