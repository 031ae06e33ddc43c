use Rattle.project_sheet.specs.Sheet.{plain_sheet}
use Rattle.project_rows.specs.Rules.{IsOutOfRange}
use Rattle.project_sheet.proofs.Firsts.{found_ok, least_at, nothing}
use Rattle.project_rows.proofs.range.out_of_range.Goals as goal

pub returns : goal.returns
returns c = found_ok (IsOutOfRange (plain_sheet c.args.sheet.now)) _ nothing (least_at _ _ _ c.first_cluster_out.ensures) (least_at _ _ _ c.first_task_out.ensures) (least_at _ _ _ c.first_transaction_out.ensures) nothing nothing nothing
    c.first_place.result c.first_place.ensures
