use Rattle.project_sheet.specs.Sheet.{plain_sheet}
use Rattle.project_rows.specs.Rules.{IsBadName}
use Rattle.project_sheet.proofs.Firsts.{found_ok, least_at, nothing}
use Rattle.project_rows.proofs.name.bad_name.Goals as goal

pub returns : goal.returns
returns c = found_ok (IsBadName (plain_sheet c.args.sheet.now)) _ nothing nothing (least_at _ _ _ c.first_task.ensures) (least_at _ _ _ c.first_transaction.ensures) (least_at _ _ _ c.first_edge.ensures) (least_at _ _ _ c.first_sensor.ensures) (least_at _ _ _ c.first_actuator.ensures)
    c.first_place.result c.first_place.ensures
