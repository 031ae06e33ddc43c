use Rattle.project_sheet.specs.Sheet.{plain_sheet}
use Rattle.project_relations.specs.Relations.{IsUnknownTask}
use Rattle.project_sheet.proofs.Firsts.{found_ok, least_at, nothing}
use Rattle.project_relations.proofs.relate.unknown_task.Goals as goal

pub returns : goal.returns
returns c = found_ok (IsUnknownTask (plain_sheet c.args.sheet.now)) _ nothing nothing nothing (least_at _ _ _ c.first_stray_transaction.ensures) (least_at _ _ _ c.first_stray_edge.ensures) (least_at _ _ _ c.first_stray_sensor.ensures) (least_at _ _ _ c.first_stray_actuator.ensures)
    c.first_place.result c.first_place.ensures
