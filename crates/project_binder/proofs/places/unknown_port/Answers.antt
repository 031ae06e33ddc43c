use Rattle.project_sheet.proofs.Firsts.{found_ok, least_at, nothing}
use Rattle.project_binder.specs.PortFaults.{IsUnknownPort}
use Rattle.project_binder.proofs.places.unknown_port.Goals as goal

pub returns : goal.returns
returns c = found_ok (IsUnknownPort c.args.net.now) _ nothing nothing nothing nothing (least_at _ _ _ c.first_loose_edge.ensures) (least_at _ _ _ c.first_loose_sensor.ensures) (least_at _ _ _ c.first_loose_actuator.ensures)
    c.first_place.result c.first_place.ensures
