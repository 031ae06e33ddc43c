use Rattle.project_sheet.proofs.Firsts.{found_ok, least_at, nothing}
use Rattle.project_binder.specs.PortFaults.{IsWidthDifferent}
use Rattle.project_binder.proofs.places.width_differs.Goals as goal

pub returns : goal.returns
returns c = found_ok (IsWidthDifferent c.args.net.now) _ nothing nothing nothing nothing (least_at _ _ _ c.first_uneven.ensures) nothing nothing
    c.first_place.result c.first_place.ensures
