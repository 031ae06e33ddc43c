use Rattle.port_feeds.specs.Feeds.{IsNeverFed}
use Rattle.project_sheet.proofs.Firsts.{found_ok, nothing}
use Rattle.project_binder.specs.PortFaults.{IsPortNeverFed}
use Rattle.project_binder.proofs.Faults.{as_entry}
use Rattle.project_binder.proofs.places.port_never_fed.Goals as goal

pub returns : goal.returns
returns c = found_ok (IsPortNeverFed c.args.net.now) _ nothing nothing (as_entry (IsNeverFed c.args.net.now) _ c.first_never_fed.ensures) nothing nothing nothing nothing
    c.first_place.result c.first_place.ensures
