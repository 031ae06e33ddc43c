use Rattle.port_feeds.specs.Feeds.{IsFedTwice}
use Rattle.project_sheet.proofs.Firsts.{found_ok, nothing}
use Rattle.project_binder.specs.PortFaults.{IsPortFedTwice}
use Rattle.project_binder.proofs.Faults.{as_entry}
use Rattle.project_binder.proofs.places.port_fed_twice.Goals as goal

pub returns : goal.returns
returns c = found_ok (IsPortFedTwice c.args.net.now) _ nothing nothing (as_entry (IsFedTwice c.args.net.now) _ c.first_fed_twice.ensures) nothing nothing nothing nothing
    c.first_place.result c.first_place.ensures
