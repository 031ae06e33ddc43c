use Rattle.std.proofs.Common.{arith}
use Rattle.project_sheet.specs.declared.kind.Kind.TheVariants.{UnknownPort, PortNeverFed, PortFedTwice, WidthDiffers}
use Rattle.project_sheet.proofs.Numbered.{none_yet, none_more, found_in}
use Rattle.project_binder.specs.PortFaults.{BindFails}
use Rattle.project_binder.proofs.Faults.{places}
use Rattle.project_binder.proofs.places.port_fault.Goals as goal

pub returns-in-Some : goal.returns-in-Some
returns-in-Some c = let F = BindFails c.args.net.now in found_in F 17 UnknownPort c.in-Some.place 21 (omega arith) (none_yet F 17) c.in_ok-place.field-0 c.in-Some.is c.in_ok-place.ensures

pub count_feeds-requires : goal.count_feeds-requires
count_feeds-requires c = places c.args.net.now c.requires c.in_ok-place.field-0 c.in-None.is c.in_ok-place.ensures

pub port_never_fed-requires-clause-places : goal.port_never_fed-requires-clause-places
port_never_fed-requires-clause-places c = places c.args.net.now c.requires c.in_ok-place.field-0 c.in-None.is c.in_ok-place.ensures

pub returns-in-Some-2 : goal.returns-in-Some-2
returns-in-Some-2 c =
    let F = BindFails c.args.net.now in
    let known = none_more F 17 UnknownPort (none_yet F 17) c.in_ok-place.field-0 c.in-None.is c.in_ok-place.ensures in
    found_in F 17 PortNeverFed c.in-Some-2.place 21 (omega arith) known c.in_ok-place-2.field-0 c.in-Some-2.is c.in_ok-place-2.ensures

pub port_fed_twice-requires-clause-places : goal.port_fed_twice-requires-clause-places
port_fed_twice-requires-clause-places c = places c.args.net.now c.requires c.in_ok-place.field-0 c.in-None.is c.in_ok-place.ensures

pub returns-in-Some-3 : goal.returns-in-Some-3
returns-in-Some-3 c =
    let F = BindFails c.args.net.now in
    let known = none_more F 17 UnknownPort (none_yet F 17) c.in_ok-place.field-0 c.in-None.is c.in_ok-place.ensures in
    let fed = none_more F 17 PortNeverFed known c.in_ok-place-2.field-0 c.in-None-2.is c.in_ok-place-2.ensures in
    found_in F 17 PortFedTwice c.in-Some-3.place 21 (omega arith) fed c.in_ok-place-3.field-0 c.in-Some-3.is c.in_ok-place-3.ensures

pub returns-in-Some-4 : goal.returns-in-Some-4
returns-in-Some-4 c =
    let F = BindFails c.args.net.now in
    let known = none_more F 17 UnknownPort (none_yet F 17) c.in_ok-place.field-0 c.in-None.is c.in_ok-place.ensures in
    let fed = none_more F 17 PortNeverFed known c.in_ok-place-2.field-0 c.in-None-2.is c.in_ok-place-2.ensures in
    let once = none_more F 17 PortFedTwice fed c.in_ok-place-3.field-0 c.in-None-3.is c.in_ok-place-3.ensures in
    found_in F 17 WidthDiffers c.in-Some-4.place 21 (omega arith) once c.in_ok-place-4.field-0 c.in-Some-4.is c.in_ok-place-4.ensures

pub returns : goal.returns
returns c =
    let F = BindFails c.args.net.now in
    let known = none_more F 17 UnknownPort (none_yet F 17) c.in_ok-place.field-0 c.in-None.is c.in_ok-place.ensures in
    let fed = none_more F 17 PortNeverFed known c.in_ok-place-2.field-0 c.in-None-2.is c.in_ok-place-2.ensures in
    let once = none_more F 17 PortFedTwice fed c.in_ok-place-3.field-0 c.in-None-3.is c.in_ok-place-3.ensures in
    none_more F 17 WidthDiffers once c.in_ok-place-4.field-0 c.in-None-4.is c.in_ok-place-4.ensures
