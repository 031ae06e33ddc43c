use Rattle.image_plant.proofs.Made.{made}
use Rattle.image.proofs.Judged.{is_said, bad_table}
use Rattle.image.proofs.judging.assemble.Goals as goal

pub new-requires-clause-in_order : goal.new-requires-clause-in_order
new-requires-clause-in_order c =
    let is = c.requires.1 in
    let graph = rw c.as_slice-2.ensures at c.in_ok-graph.ensures in
    let said = is_said c.requires.0 c.args.checked is c.in_ok-states.states c.in_ok-graph.graph c.in_ok-tables.tables (rw c.as_slice.ensures at c.in_ok-states.ensures) graph.0 graph.1
    (rw c.as_slice-3.ensures at c.in_ok-tables.ensures.jobs) (rw c.as_slice-4.ensures at c.in_ok-tables.ensures.messages) in
    (made c.requires.0 _ said is.sound is.verified is.fits c.in-Ok.ensures.ok).in_order

pub new-requires-clause-ports : goal.new-requires-clause-ports
new-requires-clause-ports c =
    let is = c.requires.1 in
    let graph = rw c.as_slice-2.ensures at c.in_ok-graph.ensures in
    let said = is_said c.requires.0 c.args.checked is c.in_ok-states.states c.in_ok-graph.graph c.in_ok-tables.tables (rw c.as_slice.ensures at c.in_ok-states.ensures) graph.0 graph.1
    (rw c.as_slice-3.ensures at c.in_ok-tables.ensures.jobs) (rw c.as_slice-4.ensures at c.in_ok-tables.ensures.messages) in
    (made c.requires.0 _ said is.sound is.verified is.fits c.in-Ok.ensures.ok).ports

pub returns-in-Err-clause-fault : goal.returns-in-Err-clause-fault
returns-in-Err-clause-fault c p is =
    let graph = rw c.as_slice-2.ensures at c.in_ok-graph.ensures in
    bad_table p c.args.checked is c.in_ok-graph.graph c.in_ok-tables.tables _ _ graph.0 graph.1
    (rw c.as_slice-3.ensures at c.in_ok-tables.ensures.jobs) (rw c.as_slice-4.ensures at c.in_ok-tables.ensures.messages) c.in-Err.ensures.fault c.number.ensures
