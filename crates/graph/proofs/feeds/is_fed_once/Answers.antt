use Rattle.graph.specs.FeederTable.{IsFeederTable}
use Rattle.graph.proofs.Feeding.{filled_once}
use Rattle.graph.proofs.feeds.is_fed_once.Goals as goal

pub returns : goal.returns
returns c =
    let table : IsFeederTable c.args.net.now c.in-Some.table.items = rw c.in-Some.is at c.in_ok-table.ensures in
    let filled = filled_once c.args.net.now c.in-Some.table.items c.requires.counts c.requires.entries table in
    let answer = rw c.as_slice.ensures.value at c.are_tasks_fed.ensures in
    (λ t. filled.0 (answer.0 t), λ once. answer.1 (filled.1 once))
