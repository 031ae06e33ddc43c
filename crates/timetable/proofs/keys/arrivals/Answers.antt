use Rattle.std.proofs.Common.{◌<◌, List, length, get_or, subst, sym, ap, arith}
use Rattle.tables.specs.declared.table.Message.{Message}
use Rattle.tables.specs.Named.{no_message, message_at}
use Rattle.tdma.specs.Layout.{Layout}
use Rattle.timetable.proofs.Few.{IsOfCycle, of_cycle}
use Rattle.timetable.proofs.keys.arrivals.Goals as goal

pub arrival_of-requires-clause-round : goal.arrival_of-requires-clause-round
arrival_of-requires-clause-round c =
    let i = c.loop-message.message-index in
    let items = c.as_slice-message-items.ensures in
    let within : i < length c.args.tables.now.messages = omega (arith, ap length items, c.loop-message-test.true) in
    let here = of_cycle c.args.net.now c.args.graph.now c.args.tables.now i c.requires.net c.requires.valid within in
    subst (λ (ms : List Message). (get_or ms i no_message).round < c.args.round.now.rounds) (sym items)
    (subst (λ (l : Layout). (message_at c.args.tables.now i).round < l.rounds) (sym c.requires.bus) here.round)

pub arrival_of-requires-clause-unit : goal.arrival_of-requires-clause-unit
arrival_of-requires-clause-unit c =
    let i = c.loop-message.message-index in
    let items = c.as_slice-message-items.ensures in
    let within : i < length c.args.tables.now.messages = omega (arith, ap length items, c.loop-message-test.true) in
    let here = of_cycle c.args.net.now c.args.graph.now c.args.tables.now i c.requires.net c.requires.valid within in
    subst (λ (ms : List Message). (get_or ms i no_message).unit < c.args.round.now.units) (sym items)
    (subst (λ (l : Layout). (message_at c.args.tables.now i).unit < l.units) (sym c.requires.bus) here.unit)
