use Rattle.std.proofs.Common.{◌≡◌, ◌+◌, List, length, set, true, Option, Some, sym, ◌∙◌, ap, subst, arith}
use Rattle.std.specs.Prelude.{is_some}
use Rattle.graph.specs.declared.feeder.Feeder.{Feeder}
use Rattle.graph.specs.declared.feeder.Feeder.TheVariants as feeder
use Rattle.graph.specs.Feeders.{IsFeeder}
use Rattle.graph.specs.FeederTable.{feeder_in, IsTable, IsBefore}
use Rattle.graph.proofs.Feeding.{sensor_feeder, port_low, fed_twice, is_free, table_more, sensor_back, sensor_on}
use Rattle.graph.proofs.feeds.note_sensors.Goals as goal

pub returns-then-is_fed-clause-twice : goal.returns-then-is_fed-clause-twice
returns-then-is_fed-clause-twice c = λ _ once.
    let net = c.args.net.now in
    let n = c.loop-number.number in
    let e = c.index-sensors-from.result in
    let feeds : IsFeeder net e.task e.port (feeder.Sensor n) = sensor_feeder net c.as_slice-sensors.result.now n c.from.result e c.as_slice-sensors.ensures c.from.ensures (omega arith) c.index-sensors-from.is in
    fed_twice net c.loop-number.table.items (IsBefore (length net.edges) n) e.task e.port (feeder.Sensor n) c.requires.counts c.requires.entries c.loop-number.invariant feeds (λ h. omega (arith, h))
    (subst (λ (xs : List (Option Feeder)). is_some (feeder_in xs e.task e.port) ≡ true) c.deref.ensures.value (sym c.is_fed.ensures ∙ c.if-is_fed.true)) once

pub place_of-requires-clause-port : goal.place_of-requires-clause-port
place_of-requires-clause-port c =
    let net = c.args.net.now in
    let n = c.loop-number.number in
    let e = c.index-sensors-from.result in
    let feeds : IsFeeder net e.task e.port (feeder.Sensor n) = sensor_feeder net c.as_slice-sensors.result.now n c.from.result e c.as_slice-sensors.ensures c.from.ensures (omega arith) c.index-sensors-from.is in
    (port_low net (feeder.Sensor n) e.task e.port c.requires.counts c.requires.entries feeds).1

pub loop-number-preserved : goal.loop-number-preserved
loop-number-preserved c =
    let net = c.args.net.now in
    let n = c.loop-number.number in
    let e = c.index-sensors-from.result in
    let feeds : IsFeeder net e.task e.port (feeder.Sensor n) = sensor_feeder net c.as_slice-sensors.result.now n c.from.result e c.as_slice-sensors.ensures c.from.ensures (omega arith) c.index-sensors-from.is in
    let low = port_low net (feeder.Sensor n) e.task e.port c.requires.counts c.requires.entries feeds in
    let free = is_free (feeder_in c.loop-number.table.items e.task e.port) c.is_fed.result
    (c.is_fed.ensures ∙ ap (λ (xs : List (Option Feeder)). is_some (feeder_in xs e.task e.port)) c.deref.ensures.value) c.if-is_fed.false in
    subst (λ k. IsTable net (set c.loop-number.table.items k (Some (feeder.Sensor n))) (IsBefore (length net.edges) (n + 1))) (sym c.place_of.ensures.place)
    (table_more net c.loop-number.table.items (IsBefore (length net.edges) n) (IsBefore (length net.edges) (n + 1)) e.task e.port (feeder.Sensor n) c.loop-number.invariant feeds low.0 low.1 free
    (λ g h. sensor_back (length net.edges) n g h) (λ g h. sensor_on (length net.edges) n g h) (omega arith))

pub returns-clause-noted : goal.returns-clause-noted
returns-clause-noted c = λ _.
    let net = c.args.net.now in
    let n = c.loop-number.number in
    let all : n ≡ length net.sensors = omega (arith, ap length c.as_slice-sensors.ensures) in
    subst (λ n. IsTable net c.loop-number.table.items (IsBefore (length net.edges) n)) all c.loop-number.invariant
