use Rattle.std.proofs.Common.{◌≡◌, ◌+◌, List, length, get_or, set, true, Option, Some, sym, ◌∙◌, ap, subst, arith}
use Rattle.std.specs.Prelude.{is_some}
use Rattle.graph.specs.declared.net.Edge.{Edge}
use Rattle.graph.specs.declared.feeder.Feeder.{Feeder}
use Rattle.graph.specs.declared.feeder.Feeder.TheVariants as feeder
use Rattle.graph.specs.Feeders.{IsFeeder}
use Rattle.graph.specs.FeederTable.{feeder_in, IsTable, IsBefore}
use Rattle.graph.proofs.Feeding.{edge_feeder, port_low, fed_twice, is_free, table_more, edge_back, edge_on}
use Rattle.graph.proofs.feeds.note_edges.Goals as goal

pub returns-then-is_fed-clause-twice : goal.returns-then-is_fed-clause-twice
returns-then-is_fed-clause-twice c = λ _ once.
    let net = c.args.net.now in
    let n = c.loop-number.number in
    let none : Edge = record { from_task = 0; from_port = 0; to_task = 0; to_port = 0 } in
    let e = get_or c.as_slice-edges.result.now c.from.result none in
    let feeds : IsFeeder net e.to_task e.to_port (feeder.Edge n) = edge_feeder net c.as_slice-edges.result.now n c.from.result none c.as_slice-edges.ensures c.from.ensures (omega arith) in
    fed_twice net c.loop-number.table.items (IsBefore n 0) e.to_task e.to_port (feeder.Edge n) c.requires.counts c.requires.entries c.loop-number.invariant feeds (λ h. omega (arith, h))
    (subst (λ (xs : List (Option Feeder)). is_some (feeder_in xs e.to_task e.to_port) ≡ true) c.deref.ensures.value (sym c.is_fed.ensures ∙ c.if-is_fed.true)) once

pub place_of-requires-clause-port : goal.place_of-requires-clause-port
place_of-requires-clause-port c =
    let net = c.args.net.now in
    let n = c.loop-number.number in
    let none : Edge = record { from_task = 0; from_port = 0; to_task = 0; to_port = 0 } in
    let e = get_or c.as_slice-edges.result.now c.from.result none in
    let feeds : IsFeeder net e.to_task e.to_port (feeder.Edge n) = edge_feeder net c.as_slice-edges.result.now n c.from.result none c.as_slice-edges.ensures c.from.ensures (omega arith) in
    (port_low net (feeder.Edge n) e.to_task e.to_port c.requires.counts c.requires.entries feeds).1

pub loop-number-preserved : goal.loop-number-preserved
loop-number-preserved c =
    let net = c.args.net.now in
    let n = c.loop-number.number in
    let none : Edge = record { from_task = 0; from_port = 0; to_task = 0; to_port = 0 } in
    let e = get_or c.as_slice-edges.result.now c.from.result none in
    let feeds : IsFeeder net e.to_task e.to_port (feeder.Edge n) = edge_feeder net c.as_slice-edges.result.now n c.from.result none c.as_slice-edges.ensures c.from.ensures (omega arith) in
    let low = port_low net (feeder.Edge n) e.to_task e.to_port c.requires.counts c.requires.entries feeds in
    let free = is_free (feeder_in c.loop-number.table.items e.to_task e.to_port) c.is_fed.result
    (c.is_fed.ensures ∙ ap (λ (xs : List (Option Feeder)). is_some (feeder_in xs e.to_task e.to_port)) c.deref.ensures.value) c.if-is_fed.false in
    subst (λ k. IsTable net (set c.loop-number.table.items k (Some (feeder.Edge n))) (IsBefore (n + 1) 0)) (sym c.place_of.ensures.place)
    (table_more net c.loop-number.table.items (IsBefore n 0) (IsBefore (n + 1) 0) e.to_task e.to_port (feeder.Edge n) c.loop-number.invariant feeds low.0 low.1 free
    (λ g h. edge_back n 0 g h) (λ g h. edge_on n 0 g h) (omega arith))

pub returns-clause-noted : goal.returns-clause-noted
returns-clause-noted c = λ _.
    let net = c.args.net.now in
    let n = c.loop-number.number in
    let all : n ≡ length net.edges = omega (arith, ap length c.as_slice-edges.ensures) in
    subst (λ n. IsTable net c.loop-number.table.items (IsBefore n 0)) all c.loop-number.invariant
