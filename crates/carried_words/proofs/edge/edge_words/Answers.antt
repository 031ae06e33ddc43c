use Rattle.std.proofs.Common.{◌≡◌, ℕ, List, ℤ, Some, sym, ◌∙◌, ap, arith}
use Rattle.std.specs.Prelude.{sum, slice_index}
use Rattle.graph.specs.Net.{outs_of}
use Rattle.graph.specs.declared.net.Edge.{Edge}
use Rattle.tables.specs.Named.{edge_at}
use Rattle.net_run.specs.Words.{port_words}
use Rattle.job_book.specs.Known.{known_in, given_by}
use Rattle.carried_words.specs.Says.{given_at}
use Rattle.carried_words.proofs.Edges.{joins, carries_some, carries_none}
use Rattle.carried_words.proofs.edge.edge_words.Goals as goal

pub given-requires : goal.given-requires
given-requires c =
    let j = joins c.args.net.now c.args.graph.now c.args.book.now c.args.edge c.args.instance c.requires.net c.requires.book c.requires.edge c.requires.instance in
    omega (arith, c.producer_of-producer.ensures, j.job, c.requires.book.jobs)

pub port_part-requires-clause-words : goal.port_part-requires-clause-words
port_part-requires-clause-words c =
    let net = c.args.net.now in
    let j = joins net c.args.graph.now c.args.book.now c.args.edge c.args.instance c.requires.net c.requires.book c.requires.edge c.requires.instance in
    let edge_is : c.edge_at-from.result ≡ edge_at net c.args.edge = c.edge_at-from.ensures ∙ ap (edge_at net) c.from.ensures in
    c.in-Some.ensures.room ∙ ap (slice_index c.args.book.now.rooms) c.producer_of-producer.ensures ∙ j.room
    ∙ ap (λ (e : Edge). sum (outs_of net e.from_task)) (sym edge_is) ∙ ap sum (sym c.outs_of.ensures)

pub returns-in-Some-clause-words : goal.returns-in-Some-clause-words
returns-in-Some-clause-words c =
    let net = c.args.net.now in
    let outs = c.in-Some.outs.now in
    let from = c.edge_at-from.result in
    let j = joins net c.args.graph.now c.args.book.now c.args.edge c.args.instance c.requires.net c.requires.book c.requires.edge c.requires.instance in
    let edge_is : from ≡ edge_at net c.args.edge = c.edge_at-from.ensures ∙ ap (edge_at net) c.from.ensures in
    ap (λ (words : List ℤ). Some words)
    (c.port_part.ensures.words
    ∙ ap (λ (widths : List ℕ). port_words widths from.from_port outs) c.outs_of.ensures
    ∙ ap (λ (e : Edge). port_words (outs_of net e.from_task) e.from_port outs) edge_is)
    ∙ sym (carries_some net (given_at net c.args.graph.now.cycle c.args.book.now c.args.instance) c.args.edge (edge_at net c.args.edge) outs j.stands
    (ap (λ job. given_by (known_in c.args.book.now job)) (sym c.producer_of-producer.ensures) ∙ sym c.in-Some.ensures.given))

pub returns-in-None-clause-words : goal.returns-in-None-clause-words
returns-in-None-clause-words c =
    let net = c.args.net.now in
    let j = joins net c.args.graph.now c.args.book.now c.args.edge c.args.instance c.requires.net c.requires.book c.requires.edge c.requires.instance in
    sym (carries_none net (given_at net c.args.graph.now.cycle c.args.book.now c.args.instance) c.args.edge (edge_at net c.args.edge) j.stands
    (ap (λ job. given_by (known_in c.args.book.now job)) (sym c.producer_of-producer.ensures) ∙ sym c.in-None.ensures.given))
