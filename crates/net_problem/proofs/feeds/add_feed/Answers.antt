use Rattle.std.proofs.Common.{Some, sym, ap, ◌∙◌}
use Rattle.graph.specs.declared.feeder.Feeder.{Feeder}
use Rattle.net_problem.proofs.Sources.{into_task}
use Rattle.net_problem.proofs.feeds.add_feed.Goals as goal

pub feed_of-requires-clause-edge : goal.feed_of-requires-clause-edge
feed_of-requires-clause-edge c =
    let h = c.in-Some-Edge.ensures.feeder c.args.net.now c.requires.net in
    into_task c.args.net.now c.args.task c.args.port c.in-Some-Edge.number (sym h ∙ ap (λ (f : Feeder). Some f) c.in-Some-Edge.field-0-is)
