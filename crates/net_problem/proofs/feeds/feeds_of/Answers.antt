use Rattle.std.proofs.Common.{◌+◌, refl, ◌∙◌, sym, ap, arith}
use Rattle.net_problem.proofs.Sources.{more_feeds}
use Rattle.net_problem.proofs.feeds.feeds_of.Goals as goal

pub loop-port-preserved : goal.loop-port-preserved
loop-port-preserved c =
    more_feeds c.args.net.now c.args.graph.now c.args.task c.args.instance c.loop-port.port (c.loop-port.port + 1) c.loop-port.feeds c.add_feed.new.feeds refl c.loop-port.invariant c.in_ok-add_feed.ensures
