use Rattle.std.proofs.Common.{length}
use Rattle.port_feeds.specs.Feeds.{IsCounted}
use Rattle.port_feeds.proofs.feeds.count_sensors.Given as goal

abbrev pub invariant-loop-number : goal.invariant-loop-number
invariant-loop-number l = IsCounted l.net (length l.net.edges) l.number l.table
