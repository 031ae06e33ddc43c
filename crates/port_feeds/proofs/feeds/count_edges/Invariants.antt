use Rattle.port_feeds.specs.Feeds.{IsCounted}
use Rattle.port_feeds.proofs.feeds.count_edges.Given as goal

abbrev pub invariant-loop-number : goal.invariant-loop-number
invariant-loop-number l = IsCounted l.net l.number 0 l.table
