use Rattle.std.proofs.Common.{◌≡◌, map}
use Rattle.decisions.specs.ProblemOf.{feed_of}
use Rattle.graph.specs.Feeders.{edges_to_ports}
use Rattle.net_problem.proofs.feeds.feeds_of.Given as goal

abbrev pub invariant-loop-port : goal.invariant-loop-port
invariant-loop-port l = l.feeds ≡ map (feed_of l.net l.graph l.instance) (edges_to_ports l.net l.task l.port)
