use Rattle.port_feeds.proofs.Feeders.{fed_twice}
use Rattle.port_feeds.proofs.feeds.first_fed_twice.Goals as goal

pub returns : goal.returns
returns c = fed_twice c.args.net.now c.first_fed_times.result c.first_fed_times.ensures
