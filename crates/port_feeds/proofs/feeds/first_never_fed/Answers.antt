use Rattle.port_feeds.proofs.Feeders.{never_fed}
use Rattle.port_feeds.proofs.feeds.first_never_fed.Goals as goal

pub returns : goal.returns
returns c = never_fed c.args.net.now c.first_fed_times.result c.first_fed_times.ensures
