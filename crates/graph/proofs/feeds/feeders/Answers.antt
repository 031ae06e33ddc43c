use Rattle.std.proofs.Common.{refl}
use Rattle.graph.proofs.Feeding.{table_end}
use Rattle.graph.proofs.feeds.feeders.Goals as goal

pub returns : goal.returns
returns c = table_end c.args.net.now c.note_sensors.new.table.items (c.if-not-note_sensors.ensures.noted refl)
