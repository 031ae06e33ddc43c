use Rattle.std.proofs.Common.{refl}
use Rattle.timetable.proofs.Few.{few_messages}
use Rattle.replica_duties.proofs.Few.{few_jobs}
use Rattle.replica_duties.proofs.duties.Duties.new.Goals as goal

pub starts-requires : goal.starts-requires
starts-requires c = few_jobs c.args.net.now c.args.graph.now c.args.tables.now c.requires.net c.requires.valid

pub arrivals-requires-clause-few : goal.arrivals-requires-clause-few
arrivals-requires-clause-few c = few_messages c.args.net.now c.args.graph.now c.args.tables.now c.requires.net c.requires.valid

pub sendings-requires : goal.sendings-requires
sendings-requires c = few_messages c.args.net.now c.args.graph.now c.args.tables.now c.requires.net c.requires.valid

pub feeds-requires-clause-few : goal.feeds-requires-clause-few
feeds-requires-clause-few c = few_messages c.args.net.now c.args.graph.now c.args.tables.now c.requires.net c.requires.valid

pub returns : goal.returns
returns c = record {
  unit_is = refl;
  side_is = refl;
  known_unit = c.requires.unit;
  round = c.round_of-round.ensures;
  starts = c.in_ok-starts.ensures;
  arrivals = c.in_ok-arrivals.ensures;
  sendings = c.in_ok-sendings.ensures c.args.net.now c.args.graph.now c.round_of-round.ensures;
  feeds = c.in_ok-feeds.ensures;
  outputs = c.in_ok-outputs.ensures;
  sensors = c.in_ok-sensors.ensures;
}
