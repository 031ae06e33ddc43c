use Rattle.std.proofs.Common.{◌≡◌, ◌<◌, ℕ, length, take, get_or}
use Rattle.graph.specs.Cycle.{words_of_sensors}
use Rattle.job_inputs.proofs.sensors.sensor_starts.Given as goal

abbrev pub invariant-loop-number : goal.invariant-loop-number
invariant-loop-number l = record {
  words : l.words ≡ words_of_sensors l.net l.graph.cycle (take l.number l.net.sensors);
  count : length l.starts.items ≡ l.number;
  each : (k : ℕ) → k < l.number → get_or l.starts.items k 0 ≡ words_of_sensors l.net l.graph.cycle (take k l.net.sensors);
}
