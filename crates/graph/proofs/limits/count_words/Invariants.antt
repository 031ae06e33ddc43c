use Rattle.std.proofs.Common.{◌≡◌, ◌+◌, ◌*◌, ◌^◌, ◌≤◌, drop}
use Rattle.graph.specs.Cycle.{words_of_sensors}
use Rattle.graph.proofs.limits.count_words.Given as goal

abbrev pub invariant-loop-sensor : goal.invariant-loop-sensor
invariant-loop-sensor l = (l.words + words_of_sensors l.net l.cycle (drop l.sensor-index l.sensor-items) ≡ words_of_sensors l.net l.cycle l.sensor-items) × (l.words ≤ l.sensor-index * 2 ^ 40)
