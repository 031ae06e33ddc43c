use Rattle.std.proofs.Common.{◌≡◌, take}
use Rattle.graph.specs.Cycle.{words_of_sensors}
use Rattle.cluster.proofs.width.line_words.Given as goal

abbrev pub invariant-loop-number : goal.invariant-loop-number
invariant-loop-number l = l.words ≡ words_of_sensors l.net l.graph.cycle (take l.number l.net.sensors)
