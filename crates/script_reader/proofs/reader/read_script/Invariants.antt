use Rattle.std.proofs.Common.{◌≡◌, ◌≤◌, ◌+◌, false, length}
use Rattle.lines.specs.Lines.{lines_in}
use Rattle.script_reader.specs.FirstLine.{then_reading}
use Rattle.script_reader.specs.Reading.{reading, reading_from, events_of}
use Rattle.script_reader.proofs.reader.read_script.Given as goal

abbrev pub invariant-loop-line : goal.invariant-loop-line
invariant-loop-line l = record {
  said : reading false l.units l.ticks l.text ≡ then_reading (events_of l.script) (reading_from false l.units l.ticks l.number (lines_in l.rest));
  count : l.number + length l.rest ≤ 1048577;
}

abbrev pub decreases-loop-line : goal.decreases-loop-line
decreases-loop-line l = length l.rest
