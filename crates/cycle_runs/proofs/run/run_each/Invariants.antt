use Rattle.std.proofs.Common.{◌≡◌, ◌≤◌, ◌-◌, length, true}
use Rattle.std.specs.Io.KnownBytes.{IsAtEnd}
use Rattle.std.specs.Option.{option_map}
use Rattle.lines.specs.Lines.{lines_of}
use Rattle.lines.specs.Reader.{kept_of, count_of, is_over, lines_left}
use Rattle.cycle_runs.proofs.Answered.{Answering}
use Rattle.cycle_runs.proofs.Steps.{Going}
use Rattle.cycle_runs.proofs.run.run_each.Given as goal

abbrev pub invariant-lines : goal.invariant-lines
invariant-lines g l =
    let cycling = g.C.Cycles.cycling l.fn.cycles in
    let first = g.C.Cycles.now l.fn.cycles in
    let width = g.C.Cycles.width l.fn.cycles in
    record {
      going : Going cycling first (g.O.Sink.holds l.fn.out) (option_map (lines_of width) (g.I.Source.left l.fn.input)) (g.C.Cycles.now l.cycles)
          (lines_left l.reader (g.I.Source.left l.input) width) (g.O.Sink.holds l.out) l.buffer;
      answering : Answering cycling first width (g.O.Sink.holds l.fn.out) (g.I.Source.left l.fn.input) (g.I.Source.left l.input) (kept_of l.reader) (is_over l.reader) (count_of l.reader) (g.C.Cycles.now l.cycles)
          (g.O.Sink.holds l.out) l.buffer;
      same : g.C.Cycles.cycling l.cycles ≡ cycling;
      wide : g.C.Cycles.width l.cycles ≡ width;
      ready : g.C.Cycles.is_ready l.cycles;
      number : g.C.Cycles.number l.cycles ≡ count_of l.reader;
      over : is_over l.reader ≡ true → IsAtEnd (g.I.Source.left l.input);
      line : length l.line ≡ width;
      later_in : g.I.Source.faults l.fn.input ≤ g.I.Source.faults l.input;
      later_out : g.O.Sink.faults l.fn.out ≤ g.O.Sink.faults l.out;
    }

abbrev pub decreases-lines : goal.decreases-lines
decreases-lines g l = 1000000 - count_of l.reader
