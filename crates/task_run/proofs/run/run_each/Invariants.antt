use Rattle.std.proofs.Common.{◌≡◌, ◌≤◌, ◌-◌, length, true}
use Rattle.std.specs.Io.KnownBytes.{IsAtEnd}
use Rattle.std.specs.Option.{option_map}
use Rattle.lines.specs.Lines.{lines_of}
use Rattle.lines.specs.Reader.{kept_of, count_of, is_over, lines_left}
use Rattle.mc_tree.specs.Instance.{is_in, is_out, is_state, width_of}
use Rattle.mc_tree.specs.Plain.{plain_task}
use Rattle.processor.specs.Results.{AreWords}
use Rattle.task_run.proofs.Answered.{Answering}
use Rattle.task_run.proofs.Steps.{Going}
use Rattle.task_run.proofs.run.run_each.Given as goal

abbrev pub invariant-lines : goal.invariant-lines
invariant-lines g l =
    let t = plain_task l.task in
    let width = width_of is_in t.cells in
    record {
      going : Going t l.maxt (g.C.Cpu.execution l.program l.maxt) (g.O.Sink.holds l.fn.out) (option_map (lines_of width) (g.I.Source.left l.fn.input)) l.line l.seen l.state
          (lines_left l.reader (g.I.Source.left l.input) width) (g.O.Sink.holds l.out) l.buffer;
      answering : Answering t width (g.O.Sink.holds l.fn.out) (g.I.Source.left l.fn.input) (g.I.Source.left l.input) (kept_of l.reader) (is_over l.reader) l.line l.state (g.O.Sink.holds l.out) l.buffer;
      over : is_over l.reader ≡ true → IsAtEnd (g.I.Source.left l.input);
      fits : AreWords l.state;
      ins : length l.ins ≡ width;
      outs : length l.outs ≡ width_of is_out t.cells;
      state : length l.state ≡ width_of is_state t.cells;
      counted : l.line ≡ count_of l.reader;
      later_in : g.I.Source.faults l.fn.input ≤ g.I.Source.faults l.input;
      later_out : g.O.Sink.faults l.fn.out ≤ g.O.Sink.faults l.out;
    }

abbrev pub decreases-lines : goal.decreases-lines
decreases-lines g l = 1000000 - l.line
