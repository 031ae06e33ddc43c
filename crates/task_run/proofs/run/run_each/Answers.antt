use Rattle.std.proofs.Common.{◌≡◌, ℕ, List, [], ◌+◌, length, Err, Ok, IfSome, pos, arith, sym, ap, ◌∙◌, subst}
use Rattle.std.proofs.lemmas.List.{length-replicate}
use Rattle.std.specs.Option.{option_map}
use Rattle.lines.specs.Lines.{lines_of, Line, Bad, End}
use Rattle.lines.specs.Reader.{lines_left, kept_of, count_of, is_over, ReadsLine}
use Rattle.lines.specs.declared.reader.Next.TheVariants as next
use Rattle.processor.specs.Results.{AreWords}
use Rattle.mc_tree.specs.Instance.{is_in, is_state, width_of}
use Rattle.mc_tree.specs.Plain.{plain_task}
use Rattle.task_run.specs.Closing.{Closes}
use Rattle.task_run.specs.declared.fault.RunFault.TheVariants as fault
use Rattle.task_run.specs.Text.{task_line, broken_line}
use Rattle.task_run.proofs.Answered.{answering_first, answering_sent, answering_on, has_answered}
use Rattle.task_run.proofs.Fitting.{zeros_fit, nothing_waits}
use Rattle.task_run.proofs.Steps.{Going, going_first, going_sent, going_on, into_kept, into_unsent, into_unwritten, answers_finished, answers_bad, answers_broken}
use Rattle.task_run.proofs.run.run_each.Goals as goal

pub lines-init : goal.lines-init
lines-init g c =
    let t = plain_task c.args.task.now in
    let width = width_of is_in t.cells in
    record {
      going = going_first t c.args.maxt (g.C.Cpu.execution c.args.program.now c.args.maxt) (g.O.Sink.holds c.args.out.now) width (g.I.Source.left c.args.input.now) c.args.state.now
          (count_of c.args.reader.now) (kept_of c.args.reader.now) c.args.buffer.now c.requires.kept c.requires.count c.requires.state c.requires.waiting;
      answering = answering_first t width (g.O.Sink.holds c.args.out.now) (g.I.Source.left c.args.input.now) (kept_of c.args.reader.now) c.args.buffer.now (is_over c.args.reader.now) c.args.state.now
          c.requires.kept c.requires.waiting c.requires.state;
      over = λ is. absurd (cc (c.requires.over, is));
      fits = subst AreWords (sym c.requires.state) (zeros_fit (width_of is_state t.cells));
      ins = c.requires.ins;
      outs = c.requires.outs;
      state = ap length c.requires.state ∙ length-replicate (width_of is_state t.cells) (pos 0);
      counted = sym c.requires.count;
      later_in = omega arith;
      later_out = omega arith;
    }

pub returns-in-Err-clause-answer : goal.returns-in-Err-clause-answer
returns-in-Err-clause-answer g c =
    let t = plain_task c.args.task.now in
    let width = width_of is_in t.cells in
    into_unsent t c.args.maxt (g.C.Cpu.execution c.args.program.now c.args.maxt) (g.O.Sink.holds c.args.out.now) (option_map (lines_of width) (g.I.Source.left c.args.input.now))
    (lines_left c.lines.reader (g.I.Source.left c.lines.input) width) c.lines.line c.lines.seen c.lines.state c.in-Err._fault (g.O.Sink.holds c.lines.out) (g.O.Sink.holds c.send_before_reading.new.out)
    c.lines.buffer c.send_before_reading.new.buffer (c.in-Err.ensures {u = tt}).bytes c.lines.invariant.going

pub returns-in-Ok-End-clause-answer : goal.returns-in-Ok-End-clause-answer
returns-in-Ok-End-clause-answer g c =
    let t = plain_task c.args.task.now in
    let run = g.C.Cpu.execution c.args.program.now c.args.maxt in
    let width = width_of is_in t.cells in
    let base = g.O.Sink.holds c.args.out.now in
    let all = option_map (lines_of width) (g.I.Source.left c.args.input.now) in
    let left = lines_left c.lines.reader (g.I.Source.left c.lines.input) width in
    let sent = g.O.Sink.holds c.send_before_reading.new.out in
    let rest = c.send_before_reading.new.buffer in
    let going = going_sent t c.args.maxt run base all left c.lines.line c.lines.seen c.lines.state (g.O.Sink.holds c.lines.out) sent c.lines.buffer rest
    (c.in_default.ensures {u = tt}).bytes c.lines.invariant.going in
    answers_finished t c.args.maxt run base all left c.lines.line c.lines.seen c.lines.state sent (g.O.Sink.holds c.finish.new.out) rest (g.O.Sink.faults c.send_before_reading.new.out) (g.O.Sink.faults c.finish.new.out) c.finish.result going
    (subst (λ (n : ℕ). IfSome (lines_left c.lines.reader (g.I.Source.left c.lines.input) n) (λ lines. lines ≡ End)) c.lines.invariant.ins (c.next.ensures.end (c.in-Ok-End.is ∙ ap Ok c.in-Ok-End.field-0-is)))
    (subst (λ (name : List ℕ). Closes sent rest (task_line name c.args.maxt c.lines.seen) (g.O.Sink.holds c.finish.new.out) (g.O.Sink.faults c.send_before_reading.new.out) (g.O.Sink.faults c.finish.new.out) c.finish.result (Ok tt)) c.as_slice-name.ensures c.finish.ensures.closes)

pub returns-in-Err-Bad-clause-answer : goal.returns-in-Err-Bad-clause-answer
returns-in-Err-Bad-clause-answer g c =
    let t = plain_task c.args.task.now in
    let run = g.C.Cpu.execution c.args.program.now c.args.maxt in
    let width = width_of is_in t.cells in
    let base = g.O.Sink.holds c.args.out.now in
    let all = option_map (lines_of width) (g.I.Source.left c.args.input.now) in
    let left = lines_left c.lines.reader (g.I.Source.left c.lines.input) width in
    let sent = g.O.Sink.holds c.send_before_reading.new.out in
    let rest = c.send_before_reading.new.buffer in
    let going = going_sent t c.args.maxt run base all left c.lines.line c.lines.seen c.lines.state (g.O.Sink.holds c.lines.out) sent c.lines.buffer rest
    (c.in_default.ensures {u = tt}).bytes c.lines.invariant.going in
    let n = c.in-Err-Bad.number in
    answers_bad t c.args.maxt run base all left c.lines.line c.lines.seen n c.lines.state sent (g.O.Sink.holds c.stop_bad.new.out) rest (g.O.Sink.faults c.send_before_reading.new.out) (g.O.Sink.faults c.stop_bad.new.out) c.stop_bad.result going
    (subst (λ (k : ℕ). IfSome (lines_left c.lines.reader (g.I.Source.left c.lines.input) k) (λ lines. lines ≡ Bad n)) c.lines.invariant.ins (c.next.ensures.bad n (c.in-Err-Bad.is ∙ ap Err c.in-Err-Bad.field-0-is)))
    (subst (λ (k : ℕ). Closes sent rest [] (g.O.Sink.holds c.stop_bad.new.out) (g.O.Sink.faults c.send_before_reading.new.out) (g.O.Sink.faults c.stop_bad.new.out) c.stop_bad.result (Err (fault.BadLine k))) c.in-Err-Bad.number-is c.stop_bad.ensures.closes)

pub returns-in-Err-Read-clause-answer : goal.returns-in-Err-Read-clause-answer
returns-in-Err-Read-clause-answer g c =
    let t = plain_task c.args.task.now in
    let run = g.C.Cpu.execution c.args.program.now c.args.maxt in
    let width = width_of is_in t.cells in
    let base = g.O.Sink.holds c.args.out.now in
    let all = option_map (lines_of width) (g.I.Source.left c.args.input.now) in
    let left = lines_left c.lines.reader (g.I.Source.left c.lines.input) width in
    let sent = g.O.Sink.holds c.send_before_reading.new.out in
    let rest = c.send_before_reading.new.buffer in
    let going = going_sent t c.args.maxt run base all left c.lines.line c.lines.seen c.lines.state (g.O.Sink.holds c.lines.out) sent c.lines.buffer rest
    (c.in_default.ensures {u = tt}).bytes c.lines.invariant.going in
    into_kept t c.args.maxt run base all left c.lines.line c.lines.seen c.lines.state sent rest going

pub returns-in-Err-write_outs-clause-answer : goal.returns-in-Err-write_outs-clause-answer
returns-in-Err-write_outs-clause-answer g c =
    let t = plain_task c.args.task.now in
    let run = g.C.Cpu.execution c.args.program.now c.args.maxt in
    let width = width_of is_in t.cells in
    let base = g.O.Sink.holds c.args.out.now in
    let all = option_map (lines_of width) (g.I.Source.left c.args.input.now) in
    let left = lines_left c.lines.reader (g.I.Source.left c.lines.input) width in
    let sent = g.O.Sink.holds c.send_before_reading.new.out in
    let rest = c.send_before_reading.new.buffer in
    let going = going_sent t c.args.maxt run base all left c.lines.line c.lines.seen c.lines.state (g.O.Sink.holds c.lines.out) sent c.lines.buffer rest
    (c.in_default.ensures {u = tt}).bytes c.lines.invariant.going in
    let later = lines_left c.next.new.self (g.I.Source.left c.next.new.source) width in
    let read = subst (λ (n : ℕ). lines_left c.lines.reader (g.I.Source.left c.lines.input) n ≡ option_map (Line c.next.new.into) (lines_left c.next.new.self (g.I.Source.left c.next.new.source) n)) c.lines.invariant.ins (c.next.ensures.line (c.in-Ok-Line.is ∙ ap Ok c.in-Ok-Line.field-0-is)) in
    into_unwritten t c.args.maxt run base all left later c.lines.line c.lines.seen c.lines.state c.next.new.into c.execute.new.state c.execute.new.outs c.in-Err-write_outs._fault sent (g.O.Sink.holds c.write_outs.new.out) rest c.write_outs.new.buffer
    going read (c.in-Some.ensures {u = tt}).does.0 (c.in-Err-write_outs.ensures {u = tt}).bytes

pub returns-in_default-execute-clause-answer : goal.returns-in_default-execute-clause-answer
returns-in_default-execute-clause-answer g c =
    let t = plain_task c.args.task.now in
    let run = g.C.Cpu.execution c.args.program.now c.args.maxt in
    let width = width_of is_in t.cells in
    let base = g.O.Sink.holds c.args.out.now in
    let all = option_map (lines_of width) (g.I.Source.left c.args.input.now) in
    let left = lines_left c.lines.reader (g.I.Source.left c.lines.input) width in
    let sent = g.O.Sink.holds c.send_before_reading.new.out in
    let rest = c.send_before_reading.new.buffer in
    let going = going_sent t c.args.maxt run base all left c.lines.line c.lines.seen c.lines.state (g.O.Sink.holds c.lines.out) sent c.lines.buffer rest
    (c.in_default.ensures {u = tt}).bytes c.lines.invariant.going in
    let later = lines_left c.next.new.self (g.I.Source.left c.next.new.source) width in
    let read = subst (λ (n : ℕ). lines_left c.lines.reader (g.I.Source.left c.lines.input) n ≡ option_map (Line c.next.new.into) (lines_left c.next.new.self (g.I.Source.left c.next.new.source) n)) c.lines.invariant.ins (c.next.ensures.line (c.in-Ok-Line.is ∙ ap Ok c.in-Ok-Line.field-0-is)) in
    answers_broken t c.args.maxt run base all left later c.lines.line c.lines.seen c.lines.state c.next.new.into sent (g.O.Sink.holds c.stop_broken.new.out) rest (g.O.Sink.faults c.send_before_reading.new.out) (g.O.Sink.faults c.stop_broken.new.out) c.stop_broken.result
    going read (c.in_default-execute.ensures {u = tt}).does.0
    (subst (λ (name : List ℕ). Closes sent rest (broken_line c.lines.line name) (g.O.Sink.holds c.stop_broken.new.out) (g.O.Sink.faults c.send_before_reading.new.out) (g.O.Sink.faults c.stop_broken.new.out) c.stop_broken.result (Err fault.Broken)) c.as_slice-name.ensures c.stop_broken.ensures.closes)

pub lines-preserved : goal.lines-preserved
lines-preserved g c =
    let t = plain_task c.args.task.now in
    let run = g.C.Cpu.execution c.args.program.now c.args.maxt in
    let width = width_of is_in t.cells in
    let base = g.O.Sink.holds c.args.out.now in
    let all = option_map (lines_of width) (g.I.Source.left c.args.input.now) in
    let left = lines_left c.lines.reader (g.I.Source.left c.lines.input) width in
    let sent = g.O.Sink.holds c.send_before_reading.new.out in
    let rest = c.send_before_reading.new.buffer in
    let going = going_sent t c.args.maxt run base all left c.lines.line c.lines.seen c.lines.state (g.O.Sink.holds c.lines.out) sent c.lines.buffer rest
    (c.in_default.ensures {u = tt}).bytes c.lines.invariant.going in
    let later = lines_left c.next.new.self (g.I.Source.left c.next.new.source) width in
    let read = subst (λ (n : ℕ). lines_left c.lines.reader (g.I.Source.left c.lines.input) n ≡ option_map (Line c.next.new.into) (lines_left c.next.new.self (g.I.Source.left c.next.new.source) n)) c.lines.invariant.ins (c.next.ensures.line (c.in-Ok-Line.is ∙ ap Ok c.in-Ok-Line.field-0-is)) in
    let on = going_on t c.args.maxt run base all left later c.lines.line c.lines.seen c.in-Some.cycles c.lines.state c.next.new.into c.execute.new.state c.execute.new.outs sent (g.O.Sink.holds c.write_outs.new.out) rest c.write_outs.new.buffer
    going read (c.in-Some.ensures {u = tt}).does.0 (c.in-Some.ensures {u = tt}).does.1 (c.in_default-write_outs.ensures {u = tt}).bytes in
    let line_read : c.next.result ≡ Ok next.Line = c.in-Ok-Line.is ∙ ap Ok c.in-Ok-Line.field-0-is in
    let does = (c.in-Some.ensures {u = tt}).does in
    let answering = answering_sent t width base (g.I.Source.left c.args.input.now) (g.I.Source.left c.lines.input) (kept_of c.lines.reader) (is_over c.lines.reader) c.lines.line c.lines.state (g.O.Sink.holds c.lines.out) sent c.lines.buffer rest
    (c.in_default.ensures {u = tt}).bytes c.lines.invariant.answering in
    record {
      going = subst (λ (m : ℕ). Going t c.args.maxt run base all (c.lines.line + 1) m c.execute.new.state later (g.O.Sink.holds c.write_outs.new.out) c.write_outs.new.buffer) (sym c.max-seen.ensures) on;
      answering = answering_on t width base (g.I.Source.left c.args.input.now) (g.I.Source.left c.lines.input) (g.I.Source.left c.next.new.source) c.lines.reader c.next.new.self c.lines.line c.lines.state c.next.new.into
          c.execute.new.state c.execute.new.outs sent (g.O.Sink.holds c.write_outs.new.out) rest c.write_outs.new.buffer answering
          (subst (λ (n : ℕ). ReadsLine c.lines.reader c.next.new.self (g.I.Source.left c.lines.input) (g.I.Source.left c.next.new.source) n c.next.new.into) c.lines.invariant.ins (c.next.ensures.reads line_read))
          (let few = (c.next.ensures.counted line_read).1 in omega (arith, few, c.lines.invariant.counted)) does.0 (c.in_default-write_outs.ensures {u = tt}).bytes;
      over = c.next.ensures.over;
      fits = c.execute.ensures.state_fits;
      ins = c.next.auto.into ∙ c.lines.invariant.ins;
      outs = c.execute.auto.outs ∙ c.lines.invariant.outs;
      state = c.execute.auto.state ∙ c.lines.invariant.state;
      counted = let one = (c.next.ensures.counted (c.in-Ok-Line.is ∙ ap Ok c.in-Ok-Line.field-0-is)).0 in omega (arith, one, c.lines.invariant.counted);
      later_in = omega (arith, c.next.ensures.later, c.lines.invariant.later_in);
      later_out = omega (arith, c.lines.invariant.later_out, c.send_before_reading.ensures.cause.later, c.write_outs.ensures.cause.later);
    }

pub returns-in-Err-Read-clause-answered : goal.returns-in-Err-Read-clause-answered
returns-in-Err-Read-clause-answered g c is =
    let t = plain_task c.args.task.now in
    let width = width_of is_in t.cells in
    let base = g.O.Sink.holds c.args.out.now in
    let sent = g.O.Sink.holds c.send_before_reading.new.out in
    let rest = c.send_before_reading.new.buffer in
    let answering = answering_sent t width base (g.I.Source.left c.args.input.now) (g.I.Source.left c.lines.input) (kept_of c.lines.reader) (is_over c.lines.reader) c.lines.line c.lines.state (g.O.Sink.holds c.lines.out) sent c.lines.buffer rest
    (c.in_default.ensures {u = tt}).bytes c.lines.invariant.answering in
    let still = c.next.ensures.still (c.in-Err-Read.is ∙ ap Err c.in-Err-Read.field-0-is) in
    has_answered t width base (g.I.Source.left c.args.input.now) (g.I.Source.left c.lines.input) (g.I.Source.left c.next.new.source) c.lines.reader c.next.new.self c.lines.line c.lines.state sent rest answering still
    (nothing_waits still.before (c.in_default.ensures {u = tt}).sent)
