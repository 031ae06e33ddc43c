use Rattle.std.proofs.Common.{◌≡◌, ◌+◌, ℕ, List, [], length, Err, Ok, IfSome, ℤ, refl, arith, sym, ap, ◌∙◌, subst}
use Rattle.std.specs.Option.{option_map}
use Rattle.lines.specs.Lines.{lines_of, Line, Bad, End}
use Rattle.lines.specs.Reader.{lines_left, kept_of, count_of, is_over, ReadsLine}
use Rattle.lines.specs.declared.reader.Next.TheVariants as next
use Rattle.mars_base.specs.declared.outside.SinkFault.{SinkFault}
use Rattle.run_texts.specs.RunText.{RunEnding, Finished, BadLine, Lost, Broken}
use Rattle.cycle_runs.specs.Closing.{Closes, WritesFor}
use Rattle.cycle_runs.specs.Cycling.{Cycling, Ongoing}
use Rattle.cycle_runs.specs.declared.ended.CycleEnd.{CycleEnd}
use Rattle.cycle_runs.specs.declared.ended.CycleEnd.TheVariants as ended
use Rattle.cycle_runs.specs.declared.fault.RunFault.TheVariants as fault
use Rattle.cycle_runs.proofs.Answered.{answering_first, answering_sent, answering_on, has_answered, nothing_waits}
use Rattle.cycle_runs.proofs.Ends.{ends_finished, ends_bad, ends_ended, run_answers, run_leaves}
use Rattle.cycle_runs.proofs.Steps.{going_first, going_sent, going_on, into_kept, into_unsent, into_unwritten}
use Rattle.cycle_runs.proofs.run.run_each.Goals as goal

pub lines-init : goal.lines-init
lines-init g c =
    let cycling = g.C.Cycles.cycling c.args.cycles.now in
    let first = g.C.Cycles.now c.args.cycles.now in
    let width = g.C.Cycles.width c.args.cycles.now in
    let base = g.O.Sink.holds c.args.out.now in
    let input = g.I.Source.left c.args.input.now in
    record {
      going = going_first cycling first base width input (count_of c.args.reader.now) (kept_of c.args.reader.now) c.args.buffer.now c.requires.kept c.requires.count c.requires.waiting;
      answering = answering_first cycling first width base input (kept_of c.args.reader.now) c.args.buffer.now (is_over c.args.reader.now) (count_of c.args.reader.now) c.requires.kept c.requires.waiting c.requires.count;
      same = refl;
      wide = refl;
      ready = c.requires.ready;
      number = c.requires.number ∙ sym c.requires.count;
      over = λ is. absurd (cc (c.requires.over, is));
      line = c.requires.line;
      later_in = omega arith;
      later_out = omega arith;
    }

pub returns-in-Err-clause-answer : goal.returns-in-Err-clause-answer
returns-in-Err-clause-answer g c =
    let cycling = g.C.Cycles.cycling c.args.cycles.now in
    let first = g.C.Cycles.now c.args.cycles.now in
    let width = g.C.Cycles.width c.args.cycles.now in
    let base = g.O.Sink.holds c.args.out.now in
    let all = option_map (lines_of width) (g.I.Source.left c.args.input.now) in
    let left = lines_left c.lines.reader (g.I.Source.left c.lines.input) width in
    let now = g.C.Cycles.now c.lines.cycles in
    let sent = g.O.Sink.holds c.send_before_reading.new.out in
    let rest = c.send_before_reading.new.buffer in
    into_unsent cycling first base all left now c.in-Err._fault (g.O.Sink.holds c.lines.out) sent c.lines.buffer rest (c.in-Err.ensures {u = tt}).bytes c.lines.invariant.going

pub returns-in-Ok-End-clause-answer : goal.returns-in-Ok-End-clause-answer
returns-in-Ok-End-clause-answer g c =
    let cycling = g.C.Cycles.cycling c.args.cycles.now in
    let first = g.C.Cycles.now c.args.cycles.now in
    let width = g.C.Cycles.width c.args.cycles.now in
    let base = g.O.Sink.holds c.args.out.now in
    let all = option_map (lines_of width) (g.I.Source.left c.args.input.now) in
    let left = lines_left c.lines.reader (g.I.Source.left c.lines.input) width in
    let now = g.C.Cycles.now c.lines.cycles in
    let sent = g.O.Sink.holds c.send_before_reading.new.out in
    let rest = c.send_before_reading.new.buffer in
    let going = going_sent cycling first base all left now (g.O.Sink.holds c.lines.out) sent c.lines.buffer rest (c.in_default.ensures {u = tt}).bytes c.lines.invariant.going in
    let new = g.O.Sink.holds c.finish.new.out in
    let finished = ends_finished cycling first base all left now sent rest going
    (subst (λ (n : ℕ). IfSome (lines_left c.lines.reader (g.I.Source.left c.lines.input) n) (λ lines. lines ≡ End)) c.lines.invariant.line (c.next.ensures.end (c.in-Ok-End.is ∙ ap Ok c.in-Ok-End.field-0-is))) in
    let closes = subst (λ (k : Cycling Ongoing). Closes sent rest (k.closing now) new (g.O.Sink.faults c.send_before_reading.new.out) (g.O.Sink.faults c.finish.new.out) c.finish.result (Ok tt)) c.lines.invariant.same c.finish.ensures.closes in
    run_answers cycling first base all (cycling.closing now) Finished now sent new rest (g.O.Sink.faults c.send_before_reading.new.out) (g.O.Sink.faults c.finish.new.out) c.finish.result finished closes

pub returns-in-Ok-End-clause-state : goal.returns-in-Ok-End-clause-state
returns-in-Ok-End-clause-state g c =
    let cycling = g.C.Cycles.cycling c.args.cycles.now in
    let first = g.C.Cycles.now c.args.cycles.now in
    let width = g.C.Cycles.width c.args.cycles.now in
    let base = g.O.Sink.holds c.args.out.now in
    let all = option_map (lines_of width) (g.I.Source.left c.args.input.now) in
    let left = lines_left c.lines.reader (g.I.Source.left c.lines.input) width in
    let now = g.C.Cycles.now c.lines.cycles in
    let sent = g.O.Sink.holds c.send_before_reading.new.out in
    let rest = c.send_before_reading.new.buffer in
    let going = going_sent cycling first base all left now (g.O.Sink.holds c.lines.out) sent c.lines.buffer rest (c.in_default.ensures {u = tt}).bytes c.lines.invariant.going in
    let new = g.O.Sink.holds c.finish.new.out in
    let finished = ends_finished cycling first base all left now sent rest going
    (subst (λ (n : ℕ). IfSome (lines_left c.lines.reader (g.I.Source.left c.lines.input) n) (λ lines. lines ≡ End)) c.lines.invariant.line (c.next.ensures.end (c.in-Ok-End.is ∙ ap Ok c.in-Ok-End.field-0-is))) in
    let closes = subst (λ (k : Cycling Ongoing). Closes sent rest (k.closing now) new (g.O.Sink.faults c.send_before_reading.new.out) (g.O.Sink.faults c.finish.new.out) c.finish.result (Ok tt)) c.lines.invariant.same c.finish.ensures.closes in
    run_leaves cycling first base all (cycling.closing now) Finished now sent new rest (g.O.Sink.faults c.send_before_reading.new.out) (g.O.Sink.faults c.finish.new.out) c.finish.result finished closes

pub returns-in-Err-Bad-clause-answer : goal.returns-in-Err-Bad-clause-answer
returns-in-Err-Bad-clause-answer g c =
    let cycling = g.C.Cycles.cycling c.args.cycles.now in
    let first = g.C.Cycles.now c.args.cycles.now in
    let width = g.C.Cycles.width c.args.cycles.now in
    let base = g.O.Sink.holds c.args.out.now in
    let all = option_map (lines_of width) (g.I.Source.left c.args.input.now) in
    let left = lines_left c.lines.reader (g.I.Source.left c.lines.input) width in
    let now = g.C.Cycles.now c.lines.cycles in
    let sent = g.O.Sink.holds c.send_before_reading.new.out in
    let rest = c.send_before_reading.new.buffer in
    let going = going_sent cycling first base all left now (g.O.Sink.holds c.lines.out) sent c.lines.buffer rest (c.in_default.ensures {u = tt}).bytes c.lines.invariant.going in
    let n = c.in-Err-Bad.number in
    let new = g.O.Sink.holds c.stop.new.out in
    let bad = ends_bad cycling first base all left now n sent rest going
    (subst (λ (k : ℕ). IfSome (lines_left c.lines.reader (g.I.Source.left c.lines.input) k) (λ lines. lines ≡ Bad n)) c.lines.invariant.line (c.next.ensures.bad n (c.in-Err-Bad.is ∙ ap Err c.in-Err-Bad.field-0-is))) in
    let closes = subst (λ (k : ℕ). Closes sent rest [] new (g.O.Sink.faults c.send_before_reading.new.out) (g.O.Sink.faults c.stop.new.out) c.stop.result (Err (fault.BadLine k))) c.in-Err-Bad.number-is c.stop.ensures.closes in
    run_answers cycling first base all [] (BadLine n) now sent new rest (g.O.Sink.faults c.send_before_reading.new.out) (g.O.Sink.faults c.stop.new.out) c.stop.result bad closes

pub returns-in-Err-Bad-clause-state : goal.returns-in-Err-Bad-clause-state
returns-in-Err-Bad-clause-state g c =
    let cycling = g.C.Cycles.cycling c.args.cycles.now in
    let first = g.C.Cycles.now c.args.cycles.now in
    let width = g.C.Cycles.width c.args.cycles.now in
    let base = g.O.Sink.holds c.args.out.now in
    let all = option_map (lines_of width) (g.I.Source.left c.args.input.now) in
    let left = lines_left c.lines.reader (g.I.Source.left c.lines.input) width in
    let now = g.C.Cycles.now c.lines.cycles in
    let sent = g.O.Sink.holds c.send_before_reading.new.out in
    let rest = c.send_before_reading.new.buffer in
    let going = going_sent cycling first base all left now (g.O.Sink.holds c.lines.out) sent c.lines.buffer rest (c.in_default.ensures {u = tt}).bytes c.lines.invariant.going in
    let n = c.in-Err-Bad.number in
    let new = g.O.Sink.holds c.stop.new.out in
    let bad = ends_bad cycling first base all left now n sent rest going
    (subst (λ (k : ℕ). IfSome (lines_left c.lines.reader (g.I.Source.left c.lines.input) k) (λ lines. lines ≡ Bad n)) c.lines.invariant.line (c.next.ensures.bad n (c.in-Err-Bad.is ∙ ap Err c.in-Err-Bad.field-0-is))) in
    let closes = subst (λ (k : ℕ). Closes sent rest [] new (g.O.Sink.faults c.send_before_reading.new.out) (g.O.Sink.faults c.stop.new.out) c.stop.result (Err (fault.BadLine k))) c.in-Err-Bad.number-is c.stop.ensures.closes in
    run_leaves cycling first base all [] (BadLine n) now sent new rest (g.O.Sink.faults c.send_before_reading.new.out) (g.O.Sink.faults c.stop.new.out) c.stop.result bad closes

pub returns-in-Err-Read-clause-answer : goal.returns-in-Err-Read-clause-answer
returns-in-Err-Read-clause-answer g c =
    let cycling = g.C.Cycles.cycling c.args.cycles.now in
    let first = g.C.Cycles.now c.args.cycles.now in
    let width = g.C.Cycles.width c.args.cycles.now in
    let base = g.O.Sink.holds c.args.out.now in
    let all = option_map (lines_of width) (g.I.Source.left c.args.input.now) in
    let left = lines_left c.lines.reader (g.I.Source.left c.lines.input) width in
    let now = g.C.Cycles.now c.lines.cycles in
    let sent = g.O.Sink.holds c.send_before_reading.new.out in
    let rest = c.send_before_reading.new.buffer in
    let going = going_sent cycling first base all left now (g.O.Sink.holds c.lines.out) sent c.lines.buffer rest (c.in_default.ensures {u = tt}).bytes c.lines.invariant.going in
    into_kept cycling first base all left now sent rest going

pub returns-in-Err-Read-clause-answered : goal.returns-in-Err-Read-clause-answered
returns-in-Err-Read-clause-answered g c is =
    let cycling = g.C.Cycles.cycling c.args.cycles.now in
    let first = g.C.Cycles.now c.args.cycles.now in
    let width = g.C.Cycles.width c.args.cycles.now in
    let base = g.O.Sink.holds c.args.out.now in
    let all = option_map (lines_of width) (g.I.Source.left c.args.input.now) in
    let left = lines_left c.lines.reader (g.I.Source.left c.lines.input) width in
    let now = g.C.Cycles.now c.lines.cycles in
    let sent = g.O.Sink.holds c.send_before_reading.new.out in
    let rest = c.send_before_reading.new.buffer in
    let answering = answering_sent cycling first width base (g.I.Source.left c.args.input.now) (g.I.Source.left c.lines.input) (kept_of c.lines.reader) (is_over c.lines.reader) (count_of c.lines.reader) now
    (g.O.Sink.holds c.lines.out) sent c.lines.buffer rest (c.in_default.ensures {u = tt}).bytes c.lines.invariant.answering in
    let still = c.next.ensures.still (c.in-Err-Read.is ∙ ap Err c.in-Err-Read.field-0-is) in
    has_answered cycling first width base (g.I.Source.left c.args.input.now) (g.I.Source.left c.lines.input) (g.I.Source.left c.next.new.source) c.lines.reader c.next.new.self (count_of c.lines.reader) now sent rest answering still
    (nothing_waits still.before (c.in_default.ensures {u = tt}).sent)

pub cycle-requires-clause-few : goal.cycle-requires-clause-few
cycle-requires-clause-few g c =
    let line_read : c.next.result ≡ Ok next.Line = c.in-Ok-Line.is ∙ ap Ok c.in-Ok-Line.field-0-is in
    let few = (c.next.ensures.counted line_read).1 in
    omega (arith, few, c.lines.invariant.number)

pub cycle-requires-clause-line : goal.cycle-requires-clause-line
cycle-requires-clause-line g c = c.next.auto.into ∙ c.lines.invariant.line ∙ sym c.lines.invariant.wide

pub returns-in-Err-cycle-clause-answer : goal.returns-in-Err-cycle-clause-answer
returns-in-Err-cycle-clause-answer g c =
    let cycling = g.C.Cycles.cycling c.args.cycles.now in
    let first = g.C.Cycles.now c.args.cycles.now in
    let width = g.C.Cycles.width c.args.cycles.now in
    let base = g.O.Sink.holds c.args.out.now in
    let all = option_map (lines_of width) (g.I.Source.left c.args.input.now) in
    let left = lines_left c.lines.reader (g.I.Source.left c.lines.input) width in
    let now = g.C.Cycles.now c.lines.cycles in
    let sent = g.O.Sink.holds c.send_before_reading.new.out in
    let rest = c.send_before_reading.new.buffer in
    let going = going_sent cycling first base all left now (g.O.Sink.holds c.lines.out) sent c.lines.buffer rest (c.in_default.ensures {u = tt}).bytes c.lines.invariant.going in
    let ins = c.next.new.into in
    let later = lines_left c.next.new.self (g.I.Source.left c.next.new.source) width in
    let line_read : c.next.result ≡ Ok next.Line = c.in-Ok-Line.is ∙ ap Ok c.in-Ok-Line.field-0-is in
    let read = subst (λ (n : ℕ). lines_left c.lines.reader (g.I.Source.left c.lines.input) n ≡ option_map (Line ins) (lines_left c.next.new.self (g.I.Source.left c.next.new.source) n)) c.lines.invariant.line (c.next.ensures.line line_read) in
    let to = g.O.Sink.holds c.cycle.new.out in
    let more = c.cycle.new.buffer in
    let failed = subst (λ (k : Cycling Ongoing). WritesFor {A = CycleEnd} sent rest (k.text now ins) to more (Err c.in-Err-cycle._fault)) c.lines.invariant.same (c.in-Err-cycle.ensures {u = tt}).bytes in
    into_unwritten cycling first base all left later now ins c.in-Err-cycle._fault sent to rest more going read failed

pub returns-in-Ok-Broken-clause-answer : goal.returns-in-Ok-Broken-clause-answer
returns-in-Ok-Broken-clause-answer g c =
    let cycling = g.C.Cycles.cycling c.args.cycles.now in
    let first = g.C.Cycles.now c.args.cycles.now in
    let width = g.C.Cycles.width c.args.cycles.now in
    let base = g.O.Sink.holds c.args.out.now in
    let all = option_map (lines_of width) (g.I.Source.left c.args.input.now) in
    let left = lines_left c.lines.reader (g.I.Source.left c.lines.input) width in
    let now = g.C.Cycles.now c.lines.cycles in
    let sent = g.O.Sink.holds c.send_before_reading.new.out in
    let rest = c.send_before_reading.new.buffer in
    let going = going_sent cycling first base all left now (g.O.Sink.holds c.lines.out) sent c.lines.buffer rest (c.in_default.ensures {u = tt}).bytes c.lines.invariant.going in
    let ins = c.next.new.into in
    let later = lines_left c.next.new.self (g.I.Source.left c.next.new.source) width in
    let line_read : c.next.result ≡ Ok next.Line = c.in-Ok-Line.is ∙ ap Ok c.in-Ok-Line.field-0-is in
    let read = subst (λ (n : ℕ). lines_left c.lines.reader (g.I.Source.left c.lines.input) n ≡ option_map (Line ins) (lines_left c.next.new.self (g.I.Source.left c.next.new.source) n)) c.lines.invariant.line (c.next.ensures.line line_read) in
    let to = g.O.Sink.holds c.cycle.new.out in
    let more = c.cycle.new.buffer in
    let last = g.C.Cycles.now c.cycle.new.self in
    let e = c.in-Ok-Broken.ensures {u = tt} in
    let is : cycling.ended now ins ≡ ended.Broken = ap (λ (k : Cycling Ongoing). k.ended now ins) (sym c.lines.invariant.same) ∙ sym e.ended ∙ c.in-Ok-Broken.field-0-is in
    let follows : last ≡ cycling.next now ins = e.now ∙ ap (λ (k : Cycling Ongoing). k.next now ins) c.lines.invariant.same in
    let written = subst (λ (k : Cycling Ongoing). WritesFor {E = SinkFault} sent rest (k.text now ins) to more (Ok ended.Broken)) c.lines.invariant.same e.bytes in
    let over = ends_ended cycling first base all left later now last ins ended.Broken ended.Broken Broken sent to rest more going read is (λ text ends one other. (refl, refl, refl)) follows written in
    run_answers cycling first base all [] Broken last to (g.O.Sink.holds c.stop-in-Ok-Broken.new.out) more (g.O.Sink.faults c.cycle.new.out) (g.O.Sink.faults c.stop-in-Ok-Broken.new.out) c.stop-in-Ok-Broken.result over c.stop-in-Ok-Broken.ensures.closes

pub returns-in-Ok-Broken-clause-state : goal.returns-in-Ok-Broken-clause-state
returns-in-Ok-Broken-clause-state g c =
    let cycling = g.C.Cycles.cycling c.args.cycles.now in
    let first = g.C.Cycles.now c.args.cycles.now in
    let width = g.C.Cycles.width c.args.cycles.now in
    let base = g.O.Sink.holds c.args.out.now in
    let all = option_map (lines_of width) (g.I.Source.left c.args.input.now) in
    let left = lines_left c.lines.reader (g.I.Source.left c.lines.input) width in
    let now = g.C.Cycles.now c.lines.cycles in
    let sent = g.O.Sink.holds c.send_before_reading.new.out in
    let rest = c.send_before_reading.new.buffer in
    let going = going_sent cycling first base all left now (g.O.Sink.holds c.lines.out) sent c.lines.buffer rest (c.in_default.ensures {u = tt}).bytes c.lines.invariant.going in
    let ins = c.next.new.into in
    let later = lines_left c.next.new.self (g.I.Source.left c.next.new.source) width in
    let line_read : c.next.result ≡ Ok next.Line = c.in-Ok-Line.is ∙ ap Ok c.in-Ok-Line.field-0-is in
    let read = subst (λ (n : ℕ). lines_left c.lines.reader (g.I.Source.left c.lines.input) n ≡ option_map (Line ins) (lines_left c.next.new.self (g.I.Source.left c.next.new.source) n)) c.lines.invariant.line (c.next.ensures.line line_read) in
    let to = g.O.Sink.holds c.cycle.new.out in
    let more = c.cycle.new.buffer in
    let last = g.C.Cycles.now c.cycle.new.self in
    let e = c.in-Ok-Broken.ensures {u = tt} in
    let is : cycling.ended now ins ≡ ended.Broken = ap (λ (k : Cycling Ongoing). k.ended now ins) (sym c.lines.invariant.same) ∙ sym e.ended ∙ c.in-Ok-Broken.field-0-is in
    let follows : last ≡ cycling.next now ins = e.now ∙ ap (λ (k : Cycling Ongoing). k.next now ins) c.lines.invariant.same in
    let written = subst (λ (k : Cycling Ongoing). WritesFor {E = SinkFault} sent rest (k.text now ins) to more (Ok ended.Broken)) c.lines.invariant.same e.bytes in
    let over = ends_ended cycling first base all left later now last ins ended.Broken ended.Broken Broken sent to rest more going read is (λ text ends one other. (refl, refl, refl)) follows written in
    run_leaves cycling first base all [] Broken last to (g.O.Sink.holds c.stop-in-Ok-Broken.new.out) more (g.O.Sink.faults c.cycle.new.out) (g.O.Sink.faults c.stop-in-Ok-Broken.new.out) c.stop-in-Ok-Broken.result over c.stop-in-Ok-Broken.ensures.closes

pub returns-in-Ok-Lost-clause-answer : goal.returns-in-Ok-Lost-clause-answer
returns-in-Ok-Lost-clause-answer g c =
    let cycling = g.C.Cycles.cycling c.args.cycles.now in
    let first = g.C.Cycles.now c.args.cycles.now in
    let width = g.C.Cycles.width c.args.cycles.now in
    let base = g.O.Sink.holds c.args.out.now in
    let all = option_map (lines_of width) (g.I.Source.left c.args.input.now) in
    let left = lines_left c.lines.reader (g.I.Source.left c.lines.input) width in
    let now = g.C.Cycles.now c.lines.cycles in
    let sent = g.O.Sink.holds c.send_before_reading.new.out in
    let rest = c.send_before_reading.new.buffer in
    let going = going_sent cycling first base all left now (g.O.Sink.holds c.lines.out) sent c.lines.buffer rest (c.in_default.ensures {u = tt}).bytes c.lines.invariant.going in
    let ins = c.next.new.into in
    let later = lines_left c.next.new.self (g.I.Source.left c.next.new.source) width in
    let line_read : c.next.result ≡ Ok next.Line = c.in-Ok-Line.is ∙ ap Ok c.in-Ok-Line.field-0-is in
    let read = subst (λ (n : ℕ). lines_left c.lines.reader (g.I.Source.left c.lines.input) n ≡ option_map (Line ins) (lines_left c.next.new.self (g.I.Source.left c.next.new.source) n)) c.lines.invariant.line (c.next.ensures.line line_read) in
    let to = g.O.Sink.holds c.cycle.new.out in
    let more = c.cycle.new.buffer in
    let last = g.C.Cycles.now c.cycle.new.self in
    let e = c.in-Ok-Lost.ensures {u = tt} in
    let is : cycling.ended now ins ≡ ended.Lost = ap (λ (k : Cycling Ongoing). k.ended now ins) (sym c.lines.invariant.same) ∙ sym e.ended ∙ c.in-Ok-Lost.field-0-is in
    let follows : last ≡ cycling.next now ins = e.now ∙ ap (λ (k : Cycling Ongoing). k.next now ins) c.lines.invariant.same in
    let written = subst (λ (k : Cycling Ongoing). WritesFor {E = SinkFault} sent rest (k.text now ins) to more (Ok ended.Lost)) c.lines.invariant.same e.bytes in
    let over = ends_ended cycling first base all left later now last ins ended.Lost ended.Lost Lost sent to rest more going read is (λ text ends one other. (refl, refl, refl)) follows written in
    run_answers cycling first base all [] Lost last to (g.O.Sink.holds c.stop-in-Ok-Lost.new.out) more (g.O.Sink.faults c.cycle.new.out) (g.O.Sink.faults c.stop-in-Ok-Lost.new.out) c.stop-in-Ok-Lost.result over c.stop-in-Ok-Lost.ensures.closes

pub returns-in-Ok-Lost-clause-state : goal.returns-in-Ok-Lost-clause-state
returns-in-Ok-Lost-clause-state g c =
    let cycling = g.C.Cycles.cycling c.args.cycles.now in
    let first = g.C.Cycles.now c.args.cycles.now in
    let width = g.C.Cycles.width c.args.cycles.now in
    let base = g.O.Sink.holds c.args.out.now in
    let all = option_map (lines_of width) (g.I.Source.left c.args.input.now) in
    let left = lines_left c.lines.reader (g.I.Source.left c.lines.input) width in
    let now = g.C.Cycles.now c.lines.cycles in
    let sent = g.O.Sink.holds c.send_before_reading.new.out in
    let rest = c.send_before_reading.new.buffer in
    let going = going_sent cycling first base all left now (g.O.Sink.holds c.lines.out) sent c.lines.buffer rest (c.in_default.ensures {u = tt}).bytes c.lines.invariant.going in
    let ins = c.next.new.into in
    let later = lines_left c.next.new.self (g.I.Source.left c.next.new.source) width in
    let line_read : c.next.result ≡ Ok next.Line = c.in-Ok-Line.is ∙ ap Ok c.in-Ok-Line.field-0-is in
    let read = subst (λ (n : ℕ). lines_left c.lines.reader (g.I.Source.left c.lines.input) n ≡ option_map (Line ins) (lines_left c.next.new.self (g.I.Source.left c.next.new.source) n)) c.lines.invariant.line (c.next.ensures.line line_read) in
    let to = g.O.Sink.holds c.cycle.new.out in
    let more = c.cycle.new.buffer in
    let last = g.C.Cycles.now c.cycle.new.self in
    let e = c.in-Ok-Lost.ensures {u = tt} in
    let is : cycling.ended now ins ≡ ended.Lost = ap (λ (k : Cycling Ongoing). k.ended now ins) (sym c.lines.invariant.same) ∙ sym e.ended ∙ c.in-Ok-Lost.field-0-is in
    let follows : last ≡ cycling.next now ins = e.now ∙ ap (λ (k : Cycling Ongoing). k.next now ins) c.lines.invariant.same in
    let written = subst (λ (k : Cycling Ongoing). WritesFor {E = SinkFault} sent rest (k.text now ins) to more (Ok ended.Lost)) c.lines.invariant.same e.bytes in
    let over = ends_ended cycling first base all left later now last ins ended.Lost ended.Lost Lost sent to rest more going read is (λ text ends one other. (refl, refl, refl)) follows written in
    run_leaves cycling first base all [] Lost last to (g.O.Sink.holds c.stop-in-Ok-Lost.new.out) more (g.O.Sink.faults c.cycle.new.out) (g.O.Sink.faults c.stop-in-Ok-Lost.new.out) c.stop-in-Ok-Lost.result over c.stop-in-Ok-Lost.ensures.closes

pub lines-preserved : goal.lines-preserved
lines-preserved g c =
    let cycling = g.C.Cycles.cycling c.args.cycles.now in
    let first = g.C.Cycles.now c.args.cycles.now in
    let width = g.C.Cycles.width c.args.cycles.now in
    let base = g.O.Sink.holds c.args.out.now in
    let all = option_map (lines_of width) (g.I.Source.left c.args.input.now) in
    let left = lines_left c.lines.reader (g.I.Source.left c.lines.input) width in
    let now = g.C.Cycles.now c.lines.cycles in
    let sent = g.O.Sink.holds c.send_before_reading.new.out in
    let rest = c.send_before_reading.new.buffer in
    let going = going_sent cycling first base all left now (g.O.Sink.holds c.lines.out) sent c.lines.buffer rest (c.in_default.ensures {u = tt}).bytes c.lines.invariant.going in
    let answering = answering_sent cycling first width base (g.I.Source.left c.args.input.now) (g.I.Source.left c.lines.input) (kept_of c.lines.reader) (is_over c.lines.reader) (count_of c.lines.reader) now
    (g.O.Sink.holds c.lines.out) sent c.lines.buffer rest (c.in_default.ensures {u = tt}).bytes c.lines.invariant.answering in
    let ins = c.next.new.into in
    let later = lines_left c.next.new.self (g.I.Source.left c.next.new.source) width in
    let line_read : c.next.result ≡ Ok next.Line = c.in-Ok-Line.is ∙ ap Ok c.in-Ok-Line.field-0-is in
    let read = subst (λ (n : ℕ). lines_left c.lines.reader (g.I.Source.left c.lines.input) n ≡ option_map (Line ins) (lines_left c.next.new.self (g.I.Source.left c.next.new.source) n)) c.lines.invariant.line (c.next.ensures.line line_read) in
    let to = g.O.Sink.holds c.cycle.new.out in
    let more = c.cycle.new.buffer in
    let last = g.C.Cycles.now c.cycle.new.self in
    let e = c.in-Ok-Clean.ensures {u = tt} in
    let is : cycling.ended now ins ≡ ended.Clean = ap (λ (k : Cycling Ongoing). k.ended now ins) (sym c.lines.invariant.same) ∙ sym e.ended ∙ c.in-Ok-Clean.field-0-is in
    let follows : last ≡ cycling.next now ins = e.now ∙ ap (λ (k : Cycling Ongoing). k.next now ins) c.lines.invariant.same in
    let written = subst (λ (k : Cycling Ongoing). WritesFor {E = SinkFault} sent rest (k.text now ins) to more (Ok ended.Clean)) c.lines.invariant.same e.bytes in
    let counted = c.next.ensures.counted line_read in
    record {
      going = going_on cycling first base all left later now last ins ended.Clean sent to rest more going read is follows written;
      answering = answering_on cycling first width base (g.I.Source.left c.args.input.now) (g.I.Source.left c.lines.input) (g.I.Source.left c.next.new.source) c.lines.reader c.next.new.self (count_of c.lines.reader) (count_of c.next.new.self)
          now last ins ended.Clean sent to rest more answering
          (subst (λ (n : ℕ). ReadsLine c.lines.reader c.next.new.self (g.I.Source.left c.lines.input) (g.I.Source.left c.next.new.source) n ins) c.lines.invariant.line (c.next.ensures.reads line_read))
          counted.1 counted.0 is follows written;
      same = e.same ∙ c.lines.invariant.same;
      wide = e.width ∙ c.lines.invariant.wide;
      ready = e.ready c.in-Ok-Clean.field-0-is;
      number = e.number ∙ ap (λ (n : ℕ). n + 1) c.lines.invariant.number ∙ sym counted.0;
      over = c.next.ensures.over;
      line = c.next.auto.into ∙ c.lines.invariant.line;
      later_in = omega (arith, c.next.ensures.later, c.lines.invariant.later_in);
      later_out = omega (arith, c.lines.invariant.later_out, c.send_before_reading.ensures.cause.later, c.cycle.ensures.cause.later);
    }
