use Rattle.std.proofs.Common.{[], Err, rules}
use Rattle.task_run.specs.Text.{broken_line}
use Rattle.task_run.specs.declared.fault.RunFault.TheVariants as fault
use Rattle.task_run.proofs.Closes.{closes_ok, closes_unsent}
use Rattle.task_run.proofs.closing.stop_broken.Goals as goal

pub returns-in-Err-flush-clause-closes : goal.returns-in-Err-flush-clause-closes
returns-in-Err-flush-clause-closes g c =
    let e = c.in-Err-flush.ensures {u = tt} in
    closes_unsent c.in-Err-flush._fault (g.O.Sink.holds c.args.out.now) (g.O.Sink.holds c.write_broken.new.out) (g.O.Sink.holds c.flush.new.out) c.args.buffer.now c.write_broken.new.buffer [] (broken_line c.args.line c.args.name.now)
    (g.O.Sink.faults c.args.out.now) (g.O.Sink.faults c.flush.new.out) (Err fault.Broken) (c.in_default.ensures {u = tt}).bytes e.bytes (search rules)

pub returns-clause-closes : goal.returns-clause-closes
returns-clause-closes g c =
    closes_ok (g.O.Sink.holds c.args.out.now) (g.O.Sink.holds c.write_broken.new.out) (g.O.Sink.holds c.flush.new.out) c.args.buffer.now c.write_broken.new.buffer [] (broken_line c.args.line c.args.name.now)
    (g.O.Sink.faults c.args.out.now) (g.O.Sink.faults c.flush.new.out) (Err fault.Broken) (c.in_default.ensures {u = tt}).bytes (c.in_default-flush.ensures {u = tt}).bytes
