use Rattle.std.proofs.Common.{[], Err}
use Rattle.lines.proofs.Gather.{writes_nothing}
use Rattle.task_run.specs.declared.fault.RunFault.TheVariants as fault
use Rattle.task_run.proofs.Closes.{closes_ok}
use Rattle.task_run.proofs.closing.stop_bad.Goals as goal

pub returns-clause-closes : goal.returns-clause-closes
returns-clause-closes g c =
    let out = g.O.Sink.holds c.args.out.now in
    closes_ok out out (g.O.Sink.holds c.flush.new.out) c.args.buffer.now c.args.buffer.now [] [] (g.O.Sink.faults c.args.out.now) (g.O.Sink.faults c.flush.new.out) (Err (fault.BadLine c.args.number))
    (writes_nothing out c.args.buffer.now) (c.in_default.ensures {u = tt}).bytes
