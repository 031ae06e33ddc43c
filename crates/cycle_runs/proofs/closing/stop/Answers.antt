use Rattle.std.proofs.Common.{[], Err}
use Rattle.lines.proofs.Gather.{writes_nothing}
use Rattle.cycle_runs.proofs.Closes.{closes_ok}
use Rattle.cycle_runs.proofs.closing.stop.Goals as goal

pub returns-clause-closes : goal.returns-clause-closes
returns-clause-closes g c =
    let out = g.O.Sink.holds c.args.out.now in
    closes_ok out out (g.O.Sink.holds c.flush.new.out) c.args.buffer.now c.args.buffer.now [] [] (g.O.Sink.faults c.args.out.now) (g.O.Sink.faults c.flush.new.out) (Err c.args.fault)
    (writes_nothing out c.args.buffer.now) (c.in_default.ensures {u = tt}).bytes
