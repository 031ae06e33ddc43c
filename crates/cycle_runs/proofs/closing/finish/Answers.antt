use Rattle.std.proofs.Common.{[], Ok, rules}
use Rattle.cycle_runs.proofs.Closes.{closes_ok, closes_unsent}
use Rattle.cycle_runs.proofs.closing.finish.Goals as goal

pub returns-in-Err-flush-clause-closes : goal.returns-in-Err-flush-clause-closes
returns-in-Err-flush-clause-closes g c =
    let e = c.in-Err-flush.ensures {u = tt} in
    let bytes = (g.C.Cycles.cycling c.args.cycles.now).closing (g.C.Cycles.now c.args.cycles.now) in
    closes_unsent c.in-Err-flush._fault (g.O.Sink.holds c.args.out.now) (g.O.Sink.holds c.finish.new.out) (g.O.Sink.holds c.flush.new.out) c.args.buffer.now c.finish.new.buffer [] bytes
    (g.O.Sink.faults c.args.out.now) (g.O.Sink.faults c.flush.new.out) (Ok tt) (c.in_default.ensures {u = tt}).bytes e.bytes (search rules)

pub returns-clause-closes : goal.returns-clause-closes
returns-clause-closes g c =
    let bytes = (g.C.Cycles.cycling c.args.cycles.now).closing (g.C.Cycles.now c.args.cycles.now) in
    closes_ok (g.O.Sink.holds c.args.out.now) (g.O.Sink.holds c.finish.new.out) (g.O.Sink.holds c.flush.new.out) c.args.buffer.now c.finish.new.buffer [] bytes
    (g.O.Sink.faults c.args.out.now) (g.O.Sink.faults c.flush.new.out) (Ok tt) (c.in_default.ensures {u = tt}).bytes (c.in_default-flush.ensures {u = tt}).bytes
