use Rattle.lines.proofs.Gather.{writes_sent}
use Rattle.lines.proofs.buffer.LineBuf.flush.Goals as goal

pub returns-clause-bytes : goal.returns-clause-bytes
returns-clause-bytes g c = writes_sent c.send.result (g.O.Sink.holds c.args.out.now) (g.O.Sink.holds c.send.new.out) c.args.self.now c.send.ensures.bytes
