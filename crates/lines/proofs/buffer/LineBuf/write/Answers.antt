use Rattle.std.proofs.Common.{Ok, subst, sym, [], List, ℕ}
use Rattle.mars_base.specs.declared.outside.SinkFault.{SinkFault}
use Rattle.lines.specs.Gathered.{Writes}
use Rattle.lines.proofs.Gather.{front_sent, writes_sent, writes_put, writes_both}
use Rattle.lines.proofs.buffer.LineBuf.write.Goals as goal

pub returns-in-Err-clause-bytes : goal.returns-in-Err-clause-bytes
returns-in-Err-clause-bytes g c base text gathered =
    let put = (c.in-Err.ensures {u = tt}).bytes in
    front_sent base text (g.O.Sink.holds c.args.out.now) (g.O.Sink.holds c.send.new.out) c.args.self.now put.0 c.args.bytes.now put.1 gathered

pub returns-clause-bytes : goal.returns-clause-bytes
returns-clause-bytes g c =
    let out = g.O.Sink.holds c.args.out.now in
    let mid = g.O.Sink.holds c.send.new.out in
    let new = g.O.Sink.holds c.put.new.self in
    let sent = writes_sent {E = SinkFault} (Ok tt) out mid c.args.self.now (c.in_default.ensures {u = tt}).bytes in
    let both = writes_both c.put.result out mid new c.args.self.now [] [] [] c.args.bytes.now sent (writes_put c.put.result mid new c.args.bytes.now c.put.ensures.bytes) in
    subst (λ (left : List ℕ). Writes out c.args.self.now c.args.bytes.now new left c.put.result) (sym c.send.ensures.empty) both
