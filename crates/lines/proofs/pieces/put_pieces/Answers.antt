use Rattle.std.proofs.Common.{◌++◌, Ok, arith}
use Rattle.mars_base.specs.declared.outside.SinkFault.{SinkFault}
use Rattle.lines.proofs.Gather.{puts_both, puts_stopped, joined_more}
use Rattle.lines.proofs.pieces.put_pieces.Goals as goal

pub returns-in-Err-clause-bytes : goal.returns-in-Err-clause-bytes
returns-in-Err-clause-bytes g c =
    let i = c.loop-piece.invariant in
    puts_stopped (g.O.Sink.holds c.args.out.now) (g.O.Sink.holds c.loop-piece.out) (g.O.Sink.holds c.put.new.self) c.args.pieces.now c.loop-piece.piece-index _ i.sent
    c.loop-piece-test.true i.whole i.stands (c.in-Err.ensures {u = tt}).bytes

pub loop-piece-preserved : goal.loop-piece-preserved
loop-piece-preserved g c =
    let i = c.loop-piece.invariant in
    let put = (c.in_default.ensures {u = tt}).bytes in
    record {
      sent = i.sent ++ _;
      whole = joined_more c.args.pieces.now c.loop-piece.piece-index _ i.sent c.loop-piece-test.true i.whole;
      stands = puts_both {E = SinkFault} (Ok tt) (g.O.Sink.holds c.args.out.now) (g.O.Sink.holds c.loop-piece.out) (g.O.Sink.holds c.put.new.self) i.sent _ i.stands put;
      later = omega (arith, i.later, c.put.ensures.cause.later);
    }
