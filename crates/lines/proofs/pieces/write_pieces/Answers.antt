use Rattle.std.proofs.Common.{◌++◌, Ok, arith}
use Rattle.mars_base.specs.declared.outside.SinkFault.{SinkFault}
use Rattle.lines.proofs.Gather.{writes_both, writes_stopped, joined_more}
use Rattle.lines.proofs.pieces.write_pieces.Goals as goal

pub returns-in-Err-clause-bytes : goal.returns-in-Err-clause-bytes
returns-in-Err-clause-bytes g c =
    let i = c.loop-piece.invariant in
    writes_stopped (g.O.Sink.holds c.args.out.now) (g.O.Sink.holds c.loop-piece.out) (g.O.Sink.holds c.write.new.out) c.args.buffer.now c.loop-piece.buffer
    c.args.pieces.now c.loop-piece.piece-index _ i.sent c.loop-piece-test.true i.whole i.written (c.in-Err.ensures {u = tt}).bytes

pub loop-piece-preserved : goal.loop-piece-preserved
loop-piece-preserved g c =
    let i = c.loop-piece.invariant in
    record {
      sent = i.sent ++ _;
      whole = joined_more c.args.pieces.now c.loop-piece.piece-index _ i.sent c.loop-piece-test.true i.whole;
      written = writes_both {E = SinkFault} (Ok tt) (g.O.Sink.holds c.args.out.now) (g.O.Sink.holds c.loop-piece.out) (g.O.Sink.holds c.write.new.out)
          c.args.buffer.now c.loop-piece.buffer c.write.new.self i.sent _ i.written (c.in_default.ensures {u = tt}).bytes;
      later = omega (arith, i.later, c.write.ensures.cause.later);
    }
