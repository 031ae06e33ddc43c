use Rattle.std.proofs.Common.{◌++◌, List, ℕ, ap, sym, ◌∙◌, subst}
use Rattle.std.proofs.lemmas.List.{append_assoc}
use Rattle.lines.specs.Gathered.{Writes, joined}
use Rattle.lines.proofs.Gather.{front_of_front, writes_both}
use Rattle.mars_base.specs.declared.outside.SinkFault.{SinkFault}
use Rattle.trace_text.specs.Helpers.{own_head}
use Rattle.trace_text.proofs.Parts.{own_parts}
use Rattle.trace_text.proofs.line.write_own.Goals as goal

pub returns-in-Err-clause-bytes : goal.returns-in-Err-clause-bytes
returns-in-Err-clause-bytes g c base text gathered =
    let head = own_head c.args.place c.args.word.now c.args.at in
    let rest = joined c.args.pieces.now in
    front_of_front base (text ++ head) rest _ (g.O.Sink.holds c.write_head.new.out)
    (ap (λ (t : List ℕ). text ++ t) (sym (own_parts c.args.place c.args.word.now c.args.at rest)) ∙ sym (append_assoc text head rest))
    ((c.in-Err.ensures {u = tt}).bytes base text gathered)

pub returns-clause-bytes : goal.returns-clause-bytes
returns-clause-bytes g c =
    let head = own_head c.args.place c.args.word.now c.args.at in
    let rest = joined c.args.pieces.now in
    subst (λ x. Writes {E = SinkFault} (g.O.Sink.holds c.args.out.now) c.args.buffer.now x (g.O.Sink.holds c.write_pieces.new.out) c.write_pieces.new.buffer c.write_pieces.result)
    (own_parts c.args.place c.args.word.now c.args.at rest)
    (writes_both {E = SinkFault} c.write_pieces.result (g.O.Sink.holds c.args.out.now) (g.O.Sink.holds c.write_head.new.out) (g.O.Sink.holds c.write_pieces.new.out)
    c.args.buffer.now c.write_head.new.buffer c.write_pieces.new.buffer head rest ((c.in_default.ensures {u = tt}).bytes) c.write_pieces.ensures.bytes)
