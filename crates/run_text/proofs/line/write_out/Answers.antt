use Rattle.std.proofs.Common.{◌++◌, List, ℕ, ap, sym, ◌∙◌, subst}
use Rattle.std.proofs.lemmas.List.{append_assoc}
use Rattle.lines.specs.Gathered.{Writes}
use Rattle.lines.proofs.Gather.{front_of_front, writes_both}
use Rattle.mars_base.specs.declared.outside.SinkFault.{SinkFault}
use Rattle.run_text.specs.Helpers.{out_head, out_tail}
use Rattle.run_text.proofs.Parts.{out_parts}
use Rattle.run_text.proofs.line.write_out.Goals as goal

pub returns-in-Err-clause-bytes : goal.returns-in-Err-clause-bytes
returns-in-Err-clause-bytes g c base text gathered =
    let head = out_head c.args.cycle c.args.name.now c.args.instance c.args.tick in
    let tail = out_tail c.args.words.now in
    front_of_front base (text ++ head) tail _ (g.O.Sink.holds c.write_head.new.out)
    (ap (λ (t : List ℕ). text ++ t) (sym (out_parts c.args.cycle c.args.name.now c.args.instance c.args.tick c.args.words.now)) ∙ sym (append_assoc text head tail))
    ((c.in-Err.ensures {u = tt}).bytes base text gathered)

pub returns-clause-bytes : goal.returns-clause-bytes
returns-clause-bytes g c =
    let head = out_head c.args.cycle c.args.name.now c.args.instance c.args.tick in
    let tail = out_tail c.args.words.now in
    subst (λ x. Writes {E = SinkFault} (g.O.Sink.holds c.args.out.now) c.args.buffer.now x (g.O.Sink.holds c.write_spaced.new.out) c.write_spaced.new.buffer c.write_spaced.result)
    (out_parts c.args.cycle c.args.name.now c.args.instance c.args.tick c.args.words.now)
    (writes_both {E = SinkFault} c.write_spaced.result (g.O.Sink.holds c.args.out.now) (g.O.Sink.holds c.write_head.new.out) (g.O.Sink.holds c.write_spaced.new.out)
    c.args.buffer.now c.write_head.new.buffer c.write_spaced.new.buffer head tail ((c.in_default.ensures {u = tt}).bytes) c.write_spaced.ensures.bytes)
