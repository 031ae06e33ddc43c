use Rattle.std.proofs.Common.{◌∙◌, ◌+◌, length}
use Rattle.std.proofs.Math.Seq.{drop-length}
use Rattle.std.proofs.lemmas.List.{take_rest}
use Rattle.script_reader.proofs.Lines.{fed_line, last_line}
use Rattle.script_reader.proofs.reader.first_line.Goals as goal

pub returns-in-Some : goal.returns-in-Some
returns-in-Some c = fed_line c.args.text.now c.without_return.result.now _ c.in-Some.at (c.in-Some.ensures {u = tt}) c.without_return.ensures (take_rest c.args.text.now (c.in-Some.at + 1))

pub returns-in-None : goal.returns-in-None
returns-in-None c = last_line c.args.text.now _ c.if-is_empty.ensures c.in-None.ensures (take_rest c.args.text.now (length c.args.text.now) ∙ drop-length c.args.text.now)
