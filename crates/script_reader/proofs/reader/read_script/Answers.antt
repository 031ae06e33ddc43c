use Rattle.std.proofs.Common.{◌∙◌, ap, arith}
use Rattle.script_reader.specs.Reads.{said}
use Rattle.script_reader.specs.Reading.{events_of}
use Rattle.script_reader.proofs.Lines.{line_more}
use Rattle.script_reader.proofs.reader.read_script.Goals as goal

pub loop-line-preserved : goal.loop-line-preserved
loop-line-preserved c =
    let first = c.in-Some.ensures in
    record {
      said = c.loop-line.invariant.said
          ∙ line_more c.args.units c.args.ticks c.loop-line.number (events_of c.loop-line.script) (events_of c.add.new.script) (said c.in-Some-line_of.said) c.loop-line.rest.now c.in-Some.line.now c.in-Some.behind.now first c.in-Some-line_of.ensures c.in_ok-add.ensures;
      count = let shorter = first.shorter in omega (arith, shorter, c.loop-line.invariant.count);
    }
