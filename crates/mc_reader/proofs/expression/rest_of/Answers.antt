use Rattle.std.proofs.Common.{arith, ◌∙◌, length}
use Rattle.mc_tree.specs.RawPlain.{plain_expr}
use Rattle.mc_reader.specs.Frames.{plain_now, frames_of}
use Rattle.mc_reader.proofs.Runs.{next, done, dead, no_more}
use Rattle.mc_reader.proofs.Spans.{inside}
use Rattle.mc_reader.proofs.expression.rest_of.Goals as goal

pub advance-requires-clause-inside : goal.advance-requires-clause-inside
advance-requires-clause-inside c = inside 0 (length c.args.bytes.now) c.args.tokens.now c.loop-cursor.cursor.at _ c.requires.order c.loop-cursor-test.true

pub returns-in-Ok-Done : goal.returns-in-Ok-Done
returns-in-Ok-Done c =
    let s = rw c.in-Ok-Done.field-0-is at c.in-Ok-Done.ensures.step in
    (c.loop-cursor.invariant.runs ∙ done c.args.bytes.now c.args.tokens.now c.loop-cursor.cursor.at _ (plain_now c.loop-cursor.now) c.loop-cursor.stack.used (frames_of c.loop-cursor.stack) c.loop-cursor-test.true (plain_expr c.in-Ok-Done.value) s, c.loop-cursor.invariant.within)

pub returns-in-Ok-Dead : goal.returns-in-Ok-Dead
returns-in-Ok-Dead c =
    let s = rw c.in-Ok-Dead.field-0-is at c.in-Ok-Dead.ensures.step in
    (c.loop-cursor.invariant.runs ∙ dead c.args.bytes.now c.args.tokens.now c.loop-cursor.cursor.at _ (plain_now c.loop-cursor.now) c.loop-cursor.stack.used (frames_of c.loop-cursor.stack) c.loop-cursor-test.true s, c.loop-cursor.invariant.within)

pub loop-cursor-preserved : goal.loop-cursor-preserved
loop-cursor-preserved c =
    let s = rw c.in-Ok-Next.field-0-is at c.in-Ok-Next.ensures.step in
    let k = rw c.in-Ok-Next.field-0-is at c.in-Ok-Next.ensures.sized in
    record {
      within = omega (arith, c.loop-cursor-test.true);
      sized = k;
      runs = c.loop-cursor.invariant.runs ∙ next c.args.bytes.now c.args.tokens.now c.loop-cursor.cursor.at _ (plain_now c.loop-cursor.now) c.loop-cursor.stack.used (frames_of c.loop-cursor.stack) c.loop-cursor-test.true (plain_now c.in-Ok-Next.next) c.advance.new.self.used (frames_of c.advance.new.self) s;
    }

pub returns : goal.returns
returns c = (c.loop-cursor.invariant.runs ∙ no_more c.args.bytes.now c.args.tokens.now (plain_now c.loop-cursor.now) c.loop-cursor.stack.used (frames_of c.loop-cursor.stack) c.loop-cursor.cursor.at c.loop-cursor-test.false, c.loop-cursor.invariant.within)
