use Rattle.std.proofs.Common.{drop, arith, refl, ap, ◌∙◌, sym}
use Rattle.mc_tree.specs.declared.token.Sign.TheVariants as S
use Rattle.mc_reader.specs.Reading.{next, done}
use Rattle.mc_reader.specs.Readers.{name, sign, commas}
use Rattle.mc_reader.specs.Answers.{itself, after, closing, after_first}
use Rattle.mc_reader.proofs.DeclarationLoop.{fault}
use Rattle.mc_reader.proofs.CommaLoop.{name_more, name_bad, name_end, name_later}
use Rattle.mc_reader.proofs.declaration.more_parameters.Goals as goal

pub loop-alloc-smaller : goal.loop-alloc-smaller
loop-alloc-smaller c = omega (arith, name_later c.args.bytes.now c.args.tokens.now c.takes.new.self.at c.name.new.self.at c.in-Ok.name c.takes.ensures.within c.in-Ok.ensures.1 c.in-Ok.ensures.0, c.loop-alloc-test.ensures.later refl, c.takes.ensures.within, c.in-Ok.ensures.1)

pub loop-alloc-preserved : goal.loop-alloc-preserved
loop-alloc-preserved c = record {
  within = c.in-Ok.ensures.1;
  reads = c.loop-alloc.invariant.reads
      ∙ name_more c.args.bytes.now c.loop-alloc.items (drop c.loop-alloc.cursor.at c.args.tokens.now) (drop c.takes.new.self.at c.args.tokens.now) c.in-Ok.name (drop c.name.new.self.at c.args.tokens.now) c.loop-alloc-test.ensures.reads c.in-Ok.ensures.0
      ∙ ap (λ xs. closing (after xs (commas (name c.args.bytes.now) (drop c.name.new.self.at c.args.tokens.now)))) (sym c.in_ok-keep-in-Ok.ensures);
}

pub returns-in-Err : goal.returns-in-Err
returns-in-Err c =
    fault (name c.args.bytes.now) (after_first (name c.args.bytes.now) c.args.first) itself itself c.args.tokens.now c.takes.new.self.at c.args.cursor.now.at c.name.new.self.at c.name.new.self.at c.in-Err.fault
    (λ rest h. c.loop-alloc.invariant.reads ∙ name_bad c.args.bytes.now c.loop-alloc.items (drop c.loop-alloc.cursor.at c.args.tokens.now) (drop c.takes.new.self.at c.args.tokens.now) rest c.loop-alloc-test.ensures.reads h) c.in-Err.ensures

pub returns-in-Ok-sign : goal.returns-in-Ok-sign
returns-in-Ok-sign c = (
  c.loop-alloc.invariant.reads ∙ name_end c.args.bytes.now c.loop-alloc.items (drop c.loop-alloc.cursor.at c.args.tokens.now) (drop c.takes.new.self.at c.args.tokens.now) c.loop-alloc-test.ensures.reads
      ∙ ap (λ g. next g (λ q. done c.loop-alloc.items)) c.in-Ok-sign.ensures.0,
  c.in-Ok-sign.ensures.1,
)

pub returns-in-Err-sign : goal.returns-in-Err-sign
returns-in-Err-sign c =
    fault (sign S.CloseParen) (after_first (name c.args.bytes.now) c.args.first) itself itself c.args.tokens.now c.takes.new.self.at c.args.cursor.now.at c.sign.new.self.at c.sign.new.self.at c.in-Err-sign.fault
    (λ rest h. c.loop-alloc.invariant.reads ∙ name_end c.args.bytes.now c.loop-alloc.items (drop c.loop-alloc.cursor.at c.args.tokens.now) (drop c.takes.new.self.at c.args.tokens.now) c.loop-alloc-test.ensures.reads ∙ ap (λ g. next g (λ q. done c.loop-alloc.items)) h) c.in-Err-sign.ensures
