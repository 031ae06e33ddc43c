use Rattle.std.proofs.Common.{drop, arith, ap, ◌∙◌, sym}
use Rattle.mc_tree.specs.RawPlain.{plain_func}
use Rattle.mc_reader.specs.Readers.{func, funcs}
use Rattle.mc_reader.specs.Plain.{plain_funcs}
use Rattle.mc_reader.specs.Reading.{Good}
use Rattle.mc_reader.specs.Answers.{after}
use Rattle.mc_reader.proofs.Places.{map_push}
use Rattle.mc_reader.proofs.DeclarationLoop.{fault}
use Rattle.mc_reader.proofs.FunctionLoop.{func_more, func_bad, func_end, func_later}
use Rattle.mc_reader.proofs.task.functions.Goals as goal

pub returns-in-Err : goal.returns-in-Err
returns-in-Err c =
    let w = c.in-Some.ensures in
    fault (func c.args.bytes.now c.in-Some.from) (funcs c.args.bytes.now) plain_func plain_funcs c.args.tokens.now c.takes_func.new.cursor.at c.args.cursor.now.at c.function.new.cursor.at c.function.new.cursor.at c.in-Err.fault
    (λ rest h. c.loop-from.invariant.reads ∙ ap (λ l. after (plain_funcs c.loop-from.items) (funcs c.args.bytes.now l)) w.1 ∙ func_bad c.args.bytes.now (plain_funcs c.loop-from.items) w.0 c.in-Some.from (drop c.takes_func.new.cursor.at c.args.tokens.now) rest w.2 h) c.in-Err.ensures

pub loop-from-smaller : goal.loop-from-smaller
loop-from-smaller c =
    let w = c.in-Some.ensures in
    omega (arith, func_later c.args.bytes.now c.in-Some.from c.args.tokens.now c.takes_func.new.cursor.at c.function.new.cursor.at (plain_func c.in-Ok.function) w.3 c.in-Ok.ensures.1 c.in-Ok.ensures.0, w.3, w.4, c.in-Ok.ensures.1)

pub loop-from-preserved : goal.loop-from-preserved
loop-from-preserved c =
    let w = c.in-Some.ensures in
    record {
      within = c.in-Ok.ensures.1;
      reads = c.loop-from.invariant.reads ∙ ap (λ l. after (plain_funcs c.loop-from.items) (funcs c.args.bytes.now l)) w.1
          ∙ func_more c.args.bytes.now (plain_funcs c.loop-from.items) w.0 c.in-Some.from (drop c.takes_func.new.cursor.at c.args.tokens.now) (plain_func c.in-Ok.function) (drop c.function.new.cursor.at c.args.tokens.now) w.2 c.in-Ok.ensures.0
          ∙ ap (λ xs. after xs (funcs c.args.bytes.now (drop c.function.new.cursor.at c.args.tokens.now))) (sym (ap plain_funcs c.in_ok-keep-in-Ok.ensures ∙ map_push plain_func c.loop-from.items c.in-Ok.function));
    }

pub returns : goal.returns
returns c =
    let w = c.in_default.ensures in
    (c.loop-from.invariant.reads ∙ func_end c.args.bytes.now (plain_funcs c.loop-from.items) (drop c.loop-from.cursor.at c.args.tokens.now) w.0 ∙ ap (λ n. Good (plain_funcs c.loop-from.items) (drop n c.args.tokens.now)) (sym w.1), omega (arith, w.1, c.loop-from.invariant.within))
