use Rattle.std.proofs.Common.{rules, length, drop, arith, ap, ◌∙◌, sym}
use Rattle.mc_reader.specs.Readers.{statements, sign}
use Rattle.mc_tree.specs.declared.token.Sign.TheVariants as S
use Rattle.mc_reader.specs.Reading.{Good}
use Rattle.mc_reader.specs.Answers.{itself, after}
use Rattle.mc_tree.specs.RawPlain.{plain_stmt}
use Rattle.mc_reader.proofs.Places.{map_push}
use Rattle.mc_reader.specs.Plain.{plain_stmts, begin_by, statement_in, block_in, plain_block}
use Rattle.mc_reader.proofs.DeclarationLoop.{fault}
use Rattle.mc_reader.proofs.StatementLoop.{st_more, st_bad, st_end, form_later, not_closed}
use Rattle.mc_reader.proofs.statement.+nested.Goals as goal

pub statements-statement-requires : goal.statements-statement-requires
statements-statement-requires t c = let w = c.in-Some.ensures.reads c.args.bytes.now in (search (rules, c.decreases), (c.requires.few, (c.requires.order, (w.3, c.in-Some.ensures.inside (length c.args.bytes.now) c.requires.order))))

pub statements-loop-begin-smaller : goal.statements-loop-begin-smaller
statements-loop-begin-smaller t c =
    let w = c.in-Some.ensures.reads c.args.bytes.now in
    omega (arith, form_later c.args.bytes.now c.args.levels (begin_by c.args.bytes.now c.in-Some.begin) c.args.tokens.now c.takes_begin.new.cursor.at c.statement.new.cursor.at (plain_stmt c.in-Ok.statement) w.0 w.2 w.3 c.in-Ok.ensures.1 c.in-Ok.ensures.0, w.3, w.4, c.in-Ok.ensures.1)

pub statements-loop-begin-preserved : goal.statements-loop-begin-preserved
statements-loop-begin-preserved t c =
    let w = c.in-Some.ensures.reads c.args.bytes.now in
    record {
      within = c.in-Ok.ensures.1;
      reads = c.loop-begin.invariant.reads ∙ ap (λ l. after (plain_stmts c.loop-begin.items) (statements c.args.bytes.now c.args.levels l)) w.1
          ∙ st_more c.args.bytes.now c.args.levels (plain_stmts c.loop-begin.items) w.0 (begin_by c.args.bytes.now c.in-Some.begin) (drop c.takes_begin.new.cursor.at c.args.tokens.now) (plain_stmt c.in-Ok.statement) (drop c.statement.new.cursor.at c.args.tokens.now) w.2 c.in-Ok.ensures.0
          ∙ ap (λ xs. after xs (statements c.args.bytes.now c.args.levels (drop c.statement.new.cursor.at c.args.tokens.now))) (sym (ap plain_stmts c.in_ok-keep-in-Ok.ensures ∙ map_push plain_stmt c.loop-begin.items c.in-Ok.statement));
    }

pub statements-returns-in-Err : goal.statements-returns-in-Err
statements-returns-in-Err t c =
    let w = c.in-Some.ensures.reads c.args.bytes.now in
    fault (statement_in c.args.bytes.now c.args.levels c.in-Some.begin) (statements c.args.bytes.now c.args.levels) plain_stmt plain_stmts c.args.tokens.now c.takes_begin.new.cursor.at c.args.cursor.now.at c.statement.new.cursor.at c.statement.new.cursor.at c.in-Err.fault
    (λ rest h. c.loop-begin.invariant.reads ∙ ap (λ l. after (plain_stmts c.loop-begin.items) (statements c.args.bytes.now c.args.levels l)) w.1 ∙ st_bad c.args.bytes.now c.args.levels (plain_stmts c.loop-begin.items) w.0 (begin_by c.args.bytes.now c.in-Some.begin) (drop c.takes_begin.new.cursor.at c.args.tokens.now) rest w.2 h) c.in-Err.ensures

pub statements-returns : goal.statements-returns
statements-returns t c =
    let w = c.in_default.ensures.reads c.args.bytes.now in
    (c.loop-begin.invariant.reads ∙ st_end c.args.bytes.now c.args.levels (plain_stmts c.loop-begin.items) (drop c.loop-begin.cursor.at c.args.tokens.now) w.0 ∙ ap (λ n. Good (plain_stmts c.loop-begin.items) (drop n c.args.tokens.now)) (sym w.1), omega (arith, w.1, c.loop-begin.invariant.within))

pub braces-returns-in-Err : goal.braces-returns-in-Err
braces-returns-in-Err t c =
    fault (sign S.CloseBrace) (block_in c.args.bytes.now c.args.levels) itself plain_block c.args.tokens.now c.statements.new.cursor.at c.args.cursor.now.at c.sign-2.new.self.at c.sign-2.new.self.at c.in-Err.fault
    (λ rest h. not_closed c.args.bytes.now c.args.levels (drop c.args.cursor.now.at c.args.tokens.now) _ (drop c.sign.new.self.at c.args.tokens.now) (plain_stmts c.in_ok-items.items) (drop c.statements.new.cursor.at c.args.tokens.now) rest c.if-levels-eq0.false c.in_ok-sign.ensures.0 c.in_ok-items.ensures.0 h) c.in-Err.ensures
