use Rattle.std.proofs.Common.{[], arith, refl}
use Rattle.mc_reader.specs.Plain.{at_begin_in}
use Rattle.mc_reader.proofs.Spans.{inside}
use Rattle.mc_reader.proofs.Places.{cons_at, misses_at}
use Rattle.mc_reader.proofs.StatementLoop.{begin_inside}
use Rattle.mc_reader.proofs.statement.takes_begin.Goals as goal

pub returns-in-Some-clause-reads : goal.returns-in-Some-clause-reads
returns-in-Some-clause-reads c bytes = (_, cons_at c.args.tokens.now c.args.cursor.now.at _ (omega (arith, c.if-cursor-tokens.false)), c.in-Some.ensures bytes, omega (arith, c.if-cursor-tokens.false), omega arith)

pub returns-in-Some-clause-inside : goal.returns-in-Some-clause-inside
returns-in-Some-clause-inside c end order =
    begin_inside c.args.levels end _ c.in-Some.begin (c.in-Some.ensures []) (inside 0 end c.args.tokens.now c.args.cursor.now.at _ order (omega (arith, c.if-cursor-tokens.false)))

pub returns-in-None-clause-reads : goal.returns-in-None-clause-reads
returns-in-None-clause-reads c bytes = (misses_at (at_begin_in bytes c.args.levels) c.args.tokens.now c.args.cursor.now.at _ (omega (arith, c.if-cursor-tokens.false)) (c.in-None.ensures bytes), refl)
