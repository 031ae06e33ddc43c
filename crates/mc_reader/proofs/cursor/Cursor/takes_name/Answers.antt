use Rattle.std.proofs.Common.{arith, refl}
use Rattle.mc_reader.specs.Readers.{at_name}
use Rattle.mc_reader.proofs.Spans.{inside}
use Rattle.mc_reader.proofs.Places.{misses_at}
use Rattle.mc_reader.proofs.cursor.Cursor.takes_name.Goals as goal

pub returns-then-is_name-clause-inside : goal.returns-then-is_name-clause-inside
returns-then-is_name-clause-inside c end order = inside 0 end c.args.tokens.now c.args.self.now.at _ order (omega (arith, c.if-self-tokens.false))

pub returns-else-is_name-clause-reads : goal.returns-else-is_name-clause-reads
returns-else-is_name-clause-reads c bytes = (misses_at (at_name bytes) c.args.tokens.now c.args.self.now.at _ (omega (arith, c.if-self-tokens.false)) (c.if-is_name.ensures.no refl bytes), refl)
