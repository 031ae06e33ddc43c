use Rattle.std.proofs.Common.{drop, ap, ◌∙◌, sym}
use Rattle.mc_reader.specs.Reading.{Bad}
use Rattle.mc_reader.specs.Readers.{at_name}
use Rattle.mc_reader.proofs.Places.{token_misses}
use Rattle.mc_reader.proofs.cursor.Cursor.name.Goals as goal

pub returns-in-None : goal.returns-in-None
returns-in-None c =
    let w = c.in-None.ensures.reads c.args.bytes.now in
    (token_misses (at_name c.args.bytes.now) (drop c.args.self.now.at c.args.tokens.now) w.0 ∙ ap (λ n. Bad (drop n c.args.tokens.now)) (sym w.1), c.takes_name.ensures.within)
