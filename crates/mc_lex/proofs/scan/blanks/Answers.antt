use Rattle.mc_lex.proofs.Fronts.{blank_longest}
use Rattle.mc_lex.proofs.scan.blanks.Goals as goal

pub returns : goal.returns
returns c = rw c.blank_count.ensures (blank_longest c.args.rest.now c.requires.some c.requires.first)
