use Rattle.mc_lex.proofs.Fronts.{line_longest}
use Rattle.mc_lex.proofs.scan.line_comment.Goals as goal

pub returns : goal.returns
returns c = rw c.line_count.ensures (line_longest c.args.rest.now c.requires.two c.requires.first c.requires.second)
