use Rattle.mc_lex.proofs.Fronts.{word_longest}
use Rattle.mc_lex.proofs.scan.word.Goals as goal

pub returns : goal.returns
returns c = rw (c.kind_of.ensures, c.word_count-len.ensures) (word_longest c.args.rest.now c.requires.some c.requires.blank c.requires.digit c.requires.first)
