use Rattle.std.proofs.Common.{refl}
use Rattle.std.proofs.lemmas.List.{take_rest}
use Rattle.mc_lex.proofs.Fronts.{closed_longest, open_longest}
use Rattle.mc_lex.proofs.scan.comment.Goals as goal

pub returns-in-Some : goal.returns-in-Some
returns-in-Some c =
    closed_longest c.args.rest.now _ c.in-Some.i (take_rest c.args.rest.now 2) c.requires.two c.requires.first c.requires.second c.in-Some.ensures.found.0 c.in-Some.ensures.found.1 c.in-Some.ensures.first

pub returns-in-None : goal.returns-in-None
returns-in-None c = open_longest c.args.rest.now _ (take_rest c.args.rest.now 2) c.requires.two c.requires.first c.requires.second (c.in-None.ensures.none refl)
