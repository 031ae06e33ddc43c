use Rattle.graph.proofs.Repeats.{differ_answer}
use Rattle.graph.proofs.names.differ.Goals as goal

pub returns : goal.returns
returns g c = differ_answer g.T.Named.name_of c.args.entries.now c.in_ok-found.found c.is_none.result c.in_ok-found.ensures c.is_none.ensures
