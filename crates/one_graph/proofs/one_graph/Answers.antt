use Rattle.one_graph.proofs.Whole as whole
use Rattle.one_graph.proofs.one_graph.Goals as goal

pub returns : goal.returns
returns c net lengths = whole.one_graph net lengths
