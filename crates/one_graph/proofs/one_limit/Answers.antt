use Rattle.one_graph.proofs.OneCycle.{one_fault}
use Rattle.one_graph.proofs.Whole.{no_graph}
use Rattle.one_graph.proofs.one_limit.Goals as goal

pub returns : goal.returns
returns c = record { one = one_fault; none = no_graph }
