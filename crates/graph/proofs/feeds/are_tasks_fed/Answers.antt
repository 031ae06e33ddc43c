use Rattle.std.proofs.Common.{arith}
use Rattle.graph.proofs.Answering.{yes}
use Rattle.graph.proofs.Entries.{ports_in}
use Rattle.graph.proofs.feeds.are_tasks_fed.Goals as goal

pub returns : goal.returns
returns c = yes _ (λ task port within. c.loop-task.invariant task port (let h = ports_in c.args.net.now task port within in omega arith) within)
