use Rattle.tables.proofs.InOrder.{all_rules}
use Rattle.tables.proofs.validity.valid.Goals as goal

pub returns-clause-ok : goal.returns-clause-ok
returns-clause-ok c = all_rules c.args.net.now c.args.graph.now c.args.tables.now (c.in_ok-message_rules.ensures {u = tt}).kept
