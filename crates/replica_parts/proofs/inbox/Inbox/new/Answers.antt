use Rattle.replica_parts.proofs.Entries.{all_empty}
use Rattle.replica_parts.proofs.inbox.Inbox.new.Goals as goal

pub returns-clause-empty : goal.returns-clause-empty
returns-clause-empty c = all_empty c.loop-width.entries.items c.loop-width.invariant.empty
