use Rattle.replica_parts.proofs.Entries.{all_empty}
use Rattle.replica_parts.proofs.inbox.Inbox.clear.Goals as goal

pub returns-clause-empty : goal.returns-clause-empty
returns-clause-empty c = all_empty c.forget.new.entries.items c.forget.ensures.empty
