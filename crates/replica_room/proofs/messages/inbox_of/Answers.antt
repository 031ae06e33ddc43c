use Rattle.std.proofs.Common.{◌∙◌}
use Rattle.replica_room.proofs.Fresh.{fresh_inbox}
use Rattle.replica_room.proofs.messages.inbox_of.Goals as goal

pub returns : goal.returns
returns c = fresh_inbox c.args.net.now c.args.tables.now c.as_slice.result.now c.new.result (c.as_slice.ensures.value ∙ c.in_ok-widths.ensures) c.new.ensures.widths c.new.ensures.count c.new.ensures.empty
