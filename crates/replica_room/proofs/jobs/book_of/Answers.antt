use Rattle.std.proofs.Common.{◌∙◌}
use Rattle.replica_room.proofs.Fresh.{fresh_book}
use Rattle.replica_room.proofs.jobs.book_of.Goals as goal

pub returns : goal.returns
returns c = fresh_book c.args.net.now c.args.graph.now c.as_slice.result.now c.new.result (c.as_slice.ensures.value ∙ c.in_ok-rooms.ensures) c.new.ensures.rooms c.new.ensures.count c.new.ensures.waiting
