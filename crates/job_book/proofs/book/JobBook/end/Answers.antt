use Rattle.std.proofs.Common.{sym, ◌∙◌}
use Rattle.job_book.specs.Known.{Gave}
use Rattle.job_book.proofs.Jobs.{rooms_after, jobs_after, room_at}
use Rattle.job_book.proofs.book.JobBook.end.Goals as goal

pub give-requires : goal.give-requires
give-requires c = c.requires.outs ∙ sym (room_at c.self.inside.entries.items c.args.self.now c.args.job c.index_mut.result.now c.self.view_is c.requires.job c.index_mut.ensures.value)

pub returns-clause-rooms : goal.returns-clause-rooms
returns-clause-rooms c = rooms_after c.self.inside.entries.items c.args.self.now c.args.job c.index_mut.result.now c.give.new.entry c.self.view_is c.index_mut.ensures.value c.give.ensures.room

pub returns-clause-jobs : goal.returns-clause-jobs
returns-clause-jobs c = jobs_after c.self.inside.entries.items c.args.self.now c.args.job c.give.new.entry (Gave c.args.outs.now) c.self.view_is c.give.ensures.known
