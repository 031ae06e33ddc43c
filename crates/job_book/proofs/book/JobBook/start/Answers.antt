use Rattle.job_book.specs.Known.{InHand}
use Rattle.job_book.proofs.Jobs.{rooms_after, jobs_after}
use Rattle.job_book.proofs.book.JobBook.start.Goals as goal

pub returns-clause-rooms : goal.returns-clause-rooms
returns-clause-rooms c = rooms_after c.self.inside.entries.items c.args.self.now c.args.job c.index_mut.result.now c.note.new.entry c.self.view_is c.index_mut.ensures.value c.note.ensures.room

pub returns-clause-jobs : goal.returns-clause-jobs
returns-clause-jobs c = jobs_after c.self.inside.entries.items c.args.self.now c.args.job c.note.new.entry InHand c.self.view_is c.note.ensures.known
