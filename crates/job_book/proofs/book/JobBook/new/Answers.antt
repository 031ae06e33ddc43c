use Rattle.job_book.proofs.Jobs.{all_waiting}
use Rattle.job_book.proofs.book.JobBook.new.Goals as goal

pub returns-clause-waiting : goal.returns-clause-waiting
returns-clause-waiting c = all_waiting c.loop-room.entries.items c.loop-room.invariant.waiting
