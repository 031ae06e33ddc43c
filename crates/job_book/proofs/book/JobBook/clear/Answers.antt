use Rattle.job_book.proofs.Jobs.{all_waiting}
use Rattle.job_book.proofs.book.JobBook.clear.Goals as goal

pub returns-clause-waiting : goal.returns-clause-waiting
returns-clause-waiting c = all_waiting c.reset.new.entries.items c.reset.ensures.waiting
