-- That a book of jobs tells what a replica holds. This project's own.
use Rattle.std.specs.Prelude.{◌≡◌, ℕ}
use Rattle.job_book.specs.Known.{Book, known_in, given_by}
use Rattle.cluster_model.specs.State.{Held, given, status_in}

-- the book gives of each job what the replica's jobs give
abbrev pub Tells : Book → Held → Type 0
Tells book h = (job : ℕ) → given (status_in h job) ≡ given_by (known_in book job)
