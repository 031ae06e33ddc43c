-- What a replica holds at the start of a cycle. This project's own.
use Rattle.std.specs.Prelude.{◌≡◌, ℕ, cond, nat_eq, slice_index, List, length, map, ℤ, None}
use Rattle.graph.specs.Cycle.{first_job}
use Rattle.graph.specs.JobGraph.{JobGraph}
use Rattle.graph.specs.declared.net.Net.{Net}
use Rattle.tables.specs.Named.{entry_at}
use Rattle.tables.specs.declared.table.Tables.{Tables}
use Rattle.job_book.specs.Known.{Book, Waiting, known_in, status_of}
use Rattle.carried_words.specs.Says.{IsBookOf}
use Rattle.replica_parts.specs.Inbox.{Taken}
use Rattle.job_inputs.specs.Look.{IsInboxOf}
use Rattle.tick_parts.specs.Takes.{AreWidths}
use Rattle.cluster_model.specs.Plan.{listed}
use Rattle.cluster_model.specs.State as status

-- the book has each job of the graph, and all wait, as in the model
pub record AreFreshJobs (net : Net) (g : JobGraph) (book : Book) : Type 0 where
  pub is_book : IsBookOf net g book
  pub wait : (job : ℕ) → known_in book job ≡ Waiting
  pub statuses : (state ins : List ℤ) → map (status_of state ins) book.jobs ≡ listed (length g.jobs) (λ job. status.Waiting)

-- the inbox has a place for each message, and nothing is taken, as in the model
pub record AreFreshMessages (net : Net) (t : Tables) (taken : Taken) : Type 0 where
  pub is_inbox : IsInboxOf net t taken
  pub widths : AreWidths net t taken.widths
  pub words : taken.words ≡ listed (length t.messages) (λ m. None)

-- how many state words a task has where it is the unit's, else 0; the tasks have so many
abbrev pub own_words : Net → JobGraph → Tables → (words : List ℕ) → (unit task : ℕ) → ℕ
own_words net g t words unit task = cond (nat_eq (entry_at t (first_job net g.cycle task)).unit unit) (slice_index words task) 0
