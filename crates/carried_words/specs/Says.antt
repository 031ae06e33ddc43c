-- What edges and messages say, by a book of the jobs of a cycle. This project's own.
use Rattle.std.specs.Prelude.{◌≡◌, ℕ, ◌<◌, length, slice_index, sum, List, ℤ, Option}
use Rattle.graph.specs.JobGraph.{JobGraph}
use Rattle.graph.specs.Jobs.{job_number}
use Rattle.graph.specs.Net.{outs_of}
use Rattle.graph.specs.declared.net.Net.{Net}
use Rattle.tables.specs.Named.{job_at, message_at}
use Rattle.tables.specs.declared.table.Tables.{Tables}
use Rattle.net_run.specs.Words.{carried}
use Rattle.job_book.specs.Known.{Book, known_in, given_by}

-- the book has each job of the graph, with room for the words that its task gives
pub record IsBookOf (net : Net) (g : JobGraph) (book : Book) : Type 0 where
  pub jobs : length book.jobs ≡ length g.jobs
  pub rooms : (job : ℕ) → job < length g.jobs → slice_index book.rooms job ≡ sum (outs_of net (job_at g job).task)

-- the outputs that the jobs of an instance have given, by task
abbrev pub given_at : Net → (cycle : ℕ) → Book → (instance task : ℕ) → Option (List ℤ)
given_at net cycle book instance task = given_by (known_in book (job_number net cycle task instance))

-- what an edge carries in an instance
abbrev pub edge_says : Net → (cycle : ℕ) → Book → (edge instance : ℕ) → Option (List ℤ)
edge_says net cycle book edge instance = carried net (given_at net cycle book instance) edge

-- what a message says
abbrev pub said_in : Net → (cycle : ℕ) → Tables → Book → (message : ℕ) → Option (List ℤ)
said_in net cycle t book m = edge_says net cycle book (message_at t m).edge (message_at t m).instance
