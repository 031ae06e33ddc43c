-- What the entries of tables name.
use Rattle.std.specs.Prelude.{◌≡◌, ℕ, ◌+◌, ◌<◌, ◌≤◌, get_or}
use Rattle.graph.specs.declared.job.Job.{Job}
use Rattle.graph.specs.declared.net.Edge.{Edge}
use Rattle.graph.specs.declared.net.Net.{Net}
use Rattle.graph.specs.JobGraph.{JobGraph}
use Rattle.graph.specs.Jobs.{job_number}
use Rattle.graph.specs.Net.{width_of}
use Rattle.tables.specs.declared.table.JobEntry.{JobEntry}
use Rattle.tables.specs.declared.table.Message.{Message}
use Rattle.tables.specs.declared.table.Tables.{Tables}

abbrev pub no_job : Job
no_job = record { task = 0; instance = 0; release = 0; deadline = 0; length = 0 }

-- the job of a number
abbrev pub job_at : JobGraph → (job : ℕ) → Job
job_at g job = get_or g.jobs job no_job

abbrev pub no_entry : JobEntry
no_entry = record { job = 0; unit = 0; start = 0; end = 0 }

-- the entry of a number
abbrev pub entry_at : Tables → (job : ℕ) → JobEntry
entry_at t job = get_or t.jobs job no_entry

abbrev pub no_message : Message
no_message = record { edge = 0; instance = 0; unit = 0; round = 0; offset = 0 }

-- the message at a place
abbrev pub message_at : Tables → (place : ℕ) → Message
message_at t place = get_or t.messages place no_message

abbrev pub no_edge : Edge
no_edge = record { from_task = 0; from_port = 0; to_task = 0; to_port = 0 }

-- the edge of a number
abbrev pub edge_at : Net → (edge : ℕ) → Edge
edge_at net edge = get_or net.edges edge no_edge

-- the entries of the two jobs that an edge joins in an instance
abbrev pub producer_in : Net → JobGraph → Tables → (edge instance : ℕ) → JobEntry
producer_in net g t edge instance = entry_at t (job_number net g.cycle (edge_at net edge).from_task instance)

abbrev pub consumer_in : Net → JobGraph → Tables → (edge instance : ℕ) → JobEntry
consumer_in net g t edge instance = entry_at t (job_number net g.cycle (edge_at net edge).to_task instance)

-- the words of a message: one that says whether it is present, and those of its edge
abbrev pub words_of : Net → Message → ℕ
words_of net m = 1 + width_of net (edge_at net m.edge)

-- a job runs at a tick
abbrev pub RunsAt : JobEntry → (tick : ℕ) → Type 0
RunsAt e tick = (e.start ≤ tick) × (tick < e.end)

-- two jobs run on one unit at one tick
pub record ShareATick (a b : JobEntry) : Type 0 where
  pub unit : a.unit ≡ b.unit
  pub together : (tick : ℕ) × RunsAt a tick × RunsAt b tick

-- a message has a word of its frame
abbrev pub HasWord : Net → Message → (word : ℕ) → Type 0
HasWord net m word = (m.offset ≤ word) × (word < m.offset + words_of net m)

-- two messages have a word of one frame
pub record ShareAWord (net : Net) (m n : Message) : Type 0 where
  pub unit : m.unit ≡ n.unit
  pub round : m.round ≡ n.round
  pub shared : (word : ℕ) × HasWord net m word × HasWord net n word
