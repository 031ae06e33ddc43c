-- The eight rules of valid tables, each by its name. An entry is spoken of by its job's number, from rule 2 on under
-- rule 1. Static tables of a time-triggered system, after the Mars approach (H. Kopetz et al., IEEE Micro 9(1), 1989);
-- the rules are this project's own.
use Rattle.std.specs.Prelude.{◌≡◌, ◌≢◌, ℕ, zero, suc, ◌+◌, ◌<◌, ◌≤◌, Bool, false, not, ◌==◌, if◌then◌else◌, List, [], ◌∷◌, ◌++◌, length, map}
use Rattle.mars_base.specs.declared.shape.Side.TheVariants.{A}
use Rattle.graph.specs.declared.net.Net.{Net}
use Rattle.graph.specs.JobGraph.{JobGraph}
use Rattle.graph.specs.Net.{instances, IsAllowed}
use Rattle.tdma.specs.Layout.{Layout, slot_start_of, usable_of}
use Rattle.tables.specs.declared.table.Message.{Message}
use Rattle.tables.specs.declared.table.Tables.{Tables}
use Rattle.tables.specs.Named.{job_at, entry_at, edge_at, producer_in, consumer_in, message_at, words_of, ShareATick, ShareAWord}

-- Rule 1: there is an entry for each job, and entry i is that of job i.
pub record HasEachJob (g : JobGraph) (t : Tables) : Type 0 where
  pub count : length t.jobs ≡ length g.jobs
  pub numbers : (job : ℕ) → job < length t.jobs → (entry_at t job).job ≡ job

-- Rule 2: a job's unit is allowed to its task, and is the same for all jobs of the task.
pub record HasUnits (net : Net) (g : JobGraph) (t : Tables) : Type 0 where
  pub allowed : (job : ℕ) → job < length g.jobs → IsAllowed net (job_at g job).task (entry_at t job).unit
  pub same : (job other : ℕ) → job < length g.jobs → other < length g.jobs → (job_at g job).task ≡ (job_at g other).task → (entry_at t job).unit ≡ (entry_at t other).unit

-- Rule 3: a job's ticks are as many as its length.
abbrev pub HasLengths : JobGraph → Tables → Type 0
HasLengths g t = (job : ℕ) → job < length g.jobs → (entry_at t job).start + (job_at g job).length ≡ (entry_at t job).end

-- Rule 4: two jobs of one unit never run at one tick.
abbrev pub SharesNoTick : JobGraph → Tables → Type 0
SharesNoTick g t = (job other : ℕ) → job < length g.jobs → other < length g.jobs → job ≢ other → ShareATick (entry_at t job) (entry_at t other) → ⊥

-- Rule 5: no job starts before its release.
abbrev pub StartsAfterRelease : JobGraph → Tables → Type 0
StartsAfterRelease g t = (job : ℕ) → job < length g.jobs → (job_at g job).release ≤ (entry_at t job).start

-- Rule 6: each job ends by its deadline.
abbrev pub EndsByDeadline : JobGraph → Tables → Type 0
EndsByDeadline g t = (job : ℕ) → job < length g.jobs → (entry_at t job).end ≤ (job_at g job).deadline

-- the edge and the instance of each message
abbrev pub keys_of : List Message → List (ℕ × ℕ)
keys_of messages = map (λ (m : Message). (m.edge, m.instance)) messages

module _ (net : Net) (g : JobGraph) (t : Tables) where
  -- the units of the two jobs that an edge joins in an instance differ
  abbrev pub crosses : (edge instance : ℕ) → Bool
  crosses edge instance = not ((producer_in net g t edge instance).unit == (consumer_in net g t edge instance).unit)

  -- an edge and an instance, where its units differ
  abbrev pub key_if : (edge instance : ℕ) → List (ℕ × ℕ)
  key_if edge instance = if crosses edge instance then (edge, instance) ∷ [] else []

  -- those of an edge for an instance and so many after it, in order
  abbrev pub keys_of_edge : (edge instance left : ℕ) → List (ℕ × ℕ)
  keys_of_edge edge instance zero = []
  keys_of_edge edge instance (suc left) = key_if edge instance ++ keys_of_edge edge (instance + 1) left

  -- those of an edge and so many after it, in order
  abbrev pub keys_of_edges : (edge left : ℕ) → List (ℕ × ℕ)
  keys_of_edges edge zero = []
  keys_of_edges edge (suc left) = keys_of_edge edge 0 (instances net g.cycle (edge_at net edge).from_task) ++ keys_of_edges (edge + 1) left

-- a producer on its consumer's unit ends by the consumer's start
abbrev pub IsReadyHere : Net → JobGraph → Tables → (edge instance : ℕ) → Type 0
IsReadyHere net g t edge instance = crosses net g t edge instance ≡ false → (producer_in net g t edge instance).end ≤ (consumer_in net g t edge instance).start

-- a message goes from its producer's unit, after the producer's end, in a frame that may be used by the consumer's start
pub record IsInTime (net : Net) (g : JobGraph) (layout : Layout) (t : Tables) (m : Message) : Type 0 where
  pub unit : m.unit ≡ (producer_in net g t m.edge m.instance).unit
  pub round : m.round < layout.rounds
  pub after : (producer_in net g t m.edge m.instance).end ≤ slot_start_of layout m.round m.unit A
  pub usable : usable_of layout m.round m.unit ≤ (consumer_in net g t m.edge m.instance).start

-- Rule 7: each job gets its inputs in time. A producer on the same unit ends by the start. For exactly each edge and
-- instance whose units differ there is one message, in order of edge and instance, and it is in time.
pub record GetsInputs (net : Net) (g : JobGraph) (layout : Layout) (t : Tables) : Type 0 where
  pub here : (edge instance : ℕ) → edge < length net.edges → instance < instances net g.cycle (edge_at net edge).from_task → IsReadyHere net g t edge instance
  pub messages : keys_of t.messages ≡ keys_of_edges net g t 0 (length net.edges)
  pub in_time : (i : ℕ) → i < length t.messages → IsInTime net g layout t (message_at t i)

-- Rule 8: each message fits its frame, and two messages of one frame share no word.
pub record FitsFrames (net : Net) (layout : Layout) (t : Tables) : Type 0 where
  pub fits : (i : ℕ) → i < length t.messages → (message_at t i).offset + words_of net (message_at t i) ≤ layout.slot_words
  pub apart : (i k : ℕ) → i < length t.messages → k < length t.messages → i ≢ k → ShareAWord net (message_at t i) (message_at t k) → ⊥
