-- How far the tests of the rules have come. Only the contracts of private functions cite this.
use Rattle.std.specs.Prelude.{◌≡◌, ◌≢◌, ℕ, ◌+◌, ◌<◌, ◌≤◌, ◌↔◌, Bool, true, false, List, get_or}
use Rattle.mars_base.specs.declared.shape.Side.TheVariants.{A}
use Rattle.graph.specs.declared.net.Net.{Net}
use Rattle.graph.specs.Cycle.{first_job}
use Rattle.graph.specs.JobGraph.{JobGraph}
use Rattle.graph.specs.Net.{IsAllowed}
use Rattle.tdma.specs.Layout.{Layout, slot_start_of}
use Rattle.tables.specs.declared.table.JobEntry.{JobEntry}
use Rattle.tables.specs.declared.table.Message.{Message}
use Rattle.tables.specs.declared.table.Tables.{Tables}
use Rattle.tables.specs.declared.rule.TableRule.{TableRule}
use Rattle.tables.specs.Number.{number_of}
use Rattle.tables.specs.Valid.{Keeps}
use Rattle.tables.specs.Named.{job_at, entry_at, no_entry, no_message, ShareATick, ShareAWord, words_of, HasWord}

-- the tables keep the rules below a number
abbrev pub KeepsBelow : Net → JobGraph → Tables → (n : ℕ) → Type 0
KeepsBelow net g t n = (rule : TableRule) → number_of rule < n → Keeps net g t rule

-- the job's unit is allowed to its task, and is that of the task's first job
pub record IsOnUnit (net : Net) (g : JobGraph) (t : Tables) (job : ℕ) : Type 0 where
  pub allowed : IsAllowed net (job_at g job).task (entry_at t job).unit
  pub same : (entry_at t job).unit ≡ (entry_at t (first_job net g.cycle (job_at g job).task)).unit

-- the job runs with no other one of its unit, among the first n
abbrev pub IsApart : List JobEntry → (job n : ℕ) → Type 0
IsApart entries job n = (other : ℕ) → other < n → job ≢ other → ShareATick (get_or entries job no_entry) (get_or entries other no_entry) → ⊥

-- the tick at which a word of a message is on the bus, in the A slot
abbrev pub tick_in : Layout → Message → (word : ℕ) → ℕ
tick_in layout m word = slot_start_of layout m.round m.unit A + word

-- one of the first n messages has a word at the tick
pub record IsUsed (net : Net) (layout : Layout) (messages : List Message) (n tick : ℕ) : Type 0 where
  pub place : ℕ
  pub below : place < n
  pub word : ℕ
  pub has : HasWord net (get_or messages place no_message) word
  pub at_tick : tick_in layout (get_or messages place no_message) word ≡ tick

-- the ticks that are marked
abbrev pub IsMarked : List Bool → ℕ → Type 0
IsMarked marks tick = get_or marks tick false ≡ true

-- a message goes in a frame of the cycle, and fits it
pub record IsInFrame (net : Net) (layout : Layout) (m : Message) : Type 0 where
  pub round : m.round < layout.rounds
  pub unit : m.unit < layout.units
  pub fits : m.offset + words_of net m ≤ layout.slot_words

-- none of the first n messages shares a word with another, and the ticks of their words are marked
pub record AreApart (net : Net) (layout : Layout) (messages : List Message) (n : ℕ) (marks : List Bool) : Type 0 where
  pub apart : (i k : ℕ) → i < n → k < n → i ≢ k → ShareAWord net (get_or messages i no_message) (get_or messages k no_message) → ⊥
  pub marked : (tick : ℕ) → IsMarked marks tick ↔ IsUsed net layout messages n tick
