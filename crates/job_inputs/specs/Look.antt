-- Where a unit finds the inputs of its jobs. This project's own.
use Rattle.std.specs.Prelude.{◌≡◌, ℕ, ◌<◌, ◌==◌, ◌&&◌, Bool, cond, nat_eq, List, length, slice_index, take, ℤ, Option, Some}
use Rattle.std.specs.List.{position_or_len}
use Rattle.graph.specs.Cycle.{words_of_sensors}
use Rattle.graph.specs.Feeders.{from_task_of}
use Rattle.graph.specs.JobGraph.{JobGraph}
use Rattle.graph.specs.Jobs.{job_number}
use Rattle.graph.specs.Net.{ins_of, width_of}
use Rattle.graph.specs.declared.net.Net.{Net}
use Rattle.tables.specs.Named.{entry_at, edge_at, message_at}
use Rattle.tables.specs.declared.table.Message.{Message}
use Rattle.tables.specs.declared.table.Tables.{Tables}
use Rattle.job_book.specs.Known.{Book}
use Rattle.replica_parts.specs.Inbox.{Taken, taken_at}
use Rattle.carried_words.specs.Says.{edge_says}

-- how many words an in port has
abbrev pub width_at : Net → (task port : ℕ) → ℕ
width_at net task port = slice_index (ins_of net task) port

-- for each sensor how many words of a line stand before its own
pub record AreStarts (net : Net) (cycle : ℕ) (starts : List ℕ) : Type 0 where
  pub count : length starts ≡ length net.sensors
  pub each : (sensor : ℕ) → sensor < length net.sensors → slice_index starts sensor ≡ words_of_sensors net cycle (take sensor net.sensors)

-- the inbox has a place for each message, and what was taken there is as long as its edge is wide
pub record IsInboxOf (net : Net) (t : Tables) (taken : Taken) : Type 0 where
  pub count : length taken.words ≡ length t.messages
  pub widths : (place : ℕ) (words : List ℤ) → place < length t.messages → taken_at taken place ≡ Some words → length words ≡ width_of net (edge_at net (message_at t place).edge)

-- the message is of this edge and this instance
abbrev pub is_of : (edge instance : ℕ) → Message → Bool
is_of edge instance m = m.edge == edge && m.instance == instance

-- what a job of the unit finds on an edge: what the unit's own job has given, or what was taken
abbrev pub looked_up : Net → JobGraph → Tables → (unit : ℕ) → Book → Taken → (instance edge : ℕ) → Option (List ℤ)
looked_up net g t unit book taken instance edge =
    cond (nat_eq (entry_at t (job_number net g.cycle (from_task_of net edge) instance)).unit unit)
    (edge_says net g.cycle book edge instance)
    (taken_at taken (position_or_len (is_of edge instance) t.messages))
