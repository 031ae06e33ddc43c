-- When a unit has to do with the entries of its tables, each by the number under which it is looked up. This project's own.
use Rattle.std.specs.Prelude.{◌≡◌, ℕ, ◌==◌, if◌then◌else◌, List, length, map}
use Rattle.graph.specs.declared.net.Net.{Net}
use Rattle.graph.specs.JobGraph.{JobGraph}
use Rattle.graph.specs.Jobs.{job_number}
use Rattle.tdma.specs.Layout.{Layout, usable_of}
use Rattle.tables.specs.declared.table.JobEntry.{JobEntry}
use Rattle.tables.specs.declared.table.Message.{Message}
use Rattle.tables.specs.declared.table.Tables.{Tables}
use Rattle.tables.specs.Named.{edge_at, consumer_in}
use Rattle.tables.specs.Valid.{bus_of}
use Rattle.agenda.specs.Due.{Agenda}

-- the tick at which the unit starts a job; the cycle's length where the job is another unit's
abbrev pub start_of : JobGraph → (unit : ℕ) → JobEntry → ℕ
start_of g unit e = if e.unit == unit then e.start else g.cycle

-- the tick from which on the unit takes a message; the cycle's length where it is for another unit
abbrev pub arrival_of : Net → JobGraph → Tables → (unit : ℕ) → Message → ℕ
arrival_of net g t unit m = if (consumer_in net g t m.edge m.instance).unit == unit then usable_of (bus_of net g) m.round m.unit else g.cycle

-- the round in whose frame the unit sends a message; the number of rounds where another unit sends it
abbrev pub sending_of : Layout → (unit : ℕ) → Message → ℕ
sending_of layout unit m = if m.unit == unit then m.round else layout.rounds

-- the number of the job for which a message is
abbrev pub feed_of : Net → JobGraph → Message → ℕ
feed_of net g m = job_number net g.cycle (edge_at net m.edge).to_task m.instance

-- the starts of a unit's jobs by tick, the arrivals of messages by tick, the messages that it sends by round, and all
-- messages by the job for which they are
abbrev pub starts_in : JobGraph → Tables → (unit : ℕ) → Agenda
starts_in g t unit = record { numbers = g.cycle; due = map (start_of g unit) t.jobs }

abbrev pub arrivals_in : Net → JobGraph → Tables → (unit : ℕ) → Agenda
arrivals_in net g t unit = record { numbers = g.cycle; due = map (arrival_of net g t unit) t.messages }

abbrev pub sendings_in : Net → JobGraph → Tables → (unit : ℕ) → Agenda
sendings_in net g t unit = record { numbers = (bus_of net g).rounds; due = map (sending_of (bus_of net g) unit) t.messages }

abbrev pub feeds_in : Net → JobGraph → Tables → Agenda
feeds_in net g t = record { numbers = length g.jobs; due = map (feed_of net g) t.messages }
