-- The plant that fields say.
use Rattle.std.specs.Prelude.{◌≡◌, ℕ, ◌&&◌, nat_lt, List, length, map, if◌then◌else◌}
use Rattle.graph.specs.declared.net.Net.{Net}
use Rattle.graph.specs.JobGraph.{IsJobGraph}
use Rattle.graph.specs.Jobs.{job_number}
use Rattle.graph.specs.Net.{instances}
use Rattle.graph.specs.NetGraph.{IsNetGraphFor}
use Rattle.tables.specs.declared.table.JobEntry.{JobEntry}
use Rattle.tables.specs.declared.table.Message.{Message}
use Rattle.tables.specs.declared.table.Tables.{Tables}
use Rattle.word_code.specs.declared.code.Code.{Code}
use Rattle.plant.specs.declared.system.Plant.{Plant}
use Rattle.plant.specs.Lengths.{lengths_of}
use Rattle.image_tables.specs.declared.entries.JobPart.{JobPart}
use Rattle.image_tables.specs.declared.entries.MessagePart.{MessagePart}
use Rattle.image_fields.specs.declared.parts.Parts.{Parts}
use Rattle.image_sides.specs.Sides.{net_task, code_of, maxt_of, state_words}

-- the net
abbrev pub net_of : Parts → Net
net_of p = record { shape = p.shape; tasks = map net_task p.tasks; transactions = p.transactions; edges = p.edges; sensors = p.sensors; actuators = p.actuators }

-- the codes, and the greatest numbers of cycles
abbrev pub codes_of : Parts → List Code
codes_of p = map code_of p.tasks

abbrev pub maxts_of : Parts → List ℕ
maxts_of p = map maxt_of p.tasks

-- the number of the job of a task and an instance; 65,535, which is no job's, where there is none
abbrev pub number_in : Net → (cycle task instance : ℕ) → ℕ
number_in net cycle task instance = if nat_lt task (length net.tasks) && nat_lt instance (instances net cycle task) then job_number net cycle task instance else 65535

abbrev pub entry_of : Net → (cycle : ℕ) → JobPart → JobEntry
entry_of net cycle p = record { job = number_in net cycle p.task p.instance; unit = p.unit; start = p.start; end = p.end }

abbrev pub message_of : MessagePart → Message
message_of p = record { edge = p.edge; instance = p.instance; unit = p.unit; round = p.round; offset = p.offset }

-- the tables, for a net and a cycle of so many ticks
abbrev pub tables_of : Net → (cycle : ℕ) → Parts → Tables
tables_of net cycle p = record { jobs = map (entry_of net cycle) p.jobs; messages = map message_of p.messages }

-- the fields say this plant
pub record IsSaid (p : Parts) (plant : Plant Code) : Type 0 where
  pub net : plant.net ≡ net_of p
  pub programs : plant.programs ≡ codes_of p
  pub maxts : plant.maxts ≡ maxts_of p
  pub states : plant.states ≡ map state_words (codes_of p)
  pub graph : IsNetGraphFor (net_of p) (lengths_of (maxts_of p) p.shape.cycles_per_tick) plant.graph
  pub whole : IsJobGraph plant.graph
  pub tables : plant.tables ≡ tables_of (net_of p) plant.graph.cycle p
