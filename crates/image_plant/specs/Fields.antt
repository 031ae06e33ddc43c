-- The fields that say a plant, and its bytes.
use Rattle.std.specs.Prelude.{ℕ, List, [], ◌∷◌, map}
use Rattle.graph.specs.declared.net.NetTask.{NetTask}
use Rattle.graph.specs.JobGraph.{JobGraph}
use Rattle.tables.specs.declared.table.JobEntry.{JobEntry}
use Rattle.tables.specs.declared.table.Message.{Message}
use Rattle.tables.specs.Named.{job_at}
use Rattle.word_code.specs.declared.code.Code.{Code}
use Rattle.plant.specs.declared.system.Plant.{Plant}
use Rattle.image_tables.specs.declared.entries.JobPart.{JobPart}
use Rattle.image_tables.specs.declared.entries.MessagePart.{MessagePart}
use Rattle.image_tasks.specs.declared.parts.TaskPart.{TaskPart}
use Rattle.image_fields.specs.declared.parts.Parts.{Parts}
use Rattle.image_fields.specs.Image.{image}

-- a task with its greatest number of cycles and its code
abbrev pub task_part : NetTask → (maxt : ℕ) → Code → TaskPart
task_part t maxt code = record { name = t.name; transaction = t.transaction; units = t.units; maxt = maxt; code = code }

-- the tasks with theirs, in order
abbrev pub task_parts : List NetTask → List ℕ → List Code → List TaskPart
task_parts [] ms cs = []
task_parts (t ∷ ts) [] cs = []
task_parts (t ∷ ts) (m ∷ ms) [] = []
task_parts (t ∷ ts) (m ∷ ms) (c ∷ cs) = task_part t m c ∷ task_parts ts ms cs

-- an entry's job by its task and its instance
abbrev pub job_part : JobGraph → JobEntry → JobPart
job_part g e = record { task = (job_at g e.job).task; instance = (job_at g e.job).instance; unit = e.unit; start = e.start; end = e.end }

abbrev pub message_part : Message → MessagePart
message_part m = record { edge = m.edge; instance = m.instance; unit = m.unit; round = m.round; offset = m.offset }

-- the fields that say a plant
abbrev pub parts_of : Plant Code → Parts
parts_of plant = record {
  shape = plant.net.shape;
  tasks = task_parts plant.net.tasks plant.maxts plant.programs;
  transactions = plant.net.transactions;
  edges = plant.net.edges;
  sensors = plant.net.sensors;
  actuators = plant.net.actuators;
  jobs = map (job_part plant.graph) plant.tables.jobs;
  messages = map message_part plant.tables.messages;
}

-- the bytes of an image
abbrev pub image_bytes : Plant Code → List ℕ
image_bytes plant = image.writes (parts_of plant)
