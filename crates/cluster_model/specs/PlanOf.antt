-- The plan of a net, the graph of its jobs and its tables, for what the tasks' programs come to and cost.
use Rattle.std.specs.Prelude.{ℕ, ◌+◌, ◌&&◌, ◌==◌, ◌++◌, if◌then◌else◌, List, [], ◌∷◌, length, slice_index, ℤ}
use Rattle.std.specs.List.{position_or_len}
use Rattle.graph.specs.Cycle.{first_job}
use Rattle.graph.specs.Feeders.{from_task_of}
use Rattle.graph.specs.JobGraph.{JobGraph}
use Rattle.graph.specs.Jobs.{job_number}
use Rattle.graph.specs.Net.{instances, width_of}
use Rattle.graph.specs.declared.net.Net.{Net}
use Rattle.graph.specs.declared.net.Plug.{Plug}
use Rattle.tables.specs.Named.{job_at, entry_at, edge_at, message_at, consumer_in}
use Rattle.tables.specs.Valid.{bus_of}
use Rattle.tables.specs.declared.table.Message.{Message}
use Rattle.tables.specs.declared.table.Tables.{Tables}
use Rattle.tdma.specs.Layout.{slot_start_of, usable_of}
use Rattle.net_run.specs.NetRun.{Execution}
use Rattle.net_run.specs.Words.{carried, job_inputs}
use Rattle.cluster_model.specs.Frame.{word_from, message_in}
use Rattle.cluster_model.specs.Plan.{Plan}

-- the numbers of the actuators that a task's outputs feed, from a number on
abbrev pub fed_by : (task : ℕ) → List Plug → (number : ℕ) → List ℕ
fed_by task [] number = []
fed_by task (plug ∷ plugs) number = (if plug.task == task then number ∷ [] else []) ++ fed_by task plugs (number + 1)

abbrev pub plan_of : Net → JobGraph → Tables → (state_words : List ℕ) → Execution → (cost : (task : ℕ) → (state ins : List ℤ) → ℕ) → Plan
plan_of net g t state_words exec cost = record {
  words = net.shape.slot_words;
  skew = net.shape.precision;
  cycle = g.cycle;
  rounds = (bus_of net g).rounds;
  units = net.shape.units;
  tasks = length net.tasks;
  jobs = length g.jobs;
  messages = length t.messages;
  task = λ job. (job_at g job).task;
  instance = λ job. (job_at g job).instance;
  unit = λ job. (entry_at t job).unit;
  starts = λ job. (entry_at t job).start;
  ends = λ job. (entry_at t job).end;
  number = job_number net g.cycle;
  instances = instances net g.cycle;
  home = λ task. (entry_at t (first_job net g.cycle task)).unit;
  state_words = slice_index state_words;
  actuators = λ task. fed_by task net.actuators 0;
  from = from_task_of net;
  carried = carried net;
  edge_of = λ m. (message_at t m).edge;
  instance_of = λ m. (message_at t m).instance;
  sender = λ m. (message_at t m).unit;
  round_of = λ m. (message_at t m).round;
  receiver = λ m. (consumer_in net g t (message_at t m).edge (message_at t m).instance).unit;
  message = λ edge instance. position_or_len (λ (m : Message). m.edge == edge && m.instance == instance) t.messages;
  slot = slot_start_of (bus_of net g);
  usable = usable_of (bus_of net g);
  frame_word = λ round unit said word. word_from net round unit said word t.messages 0;
  read = λ m frame. message_in (message_at t m).offset (width_of net (edge_at net (message_at t m).edge)) frame;
  inputs = λ line look job. job_inputs net g.cycle line look (job_at g job).instance (job_at g job).task;
  exec = exec;
  cost = cost;
}
