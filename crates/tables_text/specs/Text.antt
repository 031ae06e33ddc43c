-- The text of tables: a line for the cluster, for each task, for each job and for each message.
use Rattle.std.specs.Prelude.{ℕ, zero, suc, List, [], ◌∷◌, ◌++◌, codes, decimal, length, slice_index, slice_get, Option, Some, None}
use Rattle.mars_base.specs.declared.shape.ClusterShape.{ClusterShape}
use Rattle.graph.specs.declared.net.Net.{Net}
use Rattle.graph.specs.declared.net.NetTask.{NetTask}
use Rattle.graph.specs.Cycle.{first_job}
use Rattle.graph.specs.JobGraph.{JobGraph}
use Rattle.tables.specs.declared.table.JobEntry.{JobEntry}
use Rattle.tables.specs.declared.table.Message.{Message}
use Rattle.tables.specs.declared.table.Tables.{Tables}
use Rattle.tables.specs.Named.{job_at, entry_at}

-- the line of the cluster, from the digits of its numbers
abbrev pub cluster_text : (units slot_words precision cycles_per_tick round cycle : List ℕ) → List ℕ
cluster_text units slot_words precision cycles_per_tick round cycle =
    codes "cluster units " ++ (units ++ (codes " slot_words " ++ (slot_words ++ (codes " precision " ++ (precision
    ++ (codes " cycles_per_tick " ++ (cycles_per_tick ++ (codes " round " ++ (round ++ (codes " cycle " ++ (cycle ++ codes "\n")))))))))))

-- the line of the cluster, with the ticks of a cycle
abbrev pub cluster_line : ClusterShape → (cycle : ℕ) → List ℕ
cluster_line s cycle = cluster_text (decimal s.units) (decimal s.slot_words) (decimal s.precision) (decimal s.cycles_per_tick) (decimal s.round) (decimal cycle)

-- the line of a task: its unit is that of its first job
abbrev pub task_line : (name : List ℕ) → (unit maxt : ℕ) → List ℕ
task_line name unit maxt = codes "task " ++ (name ++ (codes " unit " ++ (decimal unit ++ (codes " maxt " ++ (decimal maxt ++ codes "\n")))))

-- the line of an entry: its job's task and instance, and where it runs
abbrev pub job_line : (name : List ℕ) → (instance : ℕ) → JobEntry → List ℕ
job_line name instance e =
    codes "job " ++ (name ++ (codes " " ++ (decimal instance ++ (codes " unit " ++ (decimal e.unit ++ (codes " start " ++ (decimal e.start ++ (codes " end " ++ (decimal e.end ++ codes "\n")))))))))

-- the line of a message, from the digits of its numbers
abbrev pub message_text : (edge instance unit round offset : List ℕ) → List ℕ
message_text edge instance unit round offset =
    codes "message " ++ (edge ++ (codes " " ++ (instance ++ (codes " unit " ++ (unit ++ (codes " round " ++ (round ++ (codes " offset " ++ (offset ++ codes "\n")))))))))

-- the line of a message
abbrev pub message_line : Message → List ℕ
message_line m = message_text (decimal m.edge) (decimal m.instance) (decimal m.unit) (decimal m.round) (decimal m.offset)

-- the name of a task; none where there is no such task
abbrev pub name_in : Option NetTask → List ℕ
name_in None = []
name_in (Some task) = task.name

abbrev pub task_name : Net → (task : ℕ) → List ℕ
task_name net task = name_in (slice_get net.tasks task)

-- the lines of a list
abbrev pub lines_of : {X : Type 0} → (line : X → List ℕ) → List X → List ℕ
lines_of line [] = []
lines_of line (x ∷ xs) = line x ++ lines_of line xs

-- the line of a task by its number
abbrev pub line_of_task : Net → JobGraph → Tables → (maxts : List ℕ) → (task : ℕ) → List ℕ
line_of_task net g t maxts task = task_line (task_name net task) (entry_at t (first_job net g.cycle task)).unit (slice_index maxts task)

-- the lines of the tasks below n
abbrev pub lines_of_tasks : Net → JobGraph → Tables → (maxts : List ℕ) → (n : ℕ) → List ℕ
lines_of_tasks net g t maxts zero = []
lines_of_tasks net g t maxts (suc task) = lines_of_tasks net g t maxts task ++ line_of_task net g t maxts task

-- the line of an entry by its job
abbrev pub line_of_job : Net → JobGraph → JobEntry → List ℕ
line_of_job net g e = job_line (task_name net (job_at g e.job).task) (job_at g e.job).instance e

-- the whole text
abbrev pub tables_text : Net → JobGraph → Tables → (maxts : List ℕ) → List ℕ
tables_text net g t maxts =
    cluster_line net.shape g.cycle
    ++ (lines_of_tasks net g t maxts (length net.tasks) ++ (lines_of (line_of_job net g) t.jobs ++ lines_of message_line t.messages))
