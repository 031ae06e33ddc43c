-- What the numbers of a net name.
use Rattle.std.specs.Prelude.{◌≡◌, ℕ, ◌/◌, List, [], ◌∷◌, map, slice_get, slice_index, Option, Some, None, Any}
use Rattle.std.specs.Int.{bit_at}
use Rattle.graph.specs.declared.net.Net.{Net}
use Rattle.graph.specs.declared.net.NetTask.{NetTask}
use Rattle.graph.specs.declared.net.Transaction.{Transaction}
use Rattle.graph.specs.declared.net.Edge.{Edge}

abbrev pub task_transaction : Option NetTask → ℕ
task_transaction None = 0
task_transaction (Some task) = task.transaction

abbrev pub task_ins : Option NetTask → List ℕ
task_ins None = []
task_ins (Some task) = task.ins

abbrev pub task_outs : Option NetTask → List ℕ
task_outs None = []
task_outs (Some task) = task.outs

abbrev pub transaction_period : Option Transaction → ℕ
transaction_period None = 0
transaction_period (Some transaction) = transaction.period

abbrev pub transaction_deadline : Option Transaction → ℕ
transaction_deadline None = 0
transaction_deadline (Some transaction) = transaction.deadline

abbrev pub task_units : Option NetTask → ℕ
task_units None = 0
task_units (Some task) = task.units

-- the units that may run a task, as a mask: bit n stands for unit n
abbrev pub units_of : Net → ℕ → ℕ
units_of net task = task_units (slice_get net.tasks task)

-- the unit may run the task
abbrev pub IsAllowed : Net → (task unit : ℕ) → Type 0
IsAllowed net task unit = bit_at (units_of net task) unit ≡ 1

-- the number of a task's transaction; 0 where there is no such task
abbrev pub transaction_of : Net → ℕ → ℕ
transaction_of net task = task_transaction (slice_get net.tasks task)

-- the widths of a task's in ports, and of its out ports; none where there is no such task
abbrev pub ins_of : Net → ℕ → List ℕ
ins_of net task = task_ins (slice_get net.tasks task)

abbrev pub outs_of : Net → ℕ → List ℕ
outs_of net task = task_outs (slice_get net.tasks task)

-- how many words an edge joins: those of its out port
abbrev pub width_of : Net → Edge → ℕ
width_of net edge = slice_index (outs_of net edge.from_task) edge.from_port

-- the period and the deadline of a task: its transaction's
abbrev pub period_of : Net → ℕ → ℕ
period_of net task = transaction_period (slice_get net.transactions (transaction_of net task))

abbrev pub deadline_of : Net → ℕ → ℕ
deadline_of net task = transaction_deadline (slice_get net.transactions (transaction_of net task))

-- an edge goes from a task to a task
abbrev pub Feeds : Net → (from to : ℕ) → Type 0
Feeds net from to = Any (λ (e : Edge). (e.from_task ≡ from) × (e.to_task ≡ to)) net.edges

-- the round and the periods, of which a cycle is made
abbrev pub cycle_parts : Net → List ℕ
cycle_parts net = net.shape.round ∷ map (λ (t : Transaction). t.period) net.transactions

-- how many jobs a task has in a cycle of so many ticks
abbrev pub instances : Net → (cycle task : ℕ) → ℕ
instances net cycle task = cycle / period_of net task
