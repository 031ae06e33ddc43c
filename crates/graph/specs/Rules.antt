-- The rules for the single entries of a net.
use Rattle.std.specs.Prelude.{◌≡◌, ℕ, ◌+◌, ◌^◌, ◌<◌, ◌≤◌, length, All, slice_index}
use Rattle.graph.specs.declared.net.Net.{Net}
use Rattle.graph.specs.declared.net.NetTask.{NetTask}
use Rattle.graph.specs.declared.net.Transaction.{Transaction}
use Rattle.graph.specs.declared.net.Edge.{Edge}
use Rattle.graph.specs.declared.net.Plug.{Plug}
use Rattle.graph.specs.Net.{transaction_of, ins_of, outs_of}

-- a port has 1 to 16 words
abbrev pub IsWidth : ℕ → Type 0
IsWidth width = (1 ≤ width) × (width ≤ 16)

-- a task has some units, all of the cluster, a transaction, and at most 16 ports
pub record IsTask (net : Net) (task : NetTask) : Type 0 where
  pub some_unit : 1 ≤ task.units
  pub known_units : task.units < 2 ^ net.shape.units
  pub transaction : task.transaction < length net.transactions
  pub ports : length task.ins + length task.outs ≤ 16
  pub in_widths : All IsWidth task.ins
  pub out_widths : All IsWidth task.outs

-- a transaction's numbers are in their limits, and its deadline is at most its period
pub record IsTransaction (t : Transaction) : Type 0 where
  pub some_period : 1 ≤ t.period
  pub period : t.period ≤ 65536
  pub some_deadline : 1 ≤ t.deadline
  pub deadline : t.deadline ≤ t.period

-- an edge joins an out port and an in port of one width, of tasks in one transaction
pub record IsEdge (net : Net) (e : Edge) : Type 0 where
  pub from_task : e.from_task < length net.tasks
  pub to_task : e.to_task < length net.tasks
  pub transaction : transaction_of net e.from_task ≡ transaction_of net e.to_task
  pub from_port : e.from_port < length (outs_of net e.from_task)
  pub to_port : e.to_port < length (ins_of net e.to_task)
  pub width : slice_index (outs_of net e.from_task) e.from_port ≡ slice_index (ins_of net e.to_task) e.to_port

-- a sensor feeds an in port of a task
pub record IsSensor (net : Net) (s : Plug) : Type 0 where
  pub task : s.task < length net.tasks
  pub port : s.port < length (ins_of net s.task)

-- an actuator is fed by an out port of a task
pub record IsActuator (net : Net) (a : Plug) : Type 0 where
  pub task : a.task < length net.tasks
  pub port : a.port < length (outs_of net a.task)
