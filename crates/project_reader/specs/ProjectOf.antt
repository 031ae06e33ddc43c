-- The project that rows give: tasks and transactions by number. Where a number or a name hasn't its form it counts
-- as 0; a project without a fault has no such number.
use Rattle.std.specs.Prelude.{ℕ, nat_le, ℤ, pos, negsuc, if◌then◌else◌, List, map, Option, Some, None, IsUtf8}
use Rattle.mars_base.specs.declared.shape.ClusterShape.{ClusterShape}
use Rattle.graph.specs.declared.net.Transaction.{Transaction}
use Rattle.project_sheet.specs.declared.sheet.ClusterRow.{ClusterRow}
use Rattle.project_sheet.specs.declared.sheet.TaskRow.{TaskRow}
use Rattle.project_sheet.specs.declared.sheet.TransactionRow.{TransactionRow}
use Rattle.project_sheet.specs.declared.sheet.EdgeRow.{EdgeRow}
use Rattle.project_sheet.specs.declared.sheet.OutletRow.{OutletRow}
use Rattle.project_sheet.specs.Sheet.{PlainSheet}
use Rattle.project_rows.specs.Rules.{task_half, port_half}
use Rattle.project_relations.specs.Relations.{byte_of, least_round_in, transaction_of, task_number}
use Rattle.project_reader.specs.declared.project.Project.{Project}
use Rattle.project_reader.specs.declared.project.TaskEntry.{TaskEntry}
use Rattle.project_reader.specs.declared.project.PortRef.{PortRef}
use Rattle.project_reader.specs.declared.project.Wire.{Wire}
use Rattle.project_reader.specs.declared.project.Outlet.{Outlet}
use Rattle.project_reader.specs.Mask.{mask_below}

-- a number that fits one, two or four bytes; 0 for any other
abbrev pub small_of : ℕ → ℕ
small_of n = if nat_le n 255 then n else 0

abbrev pub half_of : ℤ → ℕ
half_of (pos n) = if nat_le n 65535 then n else 0
half_of (negsuc n) = 0

abbrev pub word_of : ℤ → ℕ
word_of (pos n) = if nat_le n 4294967295 then n else 0
word_of (negsuc n) = 0

-- the round that is given, or else the least round
abbrev pub round_of : ClusterRow → Option ℤ → ℕ
round_of c None = least_round_in c
round_of c (Some z) = word_of z

abbrev pub shape_of : ClusterRow → ClusterShape
shape_of c = record { units = byte_of c.units; slot_words = byte_of c.slot_words; precision = byte_of c.precision; cycles_per_tick = half_of c.cycles_per_tick; round = round_of c c.round }

abbrev pub small_or_zero : Option ℕ → ℕ
small_or_zero None = 0
small_or_zero (Some n) = small_of n

-- a task with the mask of its units and the number of its transaction
abbrev pub task_entry : PlainSheet → TaskRow → TaskEntry
task_entry s t = record { name = t.name; file = t.file; units = mask_below (byte_of s.cluster.units) t.units 8; transaction = small_or_zero (transaction_of s.transactions t.name) }

abbrev pub transaction_entry : TransactionRow → Transaction
transaction_entry t = record { name = t.name; period = word_of t.period; deadline = word_of t.deadline }

-- a reference, with the number of its task
abbrev pub port_ref : PlainSheet → List ℕ → PortRef
port_ref s r = record { task = small_of (task_number s.tasks (task_half r)); port = port_half r }

abbrev pub wire_of : PlainSheet → EdgeRow → Wire
wire_of s e = record { from = port_ref s e.from; to = port_ref s e.to }

abbrev pub outlet_of : PlainSheet → OutletRow → Outlet
outlet_of s o = record { name = o.name; port = port_ref s o.port }

abbrev pub project_of : PlainSheet → Project
project_of s = record {
  shape = shape_of s.cluster;
  tasks = map (task_entry s) s.tasks;
  transactions = map transaction_entry s.transactions;
  edges = map (wire_of s) s.edges;
  sensors = map (outlet_of s) s.sensors;
  actuators = map (outlet_of s) s.actuators;
}

-- the name of the task's file is UTF-8
abbrev pub IsNamedInUtf8 : TaskEntry → Type 0
IsNamedInUtf8 t = IsUtf8 t.file
