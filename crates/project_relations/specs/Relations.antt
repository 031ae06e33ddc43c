-- The rules that relate the rows of a project, one for each kind of fault. Each says when the entry of a section
-- breaks it.
use Rattle.std.specs.Prelude.{ℕ, if◌then◌else◌, ◌<◌, nat_le, ◌==◌, ℤ, pos, negsuc, int_lt, int_le, Bool, true, false, not, ◌||◌, List, [], ◌∷◌, length, map, count_by, filter, position, Option, Some, None, bytes_eq}
use Rattle.std.specs.List.{list_any}
use Rattle.project_sheet.specs.declared.place.Section.{Section}
use Rattle.project_sheet.specs.declared.place.Section.TheVariants.{Top, Cluster, Task, Transaction, Edge, Sensor, Actuator}
use Rattle.project_sheet.specs.declared.place.Place.{Place}
use Rattle.project_sheet.specs.declared.sheet.ClusterRow.{ClusterRow}
use Rattle.project_sheet.specs.declared.sheet.TaskRow.{TaskRow}
use Rattle.project_sheet.specs.declared.sheet.TransactionRow.{TransactionRow}
use Rattle.project_sheet.specs.declared.sheet.EdgeRow.{EdgeRow}
use Rattle.project_sheet.specs.declared.sheet.OutletRow.{OutletRow}
use Rattle.project_relations.specs.declared.circle.Link.{Link}
use Rattle.mars_base.specs.Shape.{least_round_of}
use Rattle.project_sheet.specs.First.{At}
use Rattle.project_sheet.specs.Sheet.{PlainSheet}
use Rattle.project_rows.specs.Rules.{task_half}

-- ---- round too short

-- a number that fits a byte; 0 for any other
abbrev pub byte_of : ℤ → ℕ
byte_of (pos n) = if nat_le n 255 then n else 0
byte_of (negsuc n) = 0

-- the least round of the cluster
abbrev pub least_round_in : ClusterRow → ℕ
least_round_in c = least_round_of (byte_of c.units) (byte_of c.slot_words) (byte_of c.precision)

abbrev pub maybe_below : ℕ → Option ℤ → Bool
maybe_below n None = false
maybe_below n (Some z) = int_lt z (pos n)

abbrev pub round_short : ClusterRow → Bool
round_short c = maybe_below (least_round_in c) c.round

abbrev pub RoundTooShort : PlainSheet → Section → ℕ → Type 0
RoundTooShort s Top i = ⊥
RoundTooShort s Cluster i = At round_short (s.cluster ∷ []) i
RoundTooShort s Task i = ⊥
RoundTooShort s Transaction i = ⊥
RoundTooShort s Edge i = ⊥
RoundTooShort s Sensor i = ⊥
RoundTooShort s Actuator i = ⊥

-- ---- deadline above period

abbrev pub is_late : TransactionRow → Bool
is_late t = int_lt t.period t.deadline

abbrev pub DeadlineAbovePeriod : PlainSheet → Section → ℕ → Type 0
DeadlineAbovePeriod s Top i = ⊥
DeadlineAbovePeriod s Cluster i = ⊥
DeadlineAbovePeriod s Task i = ⊥
DeadlineAbovePeriod s Transaction i = At is_late s.transactions i
DeadlineAbovePeriod s Edge i = ⊥
DeadlineAbovePeriod s Sensor i = ⊥
DeadlineAbovePeriod s Actuator i = ⊥

-- ---- unknown unit

abbrev pub maybe_past : ℤ → Option (List ℤ) → Bool
maybe_past units None = false
maybe_past units (Some numbers) = list_any (λ z. int_le units z) numbers

abbrev pub is_elsewhere : ℤ → TaskRow → Bool
is_elsewhere units t = maybe_past units t.units

abbrev pub UnknownUnit : PlainSheet → Section → ℕ → Type 0
UnknownUnit s Top i = ⊥
UnknownUnit s Cluster i = ⊥
UnknownUnit s Task i = At (is_elsewhere s.cluster.units) s.tasks i
UnknownUnit s Transaction i = ⊥
UnknownUnit s Edge i = ⊥
UnknownUnit s Sensor i = ⊥
UnknownUnit s Actuator i = ⊥

-- ---- unknown task

abbrev pub is_task : List TaskRow → List ℕ → Bool
is_task tasks name = list_any (λ (t : TaskRow). bytes_eq t.name name) tasks

abbrev pub transaction_strays : List TaskRow → TransactionRow → Bool
transaction_strays tasks t = list_any (λ name. not (is_task tasks name)) t.tasks

abbrev pub edge_strays : List TaskRow → EdgeRow → Bool
edge_strays tasks e = not (is_task tasks (task_half e.from)) || not (is_task tasks (task_half e.to))

abbrev pub outlet_strays : List TaskRow → OutletRow → Bool
outlet_strays tasks o = not (is_task tasks (task_half o.port))

abbrev pub UnknownTask : PlainSheet → Section → ℕ → Type 0
UnknownTask s Top i = ⊥
UnknownTask s Cluster i = ⊥
UnknownTask s Task i = ⊥
UnknownTask s Transaction i = At (transaction_strays s.tasks) s.transactions i
UnknownTask s Edge i = At (edge_strays s.tasks) s.edges i
UnknownTask s Sensor i = At (outlet_strays s.tasks) s.sensors i
UnknownTask s Actuator i = At (outlet_strays s.tasks) s.actuators i

-- ---- task not in a transaction; task in two transactions, or twice in one

-- the transaction names the task
abbrev pub lists : List ℕ → TransactionRow → Bool
lists name t = list_any (bytes_eq name) t.tasks

abbrev pub lists_twice : List ℕ → TransactionRow → Bool
lists_twice name t = nat_le 2 (count_by (bytes_eq name) t.tasks)

abbrev pub is_outside : List TransactionRow → TaskRow → Bool
is_outside transactions task = not (list_any (lists task.name) transactions)

abbrev pub is_shared : List TransactionRow → TaskRow → Bool
is_shared transactions task = nat_le 2 (count_by (lists task.name) transactions) || list_any (lists_twice task.name) transactions

abbrev pub TaskNotInTransaction : PlainSheet → Section → ℕ → Type 0
TaskNotInTransaction s Top i = ⊥
TaskNotInTransaction s Cluster i = ⊥
TaskNotInTransaction s Task i = At (is_outside s.transactions) s.tasks i
TaskNotInTransaction s Transaction i = ⊥
TaskNotInTransaction s Edge i = ⊥
TaskNotInTransaction s Sensor i = ⊥
TaskNotInTransaction s Actuator i = ⊥

abbrev pub TaskInTwoTransactions : PlainSheet → Section → ℕ → Type 0
TaskInTwoTransactions s Top i = ⊥
TaskInTwoTransactions s Cluster i = ⊥
TaskInTwoTransactions s Task i = At (is_shared s.transactions) s.tasks i
TaskInTwoTransactions s Transaction i = ⊥
TaskInTwoTransactions s Edge i = ⊥
TaskInTwoTransactions s Sensor i = ⊥
TaskInTwoTransactions s Actuator i = ⊥

-- ---- edge between transactions

-- the first transaction that names the task
abbrev pub transaction_of : List TransactionRow → List ℕ → Option ℕ
transaction_of transactions name = position (lists name) transactions

abbrev pub same_number : Option ℕ → Option ℕ → Bool
same_number None None = true
same_number None (Some j) = false
same_number (Some i) None = false
same_number (Some i) (Some j) = i == j

abbrev pub is_across : List TransactionRow → EdgeRow → Bool
is_across transactions e = not (same_number (transaction_of transactions (task_half e.from)) (transaction_of transactions (task_half e.to)))

abbrev pub EdgeBetweenTransactions : PlainSheet → Section → ℕ → Type 0
EdgeBetweenTransactions s Top i = ⊥
EdgeBetweenTransactions s Cluster i = ⊥
EdgeBetweenTransactions s Task i = ⊥
EdgeBetweenTransactions s Transaction i = ⊥
EdgeBetweenTransactions s Edge i = At (is_across s.transactions) s.edges i
EdgeBetweenTransactions s Sensor i = ⊥
EdgeBetweenTransactions s Actuator i = ⊥

-- ---- edges in a circle

-- the number of the first task of a name; 0 where there is none
abbrev pub or_first : Option ℕ → ℕ
or_first None = 0
or_first (Some i) = i

abbrev pub task_number : List TaskRow → List ℕ → ℕ
task_number tasks name = or_first (position (λ (t : TaskRow). bytes_eq t.name name) tasks)

-- an edge by the numbers of its tasks
abbrev pub link_of : PlainSheet → EdgeRow → Link
link_of s e = record { from = task_number s.tasks (task_half e.from); to = task_number s.tasks (task_half e.to) }

-- the edge begins at a task of the transaction
abbrev pub belongs : PlainSheet → ℕ → EdgeRow → Bool
belongs s t e = same_number (transaction_of s.transactions (task_half e.from)) (Some t)

abbrev pub links_of : PlainSheet → ℕ → List Link
links_of s t = map (link_of s) (filter (belongs s t) s.edges)

abbrev pub AreRanked : (ℕ → ℕ) → List Link → Type 0
AreRanked rank [] = Unit {0}
AreRanked rank (l ∷ links) = (rank l.from < rank l.to) × AreRanked rank links

-- the tasks can be ranked so that each edge goes up
abbrev pub CanRank : List Link → Type 0
CanRank links = (rank : ℕ → ℕ) × AreRanked rank links

-- a transaction whose edges go in a circle: no ranks of the tasks make each go up
abbrev pub EdgesInCircle : PlainSheet → Section → ℕ → Type 0
EdgesInCircle s Top i = ⊥
EdgesInCircle s Cluster i = ⊥
EdgesInCircle s Task i = ⊥
EdgesInCircle s Transaction i = (i < length s.transactions) × (CanRank (links_of s i) → ⊥)
EdgesInCircle s Edge i = ⊥
EdgesInCircle s Sensor i = ⊥
EdgesInCircle s Actuator i = ⊥

abbrev pub IsRoundTooShort : PlainSheet → Place → Type 0
IsRoundTooShort s p = RoundTooShort s p.section p.entry

abbrev pub IsDeadlineAbovePeriod : PlainSheet → Place → Type 0
IsDeadlineAbovePeriod s p = DeadlineAbovePeriod s p.section p.entry

abbrev pub IsUnknownUnit : PlainSheet → Place → Type 0
IsUnknownUnit s p = UnknownUnit s p.section p.entry

abbrev pub IsUnknownTask : PlainSheet → Place → Type 0
IsUnknownTask s p = UnknownTask s p.section p.entry

abbrev pub IsTaskNotInTransaction : PlainSheet → Place → Type 0
IsTaskNotInTransaction s p = TaskNotInTransaction s p.section p.entry

abbrev pub IsTaskInTwoTransactions : PlainSheet → Place → Type 0
IsTaskInTwoTransactions s p = TaskInTwoTransactions s p.section p.entry

abbrev pub IsEdgeBetweenTransactions : PlainSheet → Place → Type 0
IsEdgeBetweenTransactions s p = EdgeBetweenTransactions s p.section p.entry

abbrev pub IsEdgesInCircle : PlainSheet → Place → Type 0
IsEdgesInCircle s p = EdgesInCircle s p.section p.entry
