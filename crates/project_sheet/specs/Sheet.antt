-- A document as plain rows. Where the rules for form hold, each row has what its entry says; what hasn't its
-- form counts as 0 or as nothing.
use Rattle.std.specs.Prelude.{ℕ, ℤ, pos, List, [], ◌∷◌, map, codes, Option, Some, None, IsUtf8}
use Rattle.toml.specs.Data.{Data, Members, get_member, as_integer, as_str, as_table}
use Rattle.project_sheet.specs.declared.place.Section.TheVariants.{Task, Transaction, Edge, Sensor, Actuator}
use Rattle.project_sheet.specs.declared.sheet.ClusterRow.{ClusterRow}
use Rattle.project_sheet.specs.declared.sheet.TaskRow.{TaskRow}
use Rattle.project_sheet.specs.declared.sheet.TransactionRow.{TransactionRow}
use Rattle.project_sheet.specs.declared.sheet.EdgeRow.{EdgeRow}
use Rattle.project_sheet.specs.declared.sheet.OutletRow.{OutletRow}
use Rattle.project_sheet.specs.declared.sheet.Sheet.{Sheet}
use Rattle.project_sheet.specs.Document.{entries_of, array_in}

abbrev pub or_zero : Option ℤ → ℤ
or_zero None = pos 0
or_zero (Some z) = z

abbrev pub or_empty : Option (List ℕ) → List ℕ
or_empty None = []
or_empty (Some s) = s

-- the number or text that a value is
abbrev pub number_in : Data → ℤ
number_in d = or_zero (as_integer d)

abbrev pub text_in : Data → List ℕ
text_in d = or_empty (as_str d)

abbrev pub number_or_zero : Option Data → ℤ
number_or_zero None = pos 0
number_or_zero (Some d) = number_in d

abbrev pub text_or_empty : Option Data → List ℕ
text_or_empty None = []
text_or_empty (Some d) = text_in d

abbrev pub maybe_number : Option Data → Option ℤ
maybe_number None = None
maybe_number (Some d) = Some (number_in d)

-- what stands at a key
abbrev pub number_at : List ℕ → Members → ℤ
number_at key ms = number_or_zero (get_member key ms)

abbrev pub text_at : List ℕ → Members → List ℕ
text_at key ms = text_or_empty (get_member key ms)

abbrev pub numbers_at : List ℕ → Members → List ℤ
numbers_at key ms = map number_in (array_in (get_member key ms))

abbrev pub texts_at : List ℕ → Members → List (List ℕ)
texts_at key ms = map text_in (array_in (get_member key ms))

abbrev pub if_there : Option Data → List ℤ → Option (List ℤ)
if_there None numbers = None
if_there (Some d) numbers = Some numbers

abbrev pub maybe_numbers : List ℕ → Members → Option (List ℤ)
maybe_numbers key ms = if_there (get_member key ms) (numbers_at key ms)

-- the rows of entries
abbrev pub task_row : Members → TaskRow
task_row ms = record { name = text_at (codes "name") ms; file = text_at (codes "file") ms; units = maybe_numbers (codes "units") ms }

abbrev pub transaction_row : Members → TransactionRow
transaction_row ms = record { name = text_at (codes "name") ms; period = number_at (codes "period") ms; deadline = number_at (codes "deadline") ms; tasks = texts_at (codes "tasks") ms }

abbrev pub edge_row : Members → EdgeRow
edge_row ms = record { from = text_at (codes "from") ms; to = text_at (codes "to") ms }

abbrev pub outlet_row : List ℕ → Members → OutletRow
outlet_row key ms = record { name = text_at (codes "name") ms; port = text_at key ms }

abbrev pub cluster_row : Members → ClusterRow
cluster_row ms = record {
  units = number_at (codes "units") ms;
  slot_words = number_at (codes "slot_words") ms;
  precision = number_at (codes "precision") ms;
  cycles_per_tick = number_at (codes "cycles_per_tick") ms;
  round = maybe_number (get_member (codes "round") ms);
}

abbrev pub no_cluster : ClusterRow
no_cluster = record { units = pos 0; slot_words = pos 0; precision = pos 0; cycles_per_tick = pos 0; round = None }

abbrev pub cluster_as : Option Members → ClusterRow
cluster_as None = no_cluster
cluster_as (Some ms) = cluster_row ms

abbrev pub cluster_in : Option Data → ClusterRow
cluster_in None = no_cluster
cluster_in (Some d) = cluster_as (as_table d)

abbrev pub cluster_of : Members → ClusterRow
cluster_of doc = cluster_in (get_member (codes "cluster") doc)

-- one more row before the others, where the entry is a table
abbrev pub add_row : {Row : Type 0} → (Members → Row) → Option Members → List Row → List Row
add_row row None rows = rows
add_row row (Some ms) rows = row ms ∷ rows

-- the rows of the entries that are tables
abbrev pub rows_of : {Row : Type 0} → (Members → Row) → List Data → List Row
rows_of row [] = []
rows_of row (d ∷ ds) = add_row row (as_table d) (rows_of row ds)

-- the rows of a document
pub record PlainSheet : Type 0 where
  pub cluster : ClusterRow
  pub tasks : List TaskRow
  pub transactions : List TransactionRow
  pub edges : List EdgeRow
  pub sensors : List OutletRow
  pub actuators : List OutletRow

abbrev pub sheet_of : Members → PlainSheet
sheet_of doc = record {
  cluster = cluster_of doc;
  tasks = rows_of task_row (entries_of doc Task);
  transactions = rows_of transaction_row (entries_of doc Transaction);
  edges = rows_of edge_row (entries_of doc Edge);
  sensors = rows_of (outlet_row (codes "to")) (entries_of doc Sensor);
  actuators = rows_of (outlet_row (codes "from")) (entries_of doc Actuator);
}

abbrev pub plain_sheet : Sheet → PlainSheet
plain_sheet s = record {
  cluster = s.cluster;
  tasks = s.tasks.items;
  transactions = s.transactions.items;
  edges = s.edges.items;
  sensors = s.sensors.items;
  actuators = s.actuators.items;
}

-- the name of the task's file is UTF-8
abbrev pub HasUtf8File : TaskRow → Type 0
HasUtf8File t = IsUtf8 t.file
