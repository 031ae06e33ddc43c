-- What stands at the places of a document, and the rules for its form.
use Rattle.std.specs.Prelude.{◌≡◌, ℕ, List, [], ◌∷◌, codes, Option, Some, None, IsUtf8}
use Rattle.toml.specs.Data.{Data, Items, Members, table, get_member, as_array, as_table}
use Rattle.toml.specs.Parse.{parse_document}
use Rattle.project_sheet.specs.declared.place.Section.{Section}
use Rattle.project_sheet.specs.declared.place.Section.TheVariants.{Top, Cluster, Task, Transaction, Edge, Sensor, Actuator}
use Rattle.project_sheet.specs.declared.place.Place.{Place}
use Rattle.project_sheet.specs.declared.form.Rule.{Rule}
use Rattle.project_sheet.specs.First.{At}
use Rattle.project_sheet.specs.Form.{list_of, breaks}

-- the bytes are UTF-8, and TOML gives them this document
pub record IsDocument (bytes : List ℕ) (doc : Members) : Type 0 where
  pub text : IsUtf8 bytes
  pub parsed : parse_document bytes ≡ Some doc

-- a table, where there is one
abbrev pub one_entry : Option Members → List Data
one_entry None = []
one_entry (Some ms) = table ms ∷ []

-- the items of an array, where there is one
abbrev pub items_in : Option Items → List Data
items_in None = []
items_in (Some ds) = list_of ds

abbrev pub table_in : Option Data → List Data
table_in None = []
table_in (Some d) = one_entry (as_table d)

abbrev pub array_in : Option Data → List Data
array_in None = []
array_in (Some d) = items_in (as_array d)

-- the entries of each section: the top and the cluster are one each; what isn't a table or an array of the
-- form that the section has gives none
abbrev pub entries_of : Members → Section → List Data
entries_of doc Top = table doc ∷ []
entries_of doc Cluster = table_in (get_member (codes "cluster") doc)
entries_of doc Task = array_in (get_member (codes "task") doc)
entries_of doc Transaction = array_in (get_member (codes "transaction") doc)
entries_of doc Edge = array_in (get_member (codes "edge") doc)
entries_of doc Sensor = array_in (get_member (codes "sensor") doc)
entries_of doc Actuator = array_in (get_member (codes "actuator") doc)

-- the entry at a place breaks a rule for its form
abbrev pub Breaks : Members → Rule → Place → Type 0
Breaks doc rule p = At (breaks rule p.section) (entries_of doc p.section) p.entry
