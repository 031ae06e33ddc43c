-- The keys of a project file, what each holds, and the rules for its form.
use Rattle.std.specs.Prelude.{ℕ, Bool, true, false, not, ◌&&◌, ◌||◌, List, [], ◌∷◌, codes, Option, Some, None, is_some, is_none, bytes_eq}
use Rattle.std.specs.List.{list_any, list_all}
use Rattle.toml.specs.Data.{Data, Items, no_items, item, Members, no_members, member, get_member, as_integer, as_str, as_array, as_table}
use Rattle.project_sheet.specs.declared.place.Section.{Section}
use Rattle.project_sheet.specs.declared.place.Section.TheVariants.{Top, Cluster, Task, Transaction, Edge, Sensor, Actuator}
use Rattle.project_sheet.specs.declared.form.Form.{Form}
use Rattle.project_sheet.specs.declared.form.Form.TheVariants.{Number, Text, Numbers, Texts, Entry, Entries}
use Rattle.project_sheet.specs.declared.form.Rule.{Rule}
use Rattle.project_sheet.specs.declared.form.Rule.TheVariants.{UnknownKey, MissingKey, WrongType}
use Rattle.project_sheet.specs.declared.form.Key.{Key}

-- a key of a section: its name, whether it must be there, and what it holds
pub record PlainKey : Type 0 where
  pub name : List ℕ
  pub needed : Bool
  pub form : Form

abbrev pub plain_key : Key → PlainKey
plain_key key = record { name = key.name.now; needed = key.needed; form = key.form }

abbrev pub needed : List ℕ → Form → PlainKey
needed name form = record { name = name; needed = true; form = form }

abbrev pub optional : List ℕ → Form → PlainKey
optional name form = record { name = name; needed = false; form = form }

-- the keys of each section
abbrev pub keys_of : Section → List PlainKey
keys_of Top = needed (codes "cluster") Entry ∷ needed (codes "task") Entries ∷ needed (codes "transaction") Entries
    ∷ optional (codes "edge") Entries ∷ optional (codes "sensor") Entries ∷ optional (codes "actuator") Entries ∷ []
keys_of Cluster = needed (codes "units") Number ∷ needed (codes "slot_words") Number ∷ needed (codes "precision") Number
    ∷ needed (codes "cycles_per_tick") Number ∷ optional (codes "round") Number ∷ []
keys_of Task = needed (codes "name") Text ∷ needed (codes "file") Text ∷ optional (codes "units") Numbers ∷ []
keys_of Transaction = needed (codes "name") Text ∷ needed (codes "period") Number ∷ needed (codes "deadline") Number ∷ needed (codes "tasks") Texts ∷ []
keys_of Edge = needed (codes "from") Text ∷ needed (codes "to") Text ∷ []
keys_of Sensor = needed (codes "name") Text ∷ needed (codes "to") Text ∷ []
keys_of Actuator = needed (codes "name") Text ∷ needed (codes "from") Text ∷ []

abbrev pub list_of : Items → List Data
list_of no_items = []
list_of (item d ds) = d ∷ list_of ds

-- it's an array, and each item passes the test
abbrev pub all_pass : (Data → Bool) → Option Items → Bool
all_pass test None = false
all_pass test (Some ds) = list_all test (list_of ds)

-- the value has the form
abbrev pub fits : Form → Data → Bool
fits Number d = is_some (as_integer d)
fits Text d = is_some (as_str d)
fits Numbers d = all_pass (λ e. is_some (as_integer e)) (as_array d)
fits Texts d = all_pass (λ e. is_some (as_str e)) (as_array d)
fits Entry d = is_some (as_table d)
fits Entries d = is_some (as_array d)

-- the name is one of the keys
abbrev pub is_known : List PlainKey → List ℕ → Bool
is_known keys name = list_any (λ (key : PlainKey). bytes_eq name key.name) keys

-- a key isn't one of these
abbrev pub has_unknown : List PlainKey → Members → Bool
has_unknown keys no_members = false
has_unknown keys (member name d rest) = not (is_known keys name) || has_unknown keys rest

-- the key is needed and isn't there
abbrev pub lacks : Members → PlainKey → Bool
lacks ms key = key.needed && is_none (get_member key.name ms)

abbrev pub misfit : Form → Option Data → Bool
misfit form None = false
misfit form (Some d) = not (fits form d)

-- the key is there and its value hasn't its form
abbrev pub misfits : Members → PlainKey → Bool
misfits ms key = misfit key.form (get_member key.name ms)

-- a table breaks a rule for the form of the section's entries
abbrev pub breaks_members : Rule → Section → Members → Bool
breaks_members UnknownKey section ms = has_unknown (keys_of section) ms
breaks_members MissingKey section ms = list_any (lacks ms) (keys_of section)
breaks_members WrongType section ms = list_any (misfits ms) (keys_of section)

-- what isn't a table has the wrong type
abbrev pub breaks_as : Rule → Section → Option Members → Bool
breaks_as rule section (Some ms) = breaks_members rule section ms
breaks_as WrongType section None = true
breaks_as UnknownKey section None = false
breaks_as MissingKey section None = false

-- an entry breaks a rule for its form
abbrev pub breaks : Rule → Section → Data → Bool
breaks rule section d = breaks_as rule section (as_table d)
