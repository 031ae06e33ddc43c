-- The rules for the rows of a project, one for each kind of fault. Each says when a single row breaks it, or when
-- the entry of a section does.
use Rattle.std.specs.Prelude.{◌≡◌, ℕ, ◌+◌, ◌⊎◌, nat_le, ◌==◌, ℤ, pos, int_le, Bool, false, not, ◌&&◌, ◌||◌, List, [], ◌∷◌, length, take, drop, map, count_by, Option, Some, None}
use Rattle.std.specs.Ordering.{int_eq}
use Rattle.std.specs.List.{list_any, position_or_len}
use Rattle.project_sheet.specs.declared.place.Section.{Section}
use Rattle.project_sheet.specs.declared.place.Section.TheVariants.{Top, Cluster, Task, Transaction, Edge, Sensor, Actuator}
use Rattle.project_sheet.specs.declared.place.Place.{Place}
use Rattle.project_sheet.specs.declared.sheet.ClusterRow.{ClusterRow}
use Rattle.project_sheet.specs.declared.sheet.TaskRow.{TaskRow}
use Rattle.project_sheet.specs.declared.sheet.TransactionRow.{TransactionRow}
use Rattle.project_sheet.specs.declared.sheet.EdgeRow.{EdgeRow}
use Rattle.project_sheet.specs.declared.sheet.OutletRow.{OutletRow}
use Rattle.project_sheet.specs.First.{At}
use Rattle.project_sheet.specs.Sheet.{PlainSheet}
use Rattle.mars_base.specs.Name.{is_name}
use Rattle.distinct_names.specs.Repeats.{Repeats}

-- ---- out of range

abbrev pub is_within : ℕ → ℕ → ℤ → Bool
is_within low high z = int_le (pos low) z && int_le z (pos high)

abbrev pub maybe_out : ℕ → ℕ → Option ℤ → Bool
maybe_out low high None = false
maybe_out low high (Some z) = not (is_within low high z)

abbrev pub cluster_out : ClusterRow → Bool
cluster_out c = not (is_within 1 8 c.units) || not (is_within 2 64 c.slot_words) || not (is_within 1 8 c.precision)
    || not (is_within 1 10000 c.cycles_per_tick) || maybe_out 1 65536 c.round

abbrev pub units_out : Option (List ℤ) → Bool
units_out None = false
units_out (Some units) = length units == 0 || list_any (λ z. not (is_within 0 7 z)) units

abbrev pub task_out : TaskRow → Bool
task_out t = not (nat_le 1 (length t.file) && nat_le (length t.file) 255) || units_out t.units

abbrev pub transaction_out : TransactionRow → Bool
transaction_out t = not (is_within 1 65536 t.period) || not (is_within 1 65536 t.deadline)

abbrev pub OutOfRange : PlainSheet → Section → ℕ → Type 0
OutOfRange s Cluster i = At cluster_out (s.cluster ∷ []) i
OutOfRange s Task i = At task_out s.tasks i
OutOfRange s Transaction i = At transaction_out s.transactions i
OutOfRange s Top i = ⊥
OutOfRange s Edge i = ⊥
OutOfRange s Sensor i = ⊥
OutOfRange s Actuator i = ⊥

-- ---- bad name

-- the place of the first dot, or the length
abbrev pub dot_place : List ℕ → ℕ
dot_place r = position_or_len (λ b. b == 46) r

-- what stands before the first dot of a reference, and after it
abbrev pub task_half : List ℕ → List ℕ
task_half r = take (dot_place r) r

abbrev pub port_half : List ℕ → List ℕ
port_half r = drop (dot_place r + 1) r

-- two names with one dot between them
abbrev pub is_reference : List ℕ → Bool
is_reference r = is_name (task_half r) && is_name (port_half r)

abbrev pub task_misnamed : TaskRow → Bool
task_misnamed t = not (is_name t.name)

abbrev pub transaction_misnamed : TransactionRow → Bool
transaction_misnamed t = not (is_name t.name) || list_any (λ name. not (is_name name)) t.tasks

abbrev pub edge_misnamed : EdgeRow → Bool
edge_misnamed e = not (is_reference e.from) || not (is_reference e.to)

abbrev pub outlet_misnamed : OutletRow → Bool
outlet_misnamed o = not (is_name o.name) || not (is_reference o.port)

abbrev pub BadName : PlainSheet → Section → ℕ → Type 0
BadName s Top i = ⊥
BadName s Cluster i = ⊥
BadName s Task i = At task_misnamed s.tasks i
BadName s Transaction i = At transaction_misnamed s.transactions i
BadName s Edge i = At edge_misnamed s.edges i
BadName s Sensor i = At outlet_misnamed s.sensors i
BadName s Actuator i = At outlet_misnamed s.actuators i

-- ---- twice named

abbrev pub all_units : List ℕ
all_units = 0 ∷ 1 ∷ 2 ∷ 3 ∷ 4 ∷ 5 ∷ 6 ∷ 7 ∷ []

abbrev pub is_twice : List ℤ → ℕ → Bool
is_twice units u = nat_le 2 (count_by (λ z. int_eq z (pos u)) units)

abbrev pub has_unit_twice : Option (List ℤ) → Bool
has_unit_twice None = false
has_unit_twice (Some units) = list_any (is_twice units) all_units

abbrev pub unit_twice : TaskRow → Bool
unit_twice t = has_unit_twice t.units

abbrev pub TwiceNamed : PlainSheet → Section → ℕ → Type 0
TwiceNamed s Top i = ⊥
TwiceNamed s Cluster i = ⊥
TwiceNamed s Task i = Repeats (map (λ (t : TaskRow). t.name) s.tasks) i ⊎ At unit_twice s.tasks i
TwiceNamed s Transaction i = Repeats (map (λ (t : TransactionRow). t.name) s.transactions) i
TwiceNamed s Edge i = ⊥
TwiceNamed s Sensor i = Repeats (map (λ (o : OutletRow). o.name) s.sensors) i
TwiceNamed s Actuator i = Repeats (map (λ (o : OutletRow). o.name) s.actuators) i

-- ---- too many

-- the section's entry 0, where there aren't so many entries
abbrev pub Crowded : (least most entries i : ℕ) → Type 0
Crowded least most entries i = (i ≡ 0) × ((nat_le least entries && nat_le entries most) ≡ false)

abbrev pub has_no_task : TransactionRow → Bool
has_no_task t = length t.tasks == 0

abbrev pub TooMany : PlainSheet → Section → ℕ → Type 0
TooMany s Top i = ⊥
TooMany s Cluster i = ⊥
TooMany s Task i = Crowded 1 64 (length s.tasks) i
TooMany s Transaction i = Crowded 1 32 (length s.transactions) i ⊎ At has_no_task s.transactions i
TooMany s Edge i = Crowded 0 1024 (length s.edges) i
TooMany s Sensor i = Crowded 0 1024 (length s.sensors) i
TooMany s Actuator i = Crowded 0 1024 (length s.actuators) i

abbrev pub IsOutOfRange : PlainSheet → Place → Type 0
IsOutOfRange s p = OutOfRange s p.section p.entry

abbrev pub IsBadName : PlainSheet → Place → Type 0
IsBadName s p = BadName s p.section p.entry

abbrev pub IsTwiceNamed : PlainSheet → Place → Type 0
IsTwiceNamed s p = TwiceNamed s p.section p.entry

abbrev pub IsTooMany : PlainSheet → Place → Type 0
IsTooMany s p = TooMany s p.section p.entry
