-- The first place at which something holds: by section, and then by entry.
use Rattle.std.specs.Prelude.{◌≡◌, ℕ, min, ◌<◌, ◌≤◌, ◌⊎◌, Bool, true, List, Option, Some, None, slice_get}
use Rattle.project_sheet.specs.declared.place.Section.{Section}
use Rattle.project_sheet.specs.declared.place.Section.TheVariants.{Top, Cluster, Task, Transaction, Edge, Sensor, Actuator}
use Rattle.project_sheet.specs.declared.place.Place.{Place}
use Rattle.project_sheet.specs.declared.first.Found.{Found}

-- the order of the sections
abbrev pub number_of : Section → ℕ
number_of Top = 0
number_of Cluster = 1
number_of Task = 2
number_of Transaction = 3
number_of Edge = 4
number_of Sensor = 5
number_of Actuator = 6

-- a place is the other or comes before it: by section, and then by entry
abbrev pub IsUpTo : Place → Place → Type 0
IsUpTo p q = (number_of p.section < number_of q.section) ⊎ ((p.section ≡ q.section) × (p.entry ≤ q.entry))

-- it's the first place at which P holds; None where P holds nowhere
abbrev pub IsFirstPlace : (Place → Type 0) → Option Place → Type 0
IsFirstPlace P None = (p : Place) → P p → ⊥
IsFirstPlace P (Some p) = P p × ((q : Place) → P q → IsUpTo p q)

-- it's the least number at which P holds; None where P holds nowhere
abbrev pub LeastOf : (ℕ → Type 0) → Option ℕ → Type 0
LeastOf P None = (i : ℕ) → P i → ⊥
LeastOf P (Some i) = P i × ((j : ℕ) → P j → i ≤ j)

pub record IsLeast (P : ℕ → Type 0) (found : Option ℕ) : Type 0 where
  pub least : LeastOf P found

-- what stands at an index passes the test
pub record At {X : Type 0} (test : X → Bool) (xs : List X) (i : ℕ) : Type 0 where
  pub it : X
  pub stands : slice_get xs i ≡ Some it
  pub passes : test it ≡ true

-- the lesser of two numbers that were found
abbrev pub least_of : Option ℕ → Option ℕ → Option ℕ
least_of None b = b
least_of (Some i) None = Some i
least_of (Some i) (Some j) = Some (min i j)

-- the entry that was found in a section, or what was found in later ones
abbrev pub or_place : Section → Option ℕ → Option Place → Option Place
or_place section None later = later
or_place section (Some i) later = Some (record { section = section; entry = i })

-- the first of the places found
abbrev pub first_of : Found → Option Place
first_of f = or_place Top f.top (or_place Cluster f.cluster (or_place Task f.task (or_place Transaction f.transaction (or_place Edge f.edge (or_place Sensor f.sensor (or_place Actuator f.actuator None))))))
