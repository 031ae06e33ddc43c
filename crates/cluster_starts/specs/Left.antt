-- The states that a cycle leaves, and the room for them. This project's own.
use Rattle.std.specs.Prelude.{◌≡◌, ℕ, ◌<◌, cond, List, [], length, get_or, ℤ, slice_index, Option}
use Rattle.graph.specs.JobGraph.{JobGraph}
use Rattle.plant.specs.declared.system.Plant.{Plant}
use Rattle.tables.specs.Named.{entry_at}
use Rattle.tables.specs.declared.table.Tables.{Tables}
use Rattle.cluster_model.specs.Cluster.{is_silent}
use Rattle.cluster_model.specs.State.{state_in, Member, State}
use Rattle.cluster_seats.specs.Seats.{Seated, seat_at}

-- the state of a task after a cycle: A's where A runs, else B's where that runs, else as it was
abbrev pub left_of : (a b : Seated) → (task : ℕ) → (old : List ℤ) → List ℤ
left_of a b task old = cond (is_silent a.mode) (cond (is_silent b.mode) old (state_in b.held task)) (state_in a.held task)

-- the unit of a task: that of its first job
abbrev pub home_of : JobGraph → Tables → (task : ℕ) → ℕ
home_of g t task = (entry_at t (slice_index g.first_jobs task)).unit

-- each replica has the state words of its unit's tasks, and so has the cycle's start of all
pub record HaveRoom {P : Type 0} (plant : Plant P) (seats : List Seated) (starts : List (List ℤ)) : Type 0 where
  pub count : length starts ≡ length plant.net.tasks
  pub lists : (n : ℕ) → n < length seats → length (seat_at seats n).held.states ≡ length plant.net.tasks
  pub states : (n task : ℕ) → n < length seats → task < length plant.net.tasks → home_of plant.graph plant.tables task ≡ (seat_at seats n).unit
      → length (state_in (seat_at seats n).held task) ≡ slice_index plant.states task
  pub start : (task : ℕ) → task < length plant.net.tasks → length (get_or starts task []) ≡ slice_index plant.states task

-- a state of the cluster by its parts
abbrev pub state_with : (cycle : ℕ) → (line : Option (List ℤ)) → (start : List (List ℤ)) → List Member → State
state_with cycle line start members = record { cycle = cycle; line = line; start = start; members = members }
