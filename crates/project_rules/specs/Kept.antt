-- What a project without a fault keeps, in the words of nets: all that a net keeps but what speaks of ports.
use Rattle.std.specs.Prelude.{◌≡◌, ℕ, ◌^◌, ◌<◌, ◌≤◌, length, slice_get, Option, Some, None, All, Any}
use Rattle.mars_base.specs.Shape.{IsShape}
use Rattle.graph.specs.declared.net.Transaction.{Transaction}
use Rattle.graph.specs.Name.{AreNames}
use Rattle.graph.specs.Order.{HasNoCircle}
use Rattle.graph.specs.Rules.{IsTransaction}
use Rattle.project_reader.specs.declared.project.Project.{Project}
use Rattle.project_reader.specs.declared.project.TaskEntry.{TaskEntry}
use Rattle.project_reader.specs.declared.project.Wire.{Wire}
use Rattle.project_reader.specs.declared.project.Outlet.{Outlet}

abbrev pub entry_transaction : Option TaskEntry → ℕ
entry_transaction None = 0
entry_transaction (Some t) = t.transaction

-- the number of a task's transaction; 0 where there is no such task
abbrev pub transaction_at : Project → ℕ → ℕ
transaction_at p task = entry_transaction (slice_get p.tasks task)

-- a task has some units, all of the cluster, and a transaction
pub record IsEntry (p : Project) (t : TaskEntry) : Type 0 where
  pub some_unit : 1 ≤ t.units
  pub known_units : t.units < 2 ^ p.shape.units
  pub transaction : t.transaction < length p.transactions

-- an edge joins tasks of one transaction
pub record IsJoin (p : Project) (w : Wire) : Type 0 where
  pub from_task : w.from.task < length p.tasks
  pub to_task : w.to.task < length p.tasks
  pub transaction : transaction_at p w.from.task ≡ transaction_at p w.to.task

-- a sensor or an actuator is at a task that there is
abbrev pub IsAtTask : Project → Outlet → Type 0
IsAtTask p o = o.port.task < length p.tasks

-- no section has too many entries, and there are tasks and transactions
pub record HasFewEntries (p : Project) : Type 0 where
  pub some_task : 1 ≤ length p.tasks
  pub tasks : length p.tasks ≤ 64
  pub some_transaction : 1 ≤ length p.transactions
  pub transactions : length p.transactions ≤ 32
  pub edges : length p.edges ≤ 1024
  pub sensors : length p.sensors ≤ 1024
  pub actuators : length p.actuators ≤ 1024

-- the names in each section have their form and differ
pub record HasProjectNames (p : Project) : Type 0 where
  pub tasks : AreNames (λ (t : TaskEntry). t.name) p.tasks
  pub transactions : AreNames (λ (t : Transaction). t.name) p.transactions
  pub sensors : AreNames (λ (o : Outlet). o.name) p.sensors
  pub actuators : AreNames (λ (o : Outlet). o.name) p.actuators

-- an edge goes from a task to a task
abbrev pub Joins : Project → (from to : ℕ) → Type 0
Joins p from to = Any (λ (w : Wire). (w.from.task ≡ from) × (w.to.task ≡ to)) p.edges

-- all that a project without a fault keeps
pub record KeepsProject (p : Project) : Type 0 where
  pub shape : IsShape p.shape
  pub counts : HasFewEntries p
  pub tasks : All (IsEntry p) p.tasks
  pub transactions : All IsTransaction p.transactions
  pub used : (t : ℕ) → t < length p.transactions → Any (λ (e : TaskEntry). e.transaction ≡ t) p.tasks
  pub edges : All (IsJoin p) p.edges
  pub sensors : All (IsAtTask p) p.sensors
  pub actuators : All (IsAtTask p) p.actuators
  pub names : HasProjectNames p
  pub no_circle : HasNoCircle (Joins p)
