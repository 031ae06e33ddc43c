-- When a net is sound.
use Rattle.std.specs.Prelude.{◌≡◌, ℕ, ◌<◌, ◌≤◌, length, All, Any}
use Rattle.graph.specs.declared.net.Net.{Net}
use Rattle.graph.specs.declared.net.NetTask.{NetTask}
use Rattle.graph.specs.declared.net.Transaction.{Transaction}
use Rattle.graph.specs.declared.net.Plug.{Plug}
use Rattle.mars_base.specs.Shape.{IsShape}
use Rattle.graph.specs.declared.feeder.Feeder.{Feeder}
use Rattle.graph.specs.Name.{AreNames}
use Rattle.graph.specs.Net.{ins_of, Feeds}
use Rattle.graph.specs.Order.{HasNoCircle}
use Rattle.graph.specs.Feeders.{IsOnlyFeeder}
use Rattle.graph.specs.Rules.{IsTask, IsTransaction, IsEdge, IsSensor, IsActuator}
use Rattle.graph.specs.Cycle.{IsWithinLimits}

-- no section has too many entries, and there are tasks and transactions
pub record HasCounts (net : Net) : Type 0 where
  pub some_task : 1 ≤ length net.tasks
  pub tasks : length net.tasks ≤ 64
  pub some_transaction : 1 ≤ length net.transactions
  pub transactions : length net.transactions ≤ 32
  pub edges : length net.edges ≤ 1024
  pub sensors : length net.sensors ≤ 1024
  pub actuators : length net.actuators ≤ 1024

-- each entry by itself is in order, and each transaction has a task
pub record HasEntries (net : Net) : Type 0 where
  pub tasks : All (IsTask net) net.tasks
  pub transactions : All IsTransaction net.transactions
  pub used : (t : ℕ) → t < length net.transactions → Any (λ (task : NetTask). task.transaction ≡ t) net.tasks
  pub edges : All (IsEdge net) net.edges
  pub sensors : All (IsSensor net) net.sensors
  pub actuators : All (IsActuator net) net.actuators

-- each in port is fed by exactly one edge or sensor
abbrev pub IsFedOnce : Net → Type 0
IsFedOnce net = (task port : ℕ) → port < length (ins_of net task) → (f : Feeder) × IsOnlyFeeder net task port f

-- the names in each section have their form and differ
pub record HasNames (net : Net) : Type 0 where
  pub tasks : AreNames (λ (t : NetTask). t.name) net.tasks
  pub transactions : AreNames (λ (t : Transaction). t.name) net.transactions
  pub sensors : AreNames (λ (s : Plug). s.name) net.sensors
  pub actuators : AreNames (λ (a : Plug). a.name) net.actuators

-- the rules that speak of entries and names
pub record KeepsEntryRules (net : Net) : Type 0 where
  pub shape : IsShape net.shape
  pub counts : HasCounts net
  pub entries : HasEntries net
  pub fed : IsFedOnce net
  pub names : HasNames net

-- the net keeps all rules, but maybe not the limits of a cycle
pub record KeepsRules (net : Net) : Type 0 where
  pub entry_rules : KeepsEntryRules net
  -- no edges go in a circle: the tasks can be ranked so that each edge goes up
  pub no_circle : HasNoCircle (Feeds net)

-- the net keeps all rules, and its cycle is within the limits
pub record IsSound (net : Net) : Type 0 where
  pub rules : KeepsRules net
  pub cycle : ℕ
  pub limits : IsWithinLimits net cycle
