-- Ports of a net have places in a table of 16 ports for each of 64 tasks.
use Rattle.std.specs.Prelude.{ℕ, ◌<◌, ◌≤◌, length, All}
use Rattle.graph.specs.declared.net.Net.{Net}
use Rattle.graph.specs.declared.net.Edge.{Edge}
use Rattle.graph.specs.declared.net.Plug.{Plug}
use Rattle.graph.specs.Net.{ins_of}

-- there are few tasks, each with few in ports
pub record HasFewPorts (net : Net) : Type 0 where
  pub tasks : length net.tasks ≤ 64
  pub ports : (task : ℕ) → length (ins_of net task) ≤ 16

-- and each edge goes to a port that there is, and each sensor is at one
pub record HasPlaces (net : Net) : Type 0 where
  pub few : HasFewPorts net
  pub edges : All (λ (e : Edge). e.to_port < length (ins_of net e.to_task)) net.edges
  pub sensors : All (λ (s : Plug). s.port < length (ins_of net s.task)) net.sensors
