-- What feeds an in port, and what feeds a task.
use Rattle.std.specs.Prelude.{◌≡◌, ℕ, zero, suc, ◌==◌, ◌&&◌, List, [], ◌∷◌, ◌++◌, map, length, position, slice_get, Option, Some, None}
use Rattle.graph.specs.declared.net.Net.{Net}
use Rattle.graph.specs.declared.net.Edge.{Edge}
use Rattle.graph.specs.declared.net.Plug.{Plug}
use Rattle.graph.specs.declared.feeder.Feeder.{Feeder}
use Rattle.graph.specs.declared.feeder.Feeder.TheVariants as feeder
use Rattle.graph.specs.Net.{ins_of}

-- the edge of a number goes to the in port; the sensor of a number feeds it
pub record EdgeFeeds (net : Net) (task port number : ℕ) : Type 0 where
  pub edge : Edge
  pub stands : slice_get net.edges number ≡ Some edge
  pub to_task : edge.to_task ≡ task
  pub to_port : edge.to_port ≡ port

pub record SensorFeeds (net : Net) (task port number : ℕ) : Type 0 where
  pub sensor : Plug
  pub stands : slice_get net.sensors number ≡ Some sensor
  pub to_task : sensor.task ≡ task
  pub to_port : sensor.port ≡ port

-- it feeds the in port
abbrev pub IsFeeder : Net → (task port : ℕ) → Feeder → Type 0
IsFeeder net task port (feeder.Edge number) = EdgeFeeds net task port number
IsFeeder net task port (feeder.Sensor number) = SensorFeeds net task port number

-- it feeds the in port, and nothing else does
pub record IsOnlyFeeder (net : Net) (task port : ℕ) (f : Feeder) : Type 0 where
  pub feeds : IsFeeder net task port f
  pub only : (other : Feeder) → IsFeeder net task port other → other ≡ f

-- the number of the first edge that goes to the in port, and of the first sensor that feeds it
abbrev pub edge_to : Net → (task port : ℕ) → Option ℕ
edge_to net task port = position (λ (e : Edge). (e.to_task == task) && (e.to_port == port)) net.edges

abbrev pub sensor_to : Net → (task port : ℕ) → Option ℕ
sensor_to net task port = position (λ (s : Plug). (s.task == task) && (s.port == port)) net.sensors

abbrev pub as_sensor : Option ℕ → Option Feeder
as_sensor None = None
as_sensor (Some number) = Some (feeder.Sensor number)

abbrev pub edge_or_sensor : (edge sensor : Option ℕ) → Option Feeder
edge_or_sensor (Some number) sensor = Some (feeder.Edge number)
edge_or_sensor None sensor = as_sensor sensor

-- what feeds an in port; None where nothing does
abbrev pub feeder_of : Net → (task port : ℕ) → Option Feeder
feeder_of net task port = edge_or_sensor (edge_to net task port) (sensor_to net task port)

-- the edge that it is, as a list of one or none
abbrev pub edge_in : Option Feeder → List ℕ
edge_in None = []
edge_in (Some (feeder.Edge number)) = number ∷ []
edge_in (Some (feeder.Sensor number)) = []

-- the edges that feed the first n in ports of a task, port by port
abbrev pub edges_to_ports : Net → (task n : ℕ) → List ℕ
edges_to_ports net task zero = []
edges_to_ports net task (suc n) = edges_to_ports net task n ++ edge_in (feeder_of net task n)

-- the edges that feed the in ports of a task, port by port
abbrev pub in_edges : Net → (task : ℕ) → List ℕ
in_edges net task = edges_to_ports net task (length (ins_of net task))

abbrev pub from_task_in : Option Edge → ℕ
from_task_in None = 0
from_task_in (Some edge) = edge.from_task

-- the task that gives the words of an edge
abbrev pub from_task_of : Net → (edge : ℕ) → ℕ
from_task_of net edge = from_task_in (slice_get net.edges edge)

-- the producers of a task: the tasks whose edges feed its in ports, port by port
abbrev pub producers_of : Net → (task : ℕ) → List ℕ
producers_of net task = map (from_task_of net) (in_edges net task)
