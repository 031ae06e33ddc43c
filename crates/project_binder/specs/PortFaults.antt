-- The rules for the ports of a net, one for each kind of fault, and what binding a project answers.
use Rattle.std.specs.Prelude.{◌≡◌, ℕ, nat_le, ◌==◌, Bool, not, ◌||◌, List, length, slice_index}
use Rattle.graph.specs.declared.net.Net.{Net}
use Rattle.graph.specs.declared.net.Edge.{Edge}
use Rattle.graph.specs.declared.net.Plug.{Plug}
use Rattle.graph.specs.Net.{ins_of, outs_of}
use Rattle.project_sheet.specs.declared.place.Section.{Section}
use Rattle.project_sheet.specs.declared.place.Section.TheVariants.{Top, Cluster, Task, Transaction, Edge as Edges, Sensor, Actuator}
use Rattle.project_sheet.specs.declared.place.Place.{Place}
use Rattle.project_sheet.specs.declared.kind.Kind.{Kind}
use Rattle.project_sheet.specs.declared.kind.Kind.TheVariants.{UnknownKey, MissingKey, WrongType, OutOfRange, BadName, TwiceNamed, TooMany, RoundTooShort, DeadlineAbovePeriod, UnknownUnit, UnknownTask, TaskNotInTransaction, TaskInTwoTransactions, EdgeBetweenTransactions, EdgesInCircle, UnknownPort, PortNeverFed, PortFedTwice, WidthDiffers}
use Rattle.project_sheet.specs.First.{At}
use Rattle.project_sheet.specs.Kind.{IsFirst}
use Rattle.project_reader.specs.declared.project.Project.{Project}
use Rattle.port_feeds.specs.Feeds.{IsNeverFed, IsFedTwice}
use Rattle.task_ports.specs.declared.ports.TaskPorts.{TaskPorts}
use Rattle.project_binder.specs.declared.binding.BindFault.{BindFault}
use Rattle.project_binder.specs.declared.binding.BindFault.TheVariants.{Bad, Memory}
use Rattle.project_binder.specs.NetOf.{net_of}

-- ---- unknown port: the number that stands for no port of the task

abbrev pub is_edge_loose : Net → Edge → Bool
is_edge_loose net e = nat_le (length (outs_of net e.from_task)) e.from_port || nat_le (length (ins_of net e.to_task)) e.to_port

abbrev pub is_sensor_loose : Net → Plug → Bool
is_sensor_loose net s = nat_le (length (ins_of net s.task)) s.port

abbrev pub is_actuator_loose : Net → Plug → Bool
is_actuator_loose net a = nat_le (length (outs_of net a.task)) a.port

abbrev pub HasUnknownPort : Net → Section → ℕ → Type 0
HasUnknownPort net Top i = ⊥
HasUnknownPort net Cluster i = ⊥
HasUnknownPort net Task i = ⊥
HasUnknownPort net Transaction i = ⊥
HasUnknownPort net Edges i = At (is_edge_loose net) net.edges i
HasUnknownPort net Sensor i = At (is_sensor_loose net) net.sensors i
HasUnknownPort net Actuator i = At (is_actuator_loose net) net.actuators i

-- ---- port never fed, port fed twice: no edge or sensor feeds an in port of the task, or more than one does

abbrev pub AtTask : (ℕ → Type 0) → Section → ℕ → Type 0
AtTask P Top i = ⊥
AtTask P Cluster i = ⊥
AtTask P Task i = P i
AtTask P Transaction i = ⊥
AtTask P Edges i = ⊥
AtTask P Sensor i = ⊥
AtTask P Actuator i = ⊥

-- ---- width differs: an edge joins an out port and an in port of two widths

abbrev pub is_uneven : Net → Edge → Bool
is_uneven net e = not (slice_index (outs_of net e.from_task) e.from_port == slice_index (ins_of net e.to_task) e.to_port)

abbrev pub HasTwoWidths : Net → Section → ℕ → Type 0
HasTwoWidths net Top i = ⊥
HasTwoWidths net Cluster i = ⊥
HasTwoWidths net Task i = ⊥
HasTwoWidths net Transaction i = ⊥
HasTwoWidths net Edges i = At (is_uneven net) net.edges i
HasTwoWidths net Sensor i = ⊥
HasTwoWidths net Actuator i = ⊥

abbrev pub IsUnknownPort : Net → Place → Type 0
IsUnknownPort net p = HasUnknownPort net p.section p.entry

abbrev pub IsPortNeverFed : Net → Place → Type 0
IsPortNeverFed net p = AtTask (IsNeverFed net) p.section p.entry

abbrev pub IsPortFedTwice : Net → Place → Type 0
IsPortFedTwice net p = AtTask (IsFedTwice net) p.section p.entry

abbrev pub IsWidthDifferent : Net → Place → Type 0
IsWidthDifferent net p = HasTwoWidths net p.section p.entry

-- the net has a fault of this kind at this place; kinds below 17 don't speak of ports
abbrev pub BindFails : Net → Kind → Place → Type 0
BindFails net UnknownKey p = ⊥
BindFails net MissingKey p = ⊥
BindFails net WrongType p = ⊥
BindFails net OutOfRange p = ⊥
BindFails net BadName p = ⊥
BindFails net TwiceNamed p = ⊥
BindFails net TooMany p = ⊥
BindFails net RoundTooShort p = ⊥
BindFails net DeadlineAbovePeriod p = ⊥
BindFails net UnknownUnit p = ⊥
BindFails net UnknownTask p = ⊥
BindFails net TaskNotInTransaction p = ⊥
BindFails net TaskInTwoTransactions p = ⊥
BindFails net EdgeBetweenTransactions p = ⊥
BindFails net EdgesInCircle p = ⊥
BindFails net UnknownPort p = IsUnknownPort net p
BindFails net PortNeverFed p = IsPortNeverFed net p
BindFails net PortFedTwice p = IsPortFedTwice net p
BindFails net WidthDiffers p = IsWidthDifferent net p

-- the net is that of the project and of its tasks' ports, and no rule for its ports fails
pub record IsBound (project : Project) (ports : List TaskPorts) (net : Net) : Type 0 where
  pub no_fault : (kind : Kind) (place : Place) → BindFails (net_of project ports) kind place → ⊥
  pub is : net ≡ net_of project ports

-- the fault is the first of the project's net; want of memory is free
abbrev pub IsBindFaultOf : Project → List TaskPorts → BindFault → Type 0
IsBindFaultOf project ports (Bad fault) = IsFirst (BindFails (net_of project ports)) fault
IsBindFaultOf project ports Memory = Unit {0}
