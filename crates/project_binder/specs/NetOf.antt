-- The net of a project whose tasks have these ports.
use Rattle.std.specs.Prelude.{ℕ, List, [], ◌∷◌, map, slice_get, Option, Some, None, bytes_eq}
use Rattle.std.specs.List.{position_or_len}
use Rattle.mars_base.specs.declared.shape.Port.{Port}
use Rattle.graph.specs.declared.net.Net.{Net}
use Rattle.graph.specs.declared.net.NetTask.{NetTask}
use Rattle.graph.specs.declared.net.Edge.{Edge}
use Rattle.graph.specs.declared.net.Plug.{Plug}
use Rattle.project_reader.specs.declared.project.Project.{Project}
use Rattle.project_reader.specs.declared.project.TaskEntry.{TaskEntry}
use Rattle.project_reader.specs.declared.project.Wire.{Wire}
use Rattle.project_reader.specs.declared.project.Outlet.{Outlet}
use Rattle.task_ports.specs.declared.ports.TaskPorts.{TaskPorts}

-- the number of the first port of a name; where none has it the number of ports, which no port has
abbrev pub port_number : List Port → (name : List ℕ) → ℕ
port_number ports name = position_or_len (λ (p : Port). bytes_eq p.name name) ports

abbrev pub widths_of : List Port → List ℕ
widths_of ports = map (λ (p : Port). p.width) ports

abbrev pub ins_in : Option TaskPorts → List Port
ins_in None = []
ins_in (Some p) = p.ins

abbrev pub outs_in : Option TaskPorts → List Port
outs_in None = []
outs_in (Some p) = p.outs

-- the in ports and the out ports of the task with a number
abbrev pub ins_at : List TaskPorts → (task : ℕ) → List Port
ins_at ports task = ins_in (slice_get ports task)

abbrev pub outs_at : List TaskPorts → (task : ℕ) → List Port
outs_at ports task = outs_in (slice_get ports task)

abbrev pub net_task : TaskEntry → TaskPorts → NetTask
net_task t p = record { name = t.name; transaction = t.transaction; units = t.units; ins = widths_of p.ins; outs = widths_of p.outs }

-- each task with its ports
abbrev pub net_tasks : List TaskEntry → List TaskPorts → List NetTask
net_tasks [] ps = []
net_tasks (t ∷ ts) [] = []
net_tasks (t ∷ ts) (p ∷ ps) = net_task t p ∷ net_tasks ts ps

abbrev pub edge_of : List TaskPorts → Wire → Edge
edge_of ports w = record {
  from_task = w.from.task;
  from_port = port_number (outs_at ports w.from.task) w.from.port;
  to_task = w.to.task;
  to_port = port_number (ins_at ports w.to.task) w.to.port;
}

abbrev pub sensor_of : List TaskPorts → Outlet → Plug
sensor_of ports o = record { name = o.name; task = o.port.task; port = port_number (ins_at ports o.port.task) o.port.port }

abbrev pub actuator_of : List TaskPorts → Outlet → Plug
actuator_of ports o = record { name = o.name; task = o.port.task; port = port_number (outs_at ports o.port.task) o.port.port }

-- the project's numbers and names, with ports by number
abbrev pub net_of : Project → List TaskPorts → Net
net_of p ports = record {
  shape = p.shape;
  tasks = net_tasks p.tasks ports;
  transactions = p.transactions;
  edges = map (edge_of ports) p.edges;
  sensors = map (sensor_of ports) p.sensors;
  actuators = map (actuator_of ports) p.actuators;
}
