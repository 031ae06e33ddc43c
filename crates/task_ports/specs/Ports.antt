-- The ports of a task: its in cells and its out cells, each in declared order.
use Rattle.std.specs.Prelude.{ℕ, ◌+◌, ◌≤◌, nat_le, if◌then◌else◌, List, length, map, filter, All}
use Rattle.mars_base.specs.declared.shape.Port.{Port}
use Rattle.mc_tree.specs.declared.tree.Cell.{Cell}
use Rattle.mc_tree.specs.declared.tree.Task.{Task}
use Rattle.mc_tree.specs.Instance.{is_in, is_out}
use Rattle.graph.specs.Name.{Differ}
use Rattle.graph.specs.Rules.{IsWidth}
use Rattle.task_ports.specs.declared.ports.TaskPorts.{TaskPorts}

-- a width that fits a byte; 0 for any other
abbrev pub byte_of : ℕ → ℕ
byte_of width = if nat_le width 255 then width else 0

abbrev pub port_of : Cell → Port
port_of c = record { name = c.name; width = byte_of c.width }

-- the cells that are ports
abbrev pub ports_in : List Cell → TaskPorts
ports_in cells = record {
  ins = map port_of (filter (λ (c : Cell). is_in c.role) cells);
  outs = map port_of (filter (λ (c : Cell). is_out c.role) cells);
}

-- the ports of a task
abbrev pub ports_of : Task → TaskPorts
ports_of task = ports_in task.cells

abbrev pub PortsDiffer : List Port → Type 0
PortsDiffer ports = Differ (λ (p : Port). p.name) ports

abbrev pub HasPortWidth : Port → Type 0
HasPortWidth p = IsWidth p.width

-- at most 16 ports, each of 1 to 16 words; no two in ports have one name, and no two out ports
pub record IsTaskPorts (p : TaskPorts) : Type 0 where
  pub few : length p.ins + length p.outs ≤ 16
  pub in_widths : All HasPortWidth p.ins
  pub out_widths : All HasPortWidth p.outs
  pub ins_differ : PortsDiffer p.ins
  pub outs_differ : PortsDiffer p.outs
