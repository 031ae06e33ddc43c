-- The plant and the source project of a net whose tasks were built.
use Rattle.std.specs.Prelude.{◌≡◌, ◌≤◌, ℕ, List, map, All}
use Rattle.graph.specs.JobGraph.{JobGraph}
use Rattle.graph.specs.NetGraph.{IsNetGraphFor}
use Rattle.graph.specs.declared.net.Net.{Net}
use Rattle.graph.specs.declared.net.NetTask.{NetTask}
use Rattle.mc_tree.specs.CheckedTask.{IsCheckedTask}
use Rattle.mc_tree.specs.Instance.{is_in, is_out, is_state, width_of}
use Rattle.mc_tree.specs.declared.tree.Task.{Task}
use Rattle.plant.specs.Lengths.{lengths_of}
use Rattle.plant.specs.declared.system.Plant.{Plant}
use Rattle.project_source.specs.Project.{SourceProject, source_in, widths_of}
use Rattle.tables.specs.Valid.{AreValid}
use Rattle.tables.specs.declared.table.Tables.{Tables}
use Rattle.task_source.specs.Bound.{code_of, instructions_of, IsBound}
use Rattle.task_source.specs.Built.{Built}
use Rattle.word_code.specs.declared.code.Code.{Code}

abbrev pub task_in : Built → Task
task_in b = b.task

abbrev pub maxt_in : Built → ℕ
maxt_in b = b.maxt

abbrev pub code_in : Built → Code
code_in b = code_of b.task

abbrev pub states_in : Built → ℕ
states_in b = width_of is_state b.task.cells

-- the plant: each task's program is the translation of the task with its constants folded
abbrev pub plant_in : Net → JobGraph → Tables → List Built → Plant Code
plant_in net graph tables built = record {
  net = net;
  graph = graph;
  tables = tables;
  programs = map code_in built;
  maxts = map maxt_in built;
  states = map states_in built;
}

-- the source project
abbrev pub source_of : Net → List Built → SourceProject
source_of net built = source_in net (map task_in built)

-- a task that may be run: it is checked, its code isn't too long, and its bound is the greatest cycles of its code
pub record IsRunnable (b : Built) : Type 0 where
  pub checked : IsCheckedTask b.task
  pub fits : instructions_of b.task ≤ 65535
  pub bound : IsBound b.task b.maxt
  pub low : b.maxt ≤ 2147483647

-- What keeps a plant: each task may be run and has the ports of its place in the net, the graph is the net's for the
-- lengths of the bounds, and the tables are valid.
pub record IsWhole (net : Net) (graph : JobGraph) (tables : Tables) (built : List Built) : Type 0 where
  pub runnable : All IsRunnable built
  pub ins : map (λ (t : NetTask). t.ins) net.tasks ≡ map (widths_of is_in) (map task_in built)
  pub outs : map (λ (t : NetTask). t.outs) net.tasks ≡ map (widths_of is_out) (map task_in built)
  pub is_graph : IsNetGraphFor net (lengths_of (map maxt_in built) net.shape.cycles_per_tick) graph
  pub are_valid : AreValid net graph tables
