-- A project read whole, as stages.
use Rattle.std.specs.Prelude.{◌≡◌, ℕ, List, length, map}
use Rattle.std.specs.List.{All}
use Rattle.graph.specs.declared.net.Net.{Net}
use Rattle.graph.specs.JobGraph.{JobGraph}
use Rattle.graph.specs.NetGraph.{IsNetGraphFor}
use Rattle.net_graph.specs.Gives.{GraphGives}
use Rattle.plant.specs.Lengths.{lengths_of}
use Rattle.project_file.specs.Gives.{project_stage}
use Rattle.project_graph.specs.declared.read.ProjectGraph.{ProjectGraph}
use Rattle.project_net.specs.Gives.{NetGives}
use Rattle.project_reader.specs.declared.project.Project.{Project}
use Rattle.project_tasks.specs.Entries.{IsRead, entries}
use Rattle.stages.specs.Stage.{Stage, in_turn, judging, giving}
use Rattle.task_ports.specs.Ports.{ports_of}
use Rattle.task_ports.specs.declared.ports.TaskPorts.{TaskPorts}
use Rattle.task_source.specs.Built.{Built, plain_built}
use Rattle.task_source.specs.declared.built.BuiltTask.{BuiltTask}

-- a net, the graph of its jobs, and its tasks
pub record GraphedProject : Type 0 where
  pub net : Net
  pub graph : JobGraph
  pub built : List Built

abbrev pub plain_graphed : ProjectGraph → GraphedProject
plain_graphed p = record { net = p.net; graph = p.graph; built = map plain_built p.tasks }

abbrev pub ports_of_built : Built → TaskPorts
ports_of_built b = ports_of b.task

abbrev pub bound_of_built : Built → ℕ
bound_of_built b = b.maxt

abbrev pub graphed_as : Net → List Built → JobGraph → GraphedProject
graphed_as net built graph = record { net = net; graph = graph; built = built }

-- the graph of a net and its tasks
abbrev pub jobbed : List ℕ → List Built → Net → Stage GraphedProject
jobbed project built net = in_turn (judging (GraphGives project net (map bound_of_built built))) (λ graph. giving (graphed_as net built graph))

-- the net of a project's entries and tasks, and its graph
abbrev pub netted : List ℕ → Project → List Built → Stage GraphedProject
netted project entries built = in_turn (judging (NetGives project entries (map ports_of_built built))) (jobbed project built)

-- the tasks of a project's entries, and then its net and its graph
abbrev pub tasked : List ℕ → Project → Stage GraphedProject
tasked project p = in_turn (entries p.tasks) (netted project p)

-- the project's file, and then its tasks, its net and its graph
abbrev pub graphed : List ℕ → Stage GraphedProject
graphed project = in_turn (project_stage project) (tasked project)

-- A project that was read: each task is checked and has its own code and bound, there are as many as the net has, and the
-- graph is that of the net and the bounds.
pub record IsGraphed (p : ProjectGraph) : Type 0 where
  pub tasks : All IsRead p.tasks
  pub count : length p.tasks ≡ length p.net.tasks
  pub graph : IsNetGraphFor p.net (lengths_of (map (λ (b : BuiltTask). b.maxt) p.tasks) p.net.shape.cycles_per_tick) p.graph
