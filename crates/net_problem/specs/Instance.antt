-- Instances of tasks, and edges into tasks. Only the contracts of private functions cite this.
use Rattle.std.specs.Prelude.{◌≡◌, ℕ, ◌<◌, Some, slice_get, length}
use Rattle.graph.specs.declared.net.Edge.{Edge}
use Rattle.graph.specs.declared.net.Net.{Net}
use Rattle.graph.specs.JobGraph.{JobGraph}
use Rattle.graph.specs.Net.{instances}

-- the task has such an instance in a cycle
pub record IsInstance (net : Net) (g : JobGraph) (task instance : ℕ) : Type 0 where
  pub task_is : task < length net.tasks
  pub inside : instance < instances net g.cycle task

-- the edge of a number goes to the task
pub record IsIntoTask (net : Net) (task number : ℕ) : Type 0 where
  pub edge : Edge
  pub stands : slice_get net.edges number ≡ Some edge
  pub to : edge.to_task ≡ task
