-- What the text of a run is written from beside its results: names, ticks and bounds.
use Rattle.std.specs.Prelude.{ℕ, ◌+◌, ◌==◌, ◌&&◌, Bool, List, [], length, map, filter, slice_get, Option, None, Some}
use Rattle.std.specs.List.{range_with_len, flat_map, list_any}
use Rattle.mars_base.specs.declared.shape.Side.TheVariants.{A, B}
use Rattle.script.specs.declared.script.Silence.{Silence}
use Rattle.graph.specs.JobGraph.{JobGraph}
use Rattle.graph.specs.Jobs.{job_number}
use Rattle.graph.specs.Net.{instances}
use Rattle.graph.specs.declared.net.Net.{Net}
use Rattle.graph.specs.declared.net.NetTask.{NetTask}
use Rattle.graph.specs.declared.net.Plug.{Plug}
use Rattle.cluster_model.specs.Silences.{falls}

-- a net and the graph of its jobs, the tick at which each job has ended, by its number, the greatest number of cycles of each
-- task, and the silences of a script
pub record Setting : Type 0 where
  pub net : Net
  pub graph : JobGraph
  pub ends : (job : ℕ) → ℕ
  pub maxts : List ℕ
  pub silences : List Silence

abbrev pub plug_name : Option Plug → List ℕ
plug_name None = []
plug_name (Some plug) = plug.name

abbrev pub task_name_in : Option NetTask → List ℕ
task_name_in None = []
task_name_in (Some task) = task.name

-- the task and the port of an actuator
abbrev pub plug_task : Option Plug → ℕ
plug_task None = 0
plug_task (Some plug) = plug.task

abbrev pub plug_port : Option Plug → ℕ
plug_port None = 0
plug_port (Some plug) = plug.port

-- what an actuator gets in a cycle for an instance of its task, and the tick at which it gets it
pub record Output : Type 0 where
  pub tick : ℕ
  pub actuator : ℕ
  pub instance : ℕ

module _ (s : Setting) where
  abbrev pub actuator_name : (actuator : ℕ) → List ℕ
  actuator_name actuator = plug_name (slice_get s.net.actuators actuator)

  abbrev pub actuator_task : (actuator : ℕ) → ℕ
  actuator_task actuator = plug_task (slice_get s.net.actuators actuator)

  abbrev pub actuator_port : (actuator : ℕ) → ℕ
  actuator_port actuator = plug_port (slice_get s.net.actuators actuator)

  abbrev pub name_of_task : (task : ℕ) → List ℕ
  name_of_task task = task_name_in (slice_get s.net.tasks task)

  -- the job that gives an actuator its words for an instance
  abbrev pub job_for : (actuator instance : ℕ) → ℕ
  job_for actuator instance = job_number s.net s.graph.cycle (actuator_task actuator) instance

  -- an actuator gets its words at the tick at which the job has ended
  abbrev pub tick_of : (actuator instance : ℕ) → ℕ
  tick_of actuator instance = s.ends (job_for actuator instance)

  -- the outputs of an actuator, by instance
  abbrev pub outputs_of : (actuator : ℕ) → List Output
  outputs_of actuator =
      map (λ instance. record { tick = tick_of actuator instance; actuator = actuator; instance = instance }) (range_with_len 0 (instances s.net s.graph.cycle (actuator_task actuator)))

  -- all outputs of a cycle by actuator and instance, and then by tick before these
  abbrev pub all_outputs : List Output
  all_outputs = flat_map outputs_of (range_with_len 0 (length s.net.actuators))

  abbrev pub outputs_at : (tick : ℕ) → List Output
  outputs_at tick = filter (λ (o : Output). o.tick == tick) all_outputs

  abbrev pub outputs : List Output
  outputs = flat_map outputs_at (range_with_len 0 (s.graph.cycle + 1))

  -- a unit is lost in a cycle: at some tick of it neither of its replicas runs
  abbrev pub is_lost : (cycle unit : ℕ) → Bool
  is_lost cycle unit = list_any (λ tick. falls s.silences unit A cycle tick && falls s.silences unit B cycle tick) (range_with_len 0 s.graph.cycle)

  abbrev pub some_lost : (cycle : ℕ) → Bool
  some_lost cycle = list_any (is_lost cycle) (range_with_len 0 s.net.shape.units)
