-- When a plant carries a source project.
use Rattle.std.specs.Prelude.{◌≡◌, ℕ, ℤ, List, length, map, All, slice_get, slice_index, Some}
use Rattle.graph.specs.NetGraph.{IsNetGraphFor}
use Rattle.mc_tree.specs.declared.tree.Task.{Task}
use Rattle.net_run.specs.Alike.{IsLine}
use Rattle.plant.specs.Lengths.{lengths_of}
use Rattle.plant.specs.declared.system.Plant.{Plant}
use Rattle.plant_run.specs.PlantRun.{plant_run}
use Rattle.project_source.specs.Project.{SourceProject}
use Rattle.project_source.specs.Run.{state_words, source_run}
use Rattle.tables.specs.Valid.{AreValid}
use Rattle.task_source.specs.Bound.{code_of, IsBound}
use Rattle.word_code.specs.Execution.{exec}
use Rattle.word_code.specs.Typing.{IsVerified}
use Rattle.word_code.specs.declared.code.Code.{Code}

-- each task has a bound, the greatest cycles of an unbroken free run of its code
pub record AreBounds (tasks : List Task) (maxts : List ℕ) : Type 0 where
  pub count : length maxts ≡ length tasks
  pub each : (task : ℕ) (t : Task) → slice_get tasks task ≡ Some t → IsBound t (slice_index maxts task)

-- The plant carries the source project. Its net is the project's; each task's code is the translation of the task with its
-- constants folded, has its greatest cycles as its bound, and meets the typing rules; each task has its state words; the
-- graph is the net's for the lengths of the bounds, and the tables are valid; and over every list of lines the run of
-- the plant is the run of the source, job by job and state by state.
pub record Carries (plant : Plant Code) (s : SourceProject) : Type 0 where
  pub net : plant.net ≡ s.net
  pub codes : plant.programs ≡ map code_of s.tasks
  pub bounds : AreBounds s.tasks plant.maxts
  pub typed : All IsVerified plant.programs
  pub states : plant.states ≡ state_words s.tasks
  pub graph : IsNetGraphFor plant.net (lengths_of plant.maxts plant.net.shape.cycles_per_tick) plant.graph
  pub tables : AreValid plant.net plant.graph plant.tables
  pub runs : (lines : List (List ℤ)) → All (IsLine plant.net plant.graph.cycle) lines → plant_run exec plant lines ≡ source_run s plant.graph.cycle lines
