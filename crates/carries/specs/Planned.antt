-- A plant that is planned from a source project.
use Rattle.std.specs.Prelude.{◌≡◌, ℕ, ◌≤◌, map, slice_get, Some}
use Rattle.graph.specs.NetGraph.{IsNetGraphFor}
use Rattle.mc_tree.specs.declared.tree.Task.{Task}
use Rattle.plant.specs.Lengths.{lengths_of}
use Rattle.plant.specs.declared.system.Plant.{Plant}
use Rattle.project_source.specs.Project.{SourceProject}
use Rattle.project_source.specs.Run.{state_words}
use Rattle.tables.specs.Valid.{AreValid}
use Rattle.task_source.specs.Bound.{code_of, instructions_of}
use Rattle.word_code.specs.declared.code.Code.{Code}
use Rattle.carries.specs.Carries.{AreBounds}

-- What a plan of a source project gives, before anything is known of runs: each code is short.
pub record IsPlannedFrom (s : SourceProject) (plant : Plant Code) : Type 0 where
  pub net : plant.net ≡ s.net
  pub codes : plant.programs ≡ map code_of s.tasks
  pub short : (task : ℕ) (t : Task) → slice_get s.tasks task ≡ Some t → instructions_of t ≤ 65535
  pub bounds : AreBounds s.tasks plant.maxts
  pub states : plant.states ≡ state_words s.tasks
  pub graph : IsNetGraphFor plant.net (lengths_of plant.maxts plant.net.shape.cycles_per_tick) plant.graph
  pub tables : AreValid plant.net plant.graph plant.tables
