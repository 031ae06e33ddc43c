-- A project's image as bytes.
use Rattle.std.specs.Prelude.{◌≤◌, ℕ, List, length, Option, None}
use Rattle.graph.specs.declared.net.Net.{Net}
use Rattle.image_carries.specs.Carry.{BytesCarry}
use Rattle.mars_base.specs.declared.file.File.{File}
use Rattle.planned_plant.specs.Plant.{plant_of}
use Rattle.project_graph.specs.Source.{IsSourceOf}
use Rattle.project_image.specs.Gives.{ImageWithin}
use Rattle.project_plant.specs.Planned.{source_of}
use Rattle.project_tables.specs.Planned.{PlannedProject, planned}
use Rattle.stages.specs.Stage.{Stage, in_turn, judging}
use Rattle.task_source.specs.Built.{Built}

-- The files are a source project under PROJECT's name, and these bytes, at most 4,194,304, carry it.
pub record HasMade (project : List ℕ) (files : Option (List File)) (bytes : List ℕ) : Type 0 where
  pub net : Net
  pub built : List Built
  pub source : IsSourceOf files project net built
  pub short : length bytes ≤ 4194304
  pub carry : BytesCarry bytes (source_of net built)

-- the bytes of a planned project's image
abbrev pub imaged : PlannedProject → Stage (List ℕ)
imaged p = judging (ImageWithin None (plant_of p))

-- the project, its tasks, its net, its graph and its tables, and then the bytes of its image
abbrev pub imaging : (project : List ℕ) → (budget : ℕ) → Stage (List ℕ)
imaging project budget = in_turn (planned project budget) imaged
