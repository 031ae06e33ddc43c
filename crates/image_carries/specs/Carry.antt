-- When bytes carry a source project.
use Rattle.std.specs.Prelude.{◌≡◌, ℕ, List}
use Rattle.carries.specs.Carries.{Carries}
use Rattle.image_plant.specs.Fields.{image_bytes}
use Rattle.image_plant.specs.Image.{IsImage}
use Rattle.plant.specs.declared.system.Plant.{Plant}
use Rattle.project_source.specs.Project.{SourceProject}
use Rattle.word_code.specs.declared.code.Code.{Code}

-- the bytes are those of an image, and its plant carries the source project
pub record BytesCarry (bytes : List ℕ) (s : SourceProject) : Type 0 where
  pub plant : Plant Code
  pub is_image : IsImage plant
  pub bytes_are : bytes ≡ image_bytes plant
  pub carries : Carries plant s
