-- What `show` came to, by the bytes of its file alone.
use Rattle.std.specs.Prelude.{◌≡◌, ◌⊎◌, ℕ, List, Option, Some}
use Rattle.std.specs.Io.KnownBytes.{append_known}
use Rattle.image.specs.Faults.{IsFirstFaultOf}
use Rattle.image.specs.declared.decoding.ImageFault.{ImageFault}
use Rattle.image_plant.specs.Fields.{image_bytes}
use Rattle.image_plant.specs.Image.{IsImage}
use Rattle.mars_base.specs.Outside.{file_at}
use Rattle.mars_base.specs.declared.file.File.{File}
use Rattle.plant.specs.declared.system.Plant.{Plant}
use Rattle.show_command.specs.Show.{text_of}
use Rattle.word_code.specs.declared.code.Code.{Code}

-- the statuses of a file that was judged
abbrev pub IsShowStatus : ℕ → Type 0
IsShowStatus status = (status ≡ 0) ⊎ (status ≡ 10)

-- With status 0 the file has the bytes of an image, and the text of its tables was put. With status 10 its bytes have a
-- first fault, and nothing was put.
pub data ShowRan (file : List ℕ) (files : List File) (out out' : Option (List ℕ)) (status : ℕ) : Type 0 where
  Shown : (plant : Plant Code) → status ≡ 0 → IsImage plant → file_at file files ≡ Some (image_bytes plant) → out' ≡ append_known out (text_of plant) → ShowRan file files out out' status
  Bad : (bytes : List ℕ) (e : ImageFault) → status ≡ 10 → file_at file files ≡ Some bytes → IsFirstFaultOf bytes e → out' ≡ out → ShowRan file files out out' status
