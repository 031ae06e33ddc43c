-- What decoding answers. Only the contracts of private functions cite this.
use Rattle.std.specs.Prelude.{◌≡◌, ℕ, List, Ok, Err}
use Rattle.formats.specs.Format.{whole}
use Rattle.word_code.specs.declared.code.Code.{Code}
use Rattle.plant.specs.declared.system.Plant.{Plant}
use Rattle.image_fields.specs.declared.parts.Parts.{Parts}
use Rattle.image_fields.specs.Image.{image}
use Rattle.image_plant.specs.Image.{IsImage}
use Rattle.image.specs.declared.decoding.ImageFault.{ImageFault}
use Rattle.image.specs.declared.decoding.ImageFault.TheVariants as fault
use Rattle.graph.specs.Sound.{IsSound}
use Rattle.image_plant.specs.Said.{net_of, IsSaid}
use Rattle.image_sides.specs.First.{IsFirstUnverified}
use Rattle.image.specs.Faults.{HasBadCode, HasBadTable}

-- the bytes say fields, and these say the image
pub record IsDecoded (bytes : List ℕ) (plant : Plant Code) : Type 0 where
  pub is_image : IsImage plant
  pub parts : Parts
  pub fits : image.fits parts
  pub bytes_are : bytes ≡ image.writes parts
  pub said : IsSaid parts plant

-- the fields are refused so, or memory ran out
abbrev pub MayRefuse : Parts → ImageFault → Type 0
MayRefuse p (fault.Bytes offset) = ⊥
MayRefuse p fault.Net = IsSound (net_of p) → ⊥
MayRefuse p (fault.Code number) = HasBadCode p number
MayRefuse p (fault.Table number) = HasBadTable p number
MayRefuse p fault.Memory = Unit {0}

-- the code of this number is the first that isn't verified, or memory ran out
abbrev pub IsBadCode : List Code → ImageFault → Type 0
IsBadCode codes (fault.Bytes offset) = ⊥
IsBadCode codes fault.Net = ⊥
IsBadCode codes (fault.Code number) = IsFirstUnverified codes number
IsBadCode codes (fault.Table number) = ⊥
IsBadCode codes fault.Memory = Unit {0}

-- the fault of the bytes or of their fields, or memory ran out
abbrev pub MayFault : List ℕ → ImageFault → Type 0
MayFault bytes (fault.Bytes offset) = whole image bytes ≡ Err offset
MayFault bytes fault.Memory = Unit {0}
MayFault bytes fault.Net = (p : Parts) × (whole image bytes ≡ Ok p) × MayRefuse p fault.Net
MayFault bytes (fault.Code number) = (p : Parts) × (whole image bytes ≡ Ok p) × MayRefuse p (fault.Code number)
MayFault bytes (fault.Table number) = (p : Parts) × (whole image bytes ≡ Ok p) × MayRefuse p (fault.Table number)
