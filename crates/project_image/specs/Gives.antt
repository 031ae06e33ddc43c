-- What the image of a plant gives within its limit.
use Rattle.std.specs.Prelude.{◌≡◌, ◌<◌, ◌≤◌, ℕ, List, length, Option, Some, Result, Ok, Err}
use Rattle.image_plant.specs.Fields.{image_bytes}
use Rattle.image_plant.specs.Image.{IsImage}
use Rattle.plant.specs.declared.system.Plant.{Plant}
use Rattle.refusals.specs.declared.refusal.Refusal.{Refusal}
use Rattle.refusals.specs.declared.refusal.Refusal.TheVariants as refusal
use Rattle.word_code.specs.declared.code.Code.{Code}

-- The bytes of the image, where they are at most 4,194,304; or that it is too long, with the name of the file to blame, if any.
pub data ImageWithin (blamed : Option (List ℕ)) (plant : Plant Code) (answer : Result (List ℕ) Refusal) : Type 0 where
  Fits : answer ≡ Ok (image_bytes plant) → IsImage plant → length (image_bytes plant) ≤ 4194304 → ImageWithin blamed plant answer
  Long : answer ≡ Err (refusal.TooLong blamed) → 4194304 < length (image_bytes plant) → ImageWithin blamed plant answer

-- the same, with the name of a file
abbrev pub ImageGives : List ℕ → Plant Code → Result (List ℕ) Refusal → Type 0
ImageGives name = ImageWithin (Some name)
