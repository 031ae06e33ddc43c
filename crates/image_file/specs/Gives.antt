-- What the bytes of an image's file give.
use Rattle.std.specs.Prelude.{◌≡◌, ℕ, List, Result, Ok, Err}
use Rattle.image.specs.Faults.{IsFirstFaultOf}
use Rattle.image.specs.declared.decoding.ImageFault.{ImageFault}
use Rattle.image.specs.declared.decoding.ImageFault.TheVariants as fault
use Rattle.image_plant.specs.Fields.{image_bytes}
use Rattle.image_plant.specs.Image.{IsImage}
use Rattle.plant.specs.declared.system.Plant.{Plant}
use Rattle.refusals.specs.declared.refusal.ImageBad.TheVariants as bad
use Rattle.refusals.specs.declared.refusal.Refusal.{Refusal}
use Rattle.refusals.specs.declared.refusal.Refusal.TheVariants as refusal
use Rattle.stages.specs.Files.{reading}
use Rattle.stages.specs.Stage.{Stage, in_turn, judging}
use Rattle.word_code.specs.declared.code.Code.{Code}

-- the refusal for a fault of bytes
abbrev pub refusal_of : ImageFault → Refusal
refusal_of (fault.Bytes offset) = refusal.BadImage (bad.Byte offset)
refusal_of fault.Net = refusal.BadImage bad.Net
refusal_of (fault.Code task) = refusal.BadImage (bad.Code task)
refusal_of (fault.Table rule) = refusal.BadImage (bad.Table rule)
refusal_of fault.Memory = refusal.Memory

-- What bytes give: the image whose bytes they are, or their first fault.
pub data ImageGives (bytes : List ℕ) (answer : Result (Plant Code) Refusal) : Type 0 where
  Sound : (plant : Plant Code) → answer ≡ Ok plant → IsImage plant → bytes ≡ image_bytes plant → ImageGives bytes answer
  Faulty : (e : ImageFault) → answer ≡ Err (refusal_of e) → IsFirstFaultOf bytes e → ImageGives bytes answer

-- the file's read, and then its bytes
abbrev pub image_stage : List ℕ → Stage (Plant Code)
image_stage file = in_turn (reading file 4194304) (λ bytes. judging (ImageGives bytes))
