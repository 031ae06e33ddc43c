-- Bytes give one answer.
use Rattle.std.proofs.Common.{◌≡◌, ◌⊎◌, inl, inr, ℕ, List, Result, Ok, Err, sym, ap, ◌∙◌}
use Rattle.image.specs.Faults.{IsFirstFaultOf}
use Rattle.image.specs.declared.decoding.ImageFault.{ImageFault}
use Rattle.image.specs.declared.decoding.ImageFault.TheVariants as fault
use Rattle.image.proofs.Settled.{no_fault, one_fault, one_image}
use Rattle.image_file.specs.Gives.{ImageGives, Sound, Faulty, refusal_of}
use Rattle.plant.specs.declared.system.Plant.{Plant}
use Rattle.refusals.specs.declared.refusal.ImageBad.{ImageBad}
use Rattle.refusals.specs.declared.refusal.ImageBad.TheVariants as bad
use Rattle.refusals.specs.declared.refusal.Refusal.{Refusal}
use Rattle.refusals.specs.declared.refusal.Refusal.TheVariants as refusal
use Rattle.stages.proofs.Relations.{OneAnswer}
use Rattle.stages.proofs.Turns.{fails}
use Rattle.word_code.specs.declared.code.Code.{Code}

pub gives_once : (bytes : List ℕ) → OneAnswer (ImageGives bytes)
gives_once bytes r s (Sound a ok is has) (Sound b fine too holds) = ok ∙ (ap (λ z. Ok z) (one_image bytes a b is too has holds) ∙ sym fine)
gives_once bytes r s (Sound a ok is has) (Faulty e refused first) = absurd (no_fault bytes a e is has first)
gives_once bytes r s (Faulty e refused first) (Sound a ok is has) = absurd (no_fault bytes a e is has first)
gives_once bytes r s (Faulty e refused first) (Faulty f also least) =
    refused ∙ (ap (λ (z : ImageFault). fails (Plant Code) (refusal_of z)) (one_fault bytes e f first least) ∙ sym also)

-- a first fault is told as what is bad in the image
pub told_bad : (P : Refusal → Type 0) (bytes : List ℕ) (e : ImageFault) → ((b : ImageBad) → P (refusal.BadImage b)) → IsFirstFaultOf bytes e → P (refusal_of e)
told_bad P bytes (fault.Bytes offset) each first = each (bad.Byte offset)
told_bad P bytes fault.Net each first = each bad.Net
told_bad P bytes (fault.Code task) each first = each (bad.Code task)
told_bad P bytes (fault.Table rule) each first = each (bad.Table rule)
told_bad P bytes fault.Memory each first = absurd first

abbrev pub Gives : List ℕ → Result (Plant Code) Refusal → Type 0
Gives bytes r = ImageGives bytes r ⊎ (r ≡ Err refusal.Memory)

-- a fault that is answered is the first, or there was no memory
pub told : (bytes : List ℕ) (e : ImageFault) (r : Refusal) → (e ≡ fault.Memory) ⊎ IsFirstFaultOf bytes e → r ≡ refusal_of e → Gives bytes (Err r)
told bytes e r (inl memory) is = inr (ap (fails (Plant Code)) (is ∙ ap refusal_of memory))
told bytes e r (inr first) is = inl (Faulty e (ap (fails (Plant Code)) is) first)
