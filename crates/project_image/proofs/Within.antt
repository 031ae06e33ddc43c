-- What the bytes of an image give.
use Rattle.std.proofs.Common.{◌≡◌, ◌⊎◌, ◌<◌, ◌≤◌, inl, ℕ, List, length, Option, Some, Result, Ok, Err, refl, sym, ap, ◌∙◌, subst, arith}
use Rattle.image_plant.specs.Fields.{image_bytes}
use Rattle.image_plant.specs.Image.{IsImage}
use Rattle.plant.specs.declared.system.Plant.{Plant}
use Rattle.project_image.specs.Gives.{ImageWithin, ImageGives, Fits, Long}
use Rattle.refusals.specs.declared.refusal.Refusal.{Refusal}
use Rattle.refusals.specs.declared.refusal.Refusal.TheVariants as refusal
use Rattle.stages.proofs.Relations.{OneAnswer}
use Rattle.stages.proofs.Turns.{fails, passes}
use Rattle.stages.proofs.WithinFacts.{refuses_none, refuses_one}
use Rattle.word_code.specs.declared.code.Code.{Code}

abbrev pub GivesWithin : Option (List ℕ) → Plant Code → Result (List ℕ) Refusal → Type 0
GivesWithin blamed plant r = ImageWithin blamed plant r ⊎ (r ≡ Err refusal.Memory)

abbrev pub Gives : List ℕ → Plant Code → Result (List ℕ) Refusal → Type 0
Gives name plant r = ImageGives name plant r ⊎ (r ≡ Err refusal.Memory)

pub give_fits : (blamed : Option (List ℕ)) (plant : Plant Code) (bytes : List ℕ) → bytes ≡ image_bytes plant → IsImage plant → length bytes ≤ 4194304 → GivesWithin blamed plant (Ok bytes)
give_fits blamed plant bytes is whole short = inl (Fits (ap (passes (List ℕ)) is) whole (subst (λ (x : List ℕ). length x ≤ 4194304) is short))

pub give_long : (blamed : Option (List ℕ)) (plant : Plant Code) (bytes : List ℕ) → bytes ≡ image_bytes plant → 4194304 < length bytes → GivesWithin blamed plant (Err (refusal.TooLong blamed))
give_long blamed plant bytes is far = inl (Long refl (subst (λ (x : List ℕ). 4194304 < length x) is far))

-- the same file is blamed
pub gives_named : (name given : List ℕ) (plant : Plant Code) (r : Result (List ℕ) Refusal) → given ≡ name → GivesWithin (Some given) plant r → Gives name plant r
gives_named name given plant r same gives = subst (λ (x : List ℕ). Gives x plant r) same gives

-- an image gives one answer
pub within_once : (blamed : Option (List ℕ)) (plant : Plant Code) → OneAnswer (ImageWithin blamed plant)
within_once blamed plant r s (Fits ok whole short) (Fits fine also less) = ok ∙ sym fine
within_once blamed plant r s (Fits ok whole short) (Long refused far) = absurd (omega (arith, short, far))
within_once blamed plant r s (Long refused far) (Fits fine also less) = absurd (omega (arith, less, far))
within_once blamed plant r s (Long refused far) (Long none too) = refused ∙ sym none

pub image_once : (name : List ℕ) (plant : Plant Code) → OneAnswer (ImageGives name plant)
image_once name plant = within_once (Some name) plant

-- it refuses its length alone
pub refuses_image : (P : Refusal → Type 0) (name : List ℕ) (plant : Plant Code) → P (refusal.TooLong (Some name)) → (r : Result (List ℕ) Refusal) (e : Refusal) → ImageGives name plant r → r ≡ Err e → P e
refuses_image P name plant long r e (Fits ok whole short) is = refuses_none P (image_bytes plant) r e ok is
refuses_image P name plant long r e (Long refused far) is = refuses_one P (refusal.TooLong (Some name)) r e long refused is
