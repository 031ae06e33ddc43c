-- The bytes of a planned project's image carry its source project, and so does the image that they are read as.
use Rattle.std.proofs.Common.{◌≡◌, ◌⊎◌, inl, inr, ℕ, List, Result, Ok, Err, IfOk, sym, subst}
use Rattle.carries.specs.Carries.{Carries}
use Rattle.image.specs.declared.decoding.ImageFault.{ImageFault}
use Rattle.image.specs.declared.decoding.ImageFault.TheVariants as fault
use Rattle.image_carries.specs.Carry.{BytesCarry}
use Rattle.image_plant.specs.Fields.{image_bytes}
use Rattle.plant.specs.declared.system.Plant.{Plant}
use Rattle.planned_plant.specs.Plant.{plant_of, project_of, IsWholePlan}
use Rattle.project_image.specs.Gives.{ImageWithin, Fits, Long}
use Rattle.project_plant.proofs.Wholes.{whole_carries}
use Rattle.project_source.specs.Project.{SourceProject}
use Rattle.project_tables.specs.Planned.{PlannedProject}
use Rattle.stages.proofs.Gives.{ok_once}
use Rattle.stages.proofs.Turns.{not_err}
use Rattle.refusals.specs.declared.refusal.Refusal.TheVariants as refusal
use Rattle.std.specs.Prelude.{Option}
use Rattle.word_code.specs.declared.code.Code.{Code}

pub image_carries : (blamed : Option (List ℕ)) (bytes : List ℕ) (p : PlannedProject) → IsWholePlan p → ImageWithin blamed (plant_of p) (Ok bytes) → BytesCarry bytes (project_of p)
image_carries blamed bytes p whole (Fits ok is short) = record {
  plant = plant_of p;
  is_image = is;
  bytes_are = ok_once (List ℕ) bytes (image_bytes (plant_of p)) ok;
  carries = whole_carries p.net p.graph p.tables p.built whole;
}
image_carries blamed bytes p whole (Long refused far) = not_err bytes (refusal.TooLong blamed) (sym refused)

-- what was read is one plant
pub read_carries : (s : SourceProject) (plant : Plant Code) (r : Result (Plant Code) ImageFault) → Carries plant s → (r ≡ Ok plant) ⊎ (r ≡ Err fault.Memory) → IfOk r (λ p. Carries p s)
read_carries s plant (Ok p) carries (inl is) = let same : p ≡ plant = cc in subst (λ (q : Plant Code). Carries q s) (sym same) carries
read_carries s plant (Ok p) carries (inr memory) = absurd (let x : ⊥ = cc in x)
read_carries s plant (Err e) carries is = tt
