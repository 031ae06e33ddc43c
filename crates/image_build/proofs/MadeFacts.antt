-- What holds of the bytes of a project's image.
use Rattle.std.proofs.Common.{◌≡◌, ◌⊎◌, ◌≤◌, inl, inr, ℕ, List, length, Option, None, Some, Result, Ok, Err, IfOk, sym, subst}
use Rattle.image_build.specs.Made.{HasMade, imaged, imaging}
use Rattle.image_carries.proofs.Carrying.{image_carries}
use Rattle.image_plant.specs.Fields.{image_bytes}
use Rattle.planned_plant.proofs.WasPlanned.{was_planned}
use Rattle.planned_plant.specs.Plant.{plant_of, IsWholePlan}
use Rattle.planned_valid.proofs.FoundTables.{plan_whole}
use Rattle.plant.specs.declared.system.Plant.{Plant}
use Rattle.project_image.proofs.Within.{GivesWithin, within_once}
use Rattle.project_image.specs.Gives.{ImageWithin, Fits, Long}
use Rattle.project_tables.proofs.PlannedFacts.{passes_planned, missing_planned}
use Rattle.project_tables.specs.Planned.{PlannedProject, planned}
use Rattle.refusals.specs.Causes.{Counts, Caused}
use Rattle.refusals.specs.declared.refusal.Refusal.{Refusal}
use Rattle.refusals.specs.declared.refusal.Refusal.TheVariants as refusal
use Rattle.stages.specs.Exact.{Exact}
use Rattle.stages.specs.Files.{IsMissing}
use Rattle.stages.specs.Stage.{Does, given}
use Rattle.stages.specs.World.{Held}
use Rattle.stages.proofs.ExactFacts.{exact}
use Rattle.stages.proofs.Gives.{ok_once}
use Rattle.stages.proofs.MissingFacts.{refused_turn, refused_does}
use Rattle.stages.proofs.Relations.{Lasts}
use Rattle.stages.proofs.SoundFacts.{passes_turn, passes_judging, passes_lasts}
use Rattle.stages.proofs.Turns.{passes, not_err, went, judged}
use Rattle.word_code.specs.declared.code.Code.{Code}

-- the bytes of an image are at most so many
pub within_limit : (blamed : Option (List ℕ)) (plant : Plant Code) (bytes : List ℕ) → ImageWithin blamed plant (Ok bytes) → length bytes ≤ 4194304
within_limit blamed plant bytes (Fits ok is short) = subst (λ (x : List ℕ). length x ≤ 4194304) (sym (ok_once (List ℕ) bytes (image_bytes plant) ok)) short
within_limit blamed plant bytes (Long refused far) = not_err bytes (refusal.TooLong blamed) (sym refused)

-- the bytes of a planned project's image carry its source project
abbrev pub has_made : (project : List ℕ) (budget : ℕ) (blamed : Option (List ℕ)) (b m : Held) (p : PlannedProject) (bytes : List ℕ) → (planned project budget).meant b m (Ok p) → ImageWithin blamed (plant_of p) (Ok bytes) → HasMade project b.files bytes
has_made project budget blamed b m p bytes planned gives = record {
  net = p.net;
  built = p.built;
  source = (was_planned project budget b m p planned).source;
  short = within_limit blamed (plant_of p) bytes gives;
  carry = image_carries blamed bytes p (plan_whole project budget b m p planned) gives;
}

-- so do those that were made
pub were_made : (project : List ℕ) (budget : ℕ) (bytes : List ℕ) {b n : Held} {c d : Counts} → Does (imaging project budget) b n c d (Ok bytes) → HasMade project b.files bytes
were_made project budget bytes {b} {n} {c} {d} does = by does.how
  where
    by : (imaging project budget).meant b n (Ok bytes) ⊎ ((e : Refusal) × (passes (List ℕ) bytes ≡ Err e) × (imaging project budget).cut b n e × Caused c d e) → HasMade project b.files bytes
    by (inl (inl (e, meant, is))) = not_err bytes e (sym is)
    by (inl (inr (p, m, first, gives))) = has_made project budget None b m p bytes first gives.1
    by (inr cut) = not_err bytes cut.0 (sym cut.1)

-- so do those of an answer that is seen in plain form
pub made_within : {T : Type 0} (plain : T → List ℕ) (project : List ℕ) (budget : ℕ) (r : Result T Refusal) {b n : Held} {c d : Counts} → Does (imaging project budget) b n c d (given plain r) → IfOk r (λ value. HasMade project b.files (plain value))
made_within {T} plain project budget (Ok value) does = were_made project budget (plain value) does
made_within {T} plain project budget (Err e) does = tt

-- what was planned has whole parts
pub planned_whole : (project : List ℕ) (budget : ℕ) (p : PlannedProject) {b n : Held} {c d : Counts} → Does (planned project budget) b n c d (Ok p) → IsWholePlan p
planned_whole project budget p {b} {n} {c} {d} does = by does.how
  where
    by : (planned project budget).meant b n (Ok p) ⊎ ((e : Refusal) × (passes PlannedProject p ≡ Err e) × (planned project budget).cut b n e × Caused c d e) → IsWholePlan p
    by (inl meant) = plan_whole project budget b n p meant
    by (inr cut) = not_err p cut.0 (sym cut.1)

-- the image's bytes, or that there are none, after the planning
pub went_imaged : (project : List ℕ) (budget : ℕ) (p : PlannedProject) (plant : Plant Code) (r : Result (List ℕ) Refusal) {b n : Held} {c d : Counts} → Does (planned project budget) b n c d (Ok p) → plant ≡ plant_of p → GivesWithin None plant r
    → Does (imaging project budget) b n c d r
went_imaged project budget p plant r {b} {n} {c} {d} does is gives =
    went (planned project budget) imaged does (judged (ImageWithin None (plant_of p)) n d r (subst (λ (x : Plant Code). GivesWithin None x r) is gives))

lasts_imaging : (project : List ℕ) (budget : ℕ) → Lasts (imaging project budget)
lasts_imaging project budget =
    passes_lasts (imaging project budget) (passes_turn (planned project budget) imaged (passes_planned project budget) (λ p. passes_judging (ImageWithin None (plant_of p)) (within_once None (plant_of p))))

-- where files are told it's exactly what the stages mean
pub exactly : (project : List ℕ) (budget : ℕ) {b n : Held} {c d : Counts} {r : Result (List ℕ) Refusal} → Does (imaging project budget) b n c d r → Exact (imaging project budget) b n c d r
exactly project budget {b} {n} {c} {d} {r} does = exact (imaging project budget) (lasts_imaging project budget) b n c d r does

-- a project file that isn't there
pub none_there : (project : List ℕ) (budget : ℕ) {b n : Held} {c d : Counts} {r : Result (List ℕ) Refusal} → Does (imaging project budget) b n c d r → IsMissing b.files project → (r ≡ Err (refusal.ReadFault (Some project))) ⊎ (r ≡ Err refusal.Memory)
none_there project budget {b} {n} {c} {d} {r} does missing = refused_does (refusal.ReadFault (Some project)) (imaging project budget) (refused_turn b (refusal.ReadFault (Some project)) (planned project budget) imaged (missing_planned project budget b missing)) does
