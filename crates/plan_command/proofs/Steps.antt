-- The calls that show the tables of an image do its stages.
use Rattle.std.proofs.Common.{◌≡◌, ◌⊎◌, inl, inr, ℕ, List, Result, Ok, Err, refl, sym, subst}
use Rattle.plan_command.specs.Plan.{showing, shown}
use Rattle.planned_plant.specs.Plant.{IsWholePlan}
use Rattle.planned_valid.proofs.FoundTables.{plan_whole}
use Rattle.plant.specs.declared.system.Plant.{Plant}
use Rattle.project_image.proofs.Within.{Gives}
use Rattle.project_image.specs.Gives.{ImageGives}
use Rattle.project_tables.specs.Planned.{PlannedProject, planned}
use Rattle.refusals.specs.Causes.{Counts, Caused}
use Rattle.refusals.specs.declared.refusal.Refusal.{Refusal}
use Rattle.refusals.specs.declared.refusal.Refusal.TheVariants as refusal
use Rattle.stages.specs.Stage.{Stage, Does, judging}
use Rattle.stages.specs.World.{Held}
use Rattle.stages.proofs.Turns.{passes, not_err, stopped, went, judged}
use Rattle.word_code.specs.declared.code.Code.{Code}

abbrev pub show_it : Plant Code → List ℕ → Stage (Unit {0})
show_it plant bytes = showing plant

-- the image was refused
pub image_refused : (project : List ℕ) (plant : Plant Code) (e : Refusal) (b : Held) (c : Counts) → Gives project plant (Err e) → Does (shown project plant) b b c c (Err e)
image_refused project plant e b c gives = stopped (judging (ImageGives project plant)) (show_it plant) (judged (ImageGives project plant) b c (Err e) gives)

-- no memory for the image
pub no_image : (project : List ℕ) (plant : Plant Code) (b : Held) (c : Counts) → Does (shown project plant) b b c c (Err refusal.Memory)
no_image project plant b c = image_refused project plant refusal.Memory b c (inr refl)

-- the tables of an image within its limit were shown
pub image_shown : (project : List ℕ) (plant lent : Plant Code) {bytes : List ℕ} {b n : Held} {c d : Counts} {r : Result (Unit {0}) Refusal} → Gives project plant (Ok bytes) → lent ≡ plant
    → Does (showing lent) b n c d r → Does (shown project plant) b n c d r
image_shown project plant lent {bytes} {b} {n} {c} {d} {r} gives same does =
    went (judging (ImageGives project plant)) (show_it plant) (judged (ImageGives project plant) b c (Ok bytes) gives) (subst (λ (p : Plant Code). Does (showing p) b n c d r) same does)

-- the same plant
pub shown_same : (project : List ℕ) (one two : Plant Code) {b n : Held} {c d : Counts} {r : Result (Unit {0}) Refusal} → one ≡ two → Does (shown project one) b n c d r → Does (shown project two) b n c d r
shown_same project one two {b} {n} {c} {d} {r} is does = subst (λ (p : Plant Code). Does (shown project p) b n c d r) is does

-- what was planned
pub planned_whole : (project : List ℕ) (budget : ℕ) (p : PlannedProject) {b n : Held} {c d : Counts} → Does (planned project budget) b n c d (Ok p) → IsWholePlan p
planned_whole project budget p {b} {n} {c} {d} does = by does.how
  where
    by : (planned project budget).meant b n (Ok p) ⊎ ((e : Refusal) × (passes PlannedProject p ≡ Err e) × (planned project budget).cut b n e × Caused c d e) → IsWholePlan p
    by (inl meant) = plan_whole project budget b n p meant
    by (inr cut) = not_err p cut.0 (sym cut.1)
