-- The calls that store an image do its stages.
use Rattle.std.proofs.Common.{◌≡◌, inl, inr, ℕ, List, Result, Ok, Err, refl, sym, ap, subst}
use Rattle.build_command.specs.Build.{report_text, IsText, reporting, stored}
use Rattle.build_store.specs.Store.{storing}
use Rattle.plant.specs.declared.system.Plant.{Plant}
use Rattle.project_image.proofs.Within.{Gives}
use Rattle.project_image.specs.Gives.{ImageGives}
use Rattle.refusals.specs.Causes.{Counts}
use Rattle.refusals.specs.declared.refusal.Refusal.{Refusal}
use Rattle.refusals.specs.declared.refusal.Refusal.TheVariants as refusal
use Rattle.stages.specs.Stage.{Stage, Does, judging}
use Rattle.stages.specs.World.{Held}
use Rattle.stages.proofs.Turns.{passes, stopped, went, judged}
use Rattle.word_code.specs.declared.code.Code.{Code}

abbrev put_it : (image bytes : List ℕ) → List ℕ → Stage (Unit {0})
put_it image bytes text = storing image bytes text

-- the image was refused
pub image_refused : (image : List ℕ) (plant : Plant Code) (e : Refusal) (b : Held) (c : Counts) → Gives image plant (Err e) → Does (stored image plant) b b c c (Err e)
image_refused image plant e b c gives = stopped (judging (ImageGives image plant)) (reporting image plant) (judged (ImageGives image plant) b c (Err e) gives)

-- no memory for the image
pub no_image : (image : List ℕ) (plant : Plant Code) (b : Held) (c : Counts) → Does (stored image plant) b b c c (Err refusal.Memory)
no_image image plant b c = image_refused image plant refusal.Memory b c (inr refl)

-- no memory for the report
pub no_report : (image : List ℕ) (plant : Plant Code) (bytes : List ℕ) (b : Held) (c : Counts) → Gives image plant (Ok bytes) → Does (stored image plant) b b c c (Err refusal.Memory)
no_report image plant bytes b c gives =
    went (judging (ImageGives image plant)) (reporting image plant) (judged (ImageGives image plant) b c (Ok bytes) gives)
    (stopped (judging (IsText (report_text plant bytes))) (put_it image bytes) (judged (IsText (report_text plant bytes)) b c (Err refusal.Memory) (inr refl)))

-- the image was stored
pub image_stored : (image : List ℕ) (plant : Plant Code) (bytes lent text : List ℕ) {b n : Held} {c d : Counts} {r : Result (Unit {0}) Refusal} → Gives image plant (Ok bytes) → lent ≡ bytes → text ≡ report_text plant bytes
    → Does (storing image lent text) b n c d r → Does (stored image plant) b n c d r
image_stored image plant bytes lent text {b} {n} {c} {d} {r} gives same is does =
    went (judging (ImageGives image plant)) (reporting image plant) (judged (ImageGives image plant) b c (Ok bytes) gives)
    (went (judging (IsText (report_text plant bytes))) (put_it image bytes) (judged (IsText (report_text plant bytes)) b c (Ok text) (inl (ap (passes (List ℕ)) is)))
    (subst (λ (x : List ℕ). Does (storing image x text) b n c d r) same does))

-- the same plant
pub stored_same : (image : List ℕ) (one two : Plant Code) {b n : Held} {c d : Counts} {r : Result (Unit {0}) Refusal} → one ≡ two → Does (stored image one) b n c d r → Does (stored image two) b n c d r
stored_same image one two {b} {n} {c} {d} {r} is does = subst (λ (p : Plant Code). Does (stored image p) b n c d r) is does
