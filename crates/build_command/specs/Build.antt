-- `build PROJECT BUDGET IMAGE`.
use Rattle.std.specs.Prelude.{◌≡◌, ◌⊎◌, ℕ, List, [], length, None, Some, Result, Ok, Err}
use Rattle.build_command.specs.Stored.{HasStored}
use Rattle.build_store.specs.Store.{storing}
use Rattle.image_build.specs.Made.{HasMade}
use Rattle.mars_base.specs.Causes.{Rose}
use Rattle.mars_base.specs.Outside.{Refused}
use Rattle.planned_plant.specs.Plant.{plant_of}
use Rattle.plant.specs.declared.system.Plant.{Plant}
use Rattle.project_image.specs.Gives.{ImageGives}
use Rattle.project_tables.specs.Planned.{PlannedProject, planned}
use Rattle.refusals.specs.Causes.{Counts}
use Rattle.refusals.specs.Status.{status_of_result}
use Rattle.refusals.specs.declared.refusal.Refusal.{Refusal}
use Rattle.refusals.specs.declared.refusal.Refusal.TheVariants as refusal
use Rattle.report_text.specs.Report.{report_of}
use Rattle.stages.specs.Exact.{Exact}
use Rattle.stages.specs.Files.{IsMissing}
use Rattle.stages.specs.Stage.{Stage, in_turn, judging}
use Rattle.stages.specs.World.{Held}
use Rattle.word_code.specs.declared.code.Code.{Code}

-- the report of a plant whose image has these bytes
abbrev pub report_text : Plant Code → (bytes : List ℕ) → List ℕ
report_text plant bytes = report_of plant.net.tasks plant.maxts (length bytes)

-- to keep a text takes memory
abbrev pub IsText : List ℕ → Result (List ℕ) Refusal → Type 0
IsText text r = r ≡ Ok text

-- the report is made, and then the bytes are written, and after that it is put
abbrev pub reporting : (image : List ℕ) → Plant Code → (bytes : List ℕ) → Stage (Unit {0})
reporting image plant bytes = in_turn (judging (IsText (report_text plant bytes))) (λ text. storing image bytes text)

-- the image's length, its write and the report
abbrev pub stored : (image : List ℕ) → Plant Code → Stage (Unit {0})
stored image plant = in_turn (judging (ImageGives image plant)) (reporting image plant)

-- the image of a planned project is stored
abbrev pub stored_plan : (image : List ℕ) → PlannedProject → Stage (Unit {0})
stored_plan image p = stored image (plant_of p)

-- the project, its tasks, its net, its graph and its tables, and then the image
abbrev pub building : (project : List ℕ) → (budget : ℕ) → (image : List ℕ) → Stage (Unit {0})
building project budget image = in_turn (planned project budget) (stored_plan image)

-- the input as if it were told and empty: `build` never looks at it
abbrev pub without_input : Held → Held
without_input h = record h { left = Some [] }

-- nothing was refused, or only a put of the report
abbrev pub IsStored : Result (Unit {0}) Refusal → Type 0
IsStored r = (r ≡ Ok tt) ⊎ (r ≡ Err (refusal.WriteFault None))

-- What `build` promises whatever the objects tell. Every file but IMAGE stays, and where it's refused before the write all
-- files stay: with all statuses but 0, 1 and 7, and with these too unless bytes were made that carry the source project, and
-- so were to be written. The input isn't looked at. Where the files are told it's exactly what the
-- stages mean. A project file that a shelf that tells doesn't have is a read fault of its name, unless there was no memory.
-- The output stays with all statuses but 0 and 7, and with 7 where no put failed. Where nothing was refused, or only a put of
-- the report, bytes stand under IMAGE that carry the source project.
pub record BuildPromises (project : List ℕ) (budget : ℕ) (image : List ℕ) (before now : Held) (counts counts' : Counts) (answer : Result (Unit {0}) Refusal) : Type 0 where
  pub others_stay : Refused before.files now.files image
  pub files_stay : (status_of_result answer ≡ 0 → ⊥) → (status_of_result answer ≡ 1 → ⊥) → (status_of_result answer ≡ 7 → ⊥) → now.files ≡ before.files
  pub untouched : (now.files ≡ before.files) ⊎ ((bytes : List ℕ) × HasMade project before.files bytes)
  pub input_stays : (now.left ≡ before.left) × (counts'.input ≡ counts.input)
  pub exact : Exact (building project budget image) (without_input before) (without_input now) counts counts' answer
  pub missing : IsMissing before.files project → (answer ≡ Err (refusal.ReadFault (Some project))) ⊎ (answer ≡ Err refusal.Memory)
  pub unput : (status_of_result answer ≡ 0 → ⊥) → (status_of_result answer ≡ 7 → ⊥) → now.out ≡ before.out
  pub unwritten : status_of_result answer ≡ 7 → Rose counts.output counts'.output ⊎ (now.out ≡ before.out)
  pub carries : IsStored answer → HasStored project image before now answer
