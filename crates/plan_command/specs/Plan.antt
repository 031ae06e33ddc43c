-- `plan PROJECT BUDGET`.
use Rattle.std.specs.Prelude.{◌≡◌, ◌⊎◌, ℕ, List, [], Some, Result, Ok, Err}
use Rattle.mars_base.specs.Causes.{Rose}
use Rattle.planned_plant.specs.Plant.{plant_of}
use Rattle.plant.specs.declared.system.Plant.{Plant}
use Rattle.project_image.specs.Gives.{ImageGives}
use Rattle.project_tables.specs.Planned.{PlannedProject, planned}
use Rattle.refusals.specs.Causes.{Counts}
use Rattle.refusals.specs.Status.{status_of_result}
use Rattle.refusals.specs.declared.refusal.Refusal.{Refusal}
use Rattle.refusals.specs.declared.refusal.Refusal.TheVariants as refusal
use Rattle.stages.specs.Exact.{Exact}
use Rattle.stages.specs.Files.{IsMissing}
use Rattle.stages.specs.Stage.{Stage, in_turn, judging, printing}
use Rattle.stages.specs.World.{Held}
use Rattle.tables_text.specs.Text.{tables_text}
use Rattle.word_code.specs.declared.code.Code.{Code}

-- the text of the tables, exactly as they were found
abbrev pub text_of : Plant Code → List ℕ
text_of plant = tables_text plant.net plant.graph plant.tables plant.maxts

-- what takes memory alone gives nothing
abbrev pub IsDone : Result (Unit {0}) Refusal → Type 0
IsDone r = r ≡ Ok tt

-- memory for the text, and then the text
abbrev pub showing : Plant Code → Stage (Unit {0})
showing plant = in_turn (judging IsDone) (λ u. printing (text_of plant))

-- the length of the image that `build` would write, and then the text
abbrev pub shown : (project : List ℕ) → Plant Code → Stage (Unit {0})
shown project plant = in_turn (judging (ImageGives project plant)) (λ bytes. showing plant)

-- the tables of a planned project are shown
abbrev pub shown_plan : (project : List ℕ) → PlannedProject → Stage (Unit {0})
shown_plan project p = shown project (plant_of p)

-- the project, its tasks, its net, its graph and its tables, then its image's length, and then the text of the tables
abbrev pub planning : List ℕ → ℕ → Stage (Unit {0})
planning project budget = in_turn (planned project budget) (shown_plan project)

-- the input as if it were told and empty: `plan` never looks at it
abbrev pub without_input : Held → Held
without_input h = record h { left = Some [] }

-- What `plan` promises whatever the objects tell: no file, no count of failed writes and nothing of the input changes;
-- where the files are told, whatever the input tells, it's exactly what the stages mean; a project file that a shelf that
-- tells doesn't have is a read fault of its name, unless there was no memory; with status 6 nothing was put; and with status
-- 7 the count of the output's faults rose, or nothing was put.
pub record PlanPromises (project : List ℕ) (budget : ℕ) (before now : Held) (counts counts' : Counts) (answer : Result (Unit {0}) Refusal) : Type 0 where
  pub files_stay : now.files ≡ before.files
  pub writes_stay : counts'.writes ≡ counts.writes
  pub input_stays : (now.left ≡ before.left) × (counts'.input ≡ counts.input)
  pub exact : Exact (planning project budget) (without_input before) (without_input now) counts counts' answer
  pub missing : IsMissing before.files project → (answer ≡ Err (refusal.ReadFault (Some project))) ⊎ (answer ≡ Err refusal.Memory)
  pub unread : status_of_result answer ≡ 6 → now.out ≡ before.out
  pub unwritten : status_of_result answer ≡ 7 → Rose counts.output counts'.output ⊎ (now.out ≡ before.out)
