-- `show IMAGE`.
use Rattle.std.specs.Prelude.{◌≡◌, ◌≢◌, ◌<◌, ◌⊎◌, ℕ, List, [], Some, Result, Err}
use Rattle.image_file.specs.Gives.{image_stage}
use Rattle.mars_base.specs.Causes.{Rose}
use Rattle.plant.specs.declared.system.Plant.{Plant}
use Rattle.refusals.specs.Causes.{Counts}
use Rattle.refusals.specs.Status.{status_of_result}
use Rattle.refusals.specs.declared.refusal.Refusal.{Refusal}
use Rattle.refusals.specs.declared.refusal.Refusal.TheVariants as refusal
use Rattle.stages.specs.Exact.{Exact}
use Rattle.stages.specs.Files.{IsMissing}
use Rattle.stages.specs.Stage.{Stage, in_turn}
use Rattle.stages.specs.World.{Held}
use Rattle.tables_print.specs.Showing.{showing}
use Rattle.tables_text.specs.Text.{tables_text}
use Rattle.word_code.specs.declared.code.Code.{Code}

-- the text of an image's tables
abbrev pub text_of : Plant Code → List ℕ
text_of plant = tables_text plant.net plant.graph plant.tables plant.maxts

-- the image of the file, and then the text of its tables
abbrev pub showing_image : List ℕ → Stage (Unit {0})
showing_image file = in_turn (image_stage file) (λ plant. showing (text_of plant))

-- the input as if it were told and empty: `show` never looks at it
abbrev pub without_input : Held → Held
without_input h = record h { left = Some [] }

-- What `show` promises whatever the objects tell: no file, no count of failed writes and nothing of the input changes;
-- where the files are told, whatever the input tells, it's exactly what the stages mean; a file that a shelf that tells
-- doesn't have is a read fault of its name, unless there was no memory; with status 7 the count of the output's faults
-- rose, or nothing was put; and with every other status but 0 nothing was put.
pub record ShowPromises (file : List ℕ) (before now : Held) (counts counts' : Counts) (answer : Result (Unit {0}) Refusal) : Type 0 where
  pub files_stay : now.files ≡ before.files
  pub writes_stay : counts'.writes ≡ counts.writes
  pub input_stays : (now.left ≡ before.left) × (counts'.input ≡ counts.input)
  pub exact : Exact (showing_image file) (without_input before) (without_input now) counts counts' answer
  pub missing : IsMissing before.files file → (answer ≡ Err (refusal.ReadFault (Some file))) ⊎ (answer ≡ Err refusal.Memory)
  pub unwritten : status_of_result answer ≡ 7 → Rose counts.output counts'.output ⊎ (now.out ≡ before.out)
  pub refused : 0 < status_of_result answer → status_of_result answer ≢ 7 → now.out ≡ before.out
