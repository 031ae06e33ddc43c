-- `task FILE`.
use Rattle.std.specs.Prelude.{◌≡◌, ◌⊎◌, ℕ, List, Some, Result, Ok, Err}
use Rattle.std.specs.Io.KnownBytes.{IsAtEnd}
use Rattle.mars_base.specs.Causes.{Rose}
use Rattle.mars_base.specs.declared.file.File.{File}
use Rattle.mc_tree.specs.Plain.{plain_task}
use Rattle.refusals.specs.Causes.{Counts}
use Rattle.refusals.specs.Status.{status_of_result}
use Rattle.refusals.specs.declared.refusal.Refusal.{Refusal}
use Rattle.refusals.specs.declared.refusal.Refusal.TheVariants as refusal
use Rattle.stages.specs.Files.{IsMissing}
use Rattle.stages.specs.Stage.{Stage, in_turn}
use Rattle.stages.specs.World.{Held}
use Rattle.task_command.specs.Running.{running}
use Rattle.task_command.specs.TaskRan.{IsRunStatus, TaskRan}
use Rattle.task_source.specs.Bound.{code_of}
use Rattle.task_source.specs.Built.{built}

-- the source with its code and its bound, and then its run over the lines of the input
abbrev pub tasking : List ℕ → Stage (Unit {0})
tasking file = in_turn (built file) (λ b. running (plain_task b.task) (code_of b.task) b.maxt)

-- What `task` promises whatever the objects tell: no file and no count of failed writes changes; an input whose lines
-- were all answered is at its end; a file that a shelf that tells doesn't have is a read fault of its name, unless there
-- was no memory; with status 6 the count of the input's faults rose, or nothing was put; and where files and input are
-- told, a run to the end of the lines or to the first that is bad or breaks did what the source means.
pub record TaskPromises (file : List ℕ) (before now : Held) (counts counts' : Counts) (answer : Result (Unit {0}) Refusal) : Type 0 where
  pub files_stay : now.files ≡ before.files
  pub writes_stay : counts'.writes ≡ counts.writes
  pub at_end : answer ≡ Ok tt → IsAtEnd now.left
  pub missing : IsMissing before.files file → (answer ≡ Err (refusal.ReadFault (Some file))) ⊎ (answer ≡ Err refusal.Memory)
  pub unread : status_of_result answer ≡ 6 → Rose counts.input counts'.input ⊎ (now.out ≡ before.out)
  pub ran : IsRunStatus (status_of_result answer) → (files : List File) (input : List ℕ) → before.files ≡ Some files → before.left ≡ Some input
      → TaskRan file files input before.out now.out (status_of_result answer)
