-- All that a call of the program does.
use Rattle.std.specs.Prelude.{◌≡◌, ℕ, Option, None, Some, Result, Err}
use Rattle.build_command.specs.Build.{BuildPromises}
use Rattle.mars_top.specs.Command.{Command, Build, Plan, Show, Task, stage_of}
use Rattle.plan_command.specs.Plan.{PlanPromises}
use Rattle.refusals.specs.Causes.{Counts}
use Rattle.refusals.specs.Said.{Said}
use Rattle.refusals.specs.Status.{status_of_result}
use Rattle.refusals.specs.declared.refusal.Refusal.{Refusal}
use Rattle.refusals.specs.declared.refusal.Refusal.TheVariants as refusal
use Rattle.show_command.specs.Show.{ShowPromises}
use Rattle.stages.specs.Exact.{Exact}
use Rattle.stages.specs.Stage.{Does}
use Rattle.stages.specs.World.{Held, World}
use Rattle.task_command.specs.Task.{TaskPromises}

-- what each command promises whatever the objects tell: which files and counts may change, among others
abbrev pub Promises : Command → Held → Held → Counts → Counts → Result (Unit {0}) Refusal → Type 0
Promises (Task file) before now counts counts' answer = TaskPromises file before now counts counts' answer
Promises (Plan project budget) before now counts counts' answer = PlanPromises project budget before now counts counts' answer
Promises (Build project budget image) before now counts counts' answer = BuildPromises project budget image before now counts counts' answer
Promises (Show file) before now counts counts' answer = ShowPromises file before now counts counts' answer

-- The command did its stages: all of what they mean, or it was cut off in one of them, by want of memory or by a fault
-- that was counted. Where files and input are told, what they mean is exactly what was answered and left. The status is
-- the answer's, and its line was put on the error output.
pub record Performs (command : Command) (before now : World) (status : ℕ) : Type 0 where
  pub answer : Result (Unit {0}) Refusal
  pub status_is : status ≡ status_of_result answer
  pub does : Does (stage_of command) before.held now.held before.counts now.counts answer
  pub exact : Exact (stage_of command) before.held now.held before.counts now.counts answer
  pub promises : Promises command before.held now.held before.counts now.counts answer
  pub said : Said before.err now.err before.errors now.errors answer

-- words that are no command: status 2, and all but the error output stays
pub record Refuses (before now : World) (status : ℕ) : Type 0 where
  pub status_is : status ≡ 2
  pub held_stays : now.held ≡ before.held
  pub counts_stay : now.counts ≡ before.counts
  pub said : Said before.err now.err before.errors now.errors (Err refusal.Usage)

-- all that a call with these words does
abbrev pub Replies : Option Command → World → World → ℕ → Type 0
Replies None before now status = Refuses before now status
Replies (Some command) before now status = Performs command before now status
