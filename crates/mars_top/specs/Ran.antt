-- What each command comes to where it isn't refused before its end and not cut off, in the meaning of its files alone.
use Rattle.std.specs.Prelude.{◌≡◌, ℕ, List, Option, None, Some, Ok}
use Rattle.build_command.specs.Stored.{HasStored}
use Rattle.mars_base.specs.declared.file.File.{File}
use Rattle.mars_top.specs.Command.{Command, Build, Plan, Show, Task}
use Rattle.plan_meaning.specs.PlanRan.{IsSearchStatus, PlanRan}
use Rattle.show_command.specs.ShowRan.{IsShowStatus, ShowRan}
use Rattle.stages.specs.World.{World}
use Rattle.task_command.specs.TaskRan.{IsRunStatus, TaskRan}

-- where files and input are told, `task` answered each line as the source of its file means; where files are told, `plan` put
-- the tables of the first feasible list of its source project, or its search ended without tables, and `show` put
-- the text of its image's tables, or its file's bytes have a first fault; and with status 0 bytes stand under the image's name
-- that carry the source project of `build`, and the output has its report
abbrev pub RanOf : Option Command → World → World → ℕ → Type 0
RanOf None before now status = Unit {0}
RanOf (Some (Task file)) before now status = IsRunStatus status → (files : List File) (input : List ℕ) → before.held.files ≡ Some files → before.held.left ≡ Some input
    → TaskRan file files input before.held.out now.held.out status
RanOf (Some (Plan project budget)) before now status = IsSearchStatus status → (files : List File) → before.held.files ≡ Some files → PlanRan project budget files before.held.out now.held.out status
RanOf (Some (Show file)) before now status = IsShowStatus status → (files : List File) → before.held.files ≡ Some files → ShowRan file files before.held.out now.held.out status
RanOf (Some (Build project budget image)) before now status = status ≡ 0 → HasStored project image before.held now.held (Ok tt)
