-- What the words after the program's name ask for, and what each command does.
use Rattle.std.specs.Prelude.{ℕ, List, [], ◌∷◌, codes, Option, None, Some, if◌then◌else◌}
use Rattle.std.specs.Option.{option_map}
use Rattle.std.specs.Str.{bytes_eq}
use Rattle.budgets.specs.Budget.{budget_of}
use Rattle.build_command.specs.Build.{building}
use Rattle.plan_command.specs.Plan.{planning}
use Rattle.show_command.specs.Show.{showing_image}
use Rattle.stages.specs.Stage.{Stage}
use Rattle.task_command.specs.Task.{tasking}

pub data Command : Type 0 where
  Task : (file : List ℕ) → Command
  Plan : (project : List ℕ) (budget : ℕ) → Command
  Show : (file : List ℕ) → Command
  Build : (project : List ℕ) (budget : ℕ) (image : List ℕ) → Command

-- `task FILE`, `show IMAGE`, `plan PROJECT BUDGET` and `build PROJECT BUDGET IMAGE`; no other words are a command
abbrev pub command_of : List (List ℕ) → Option Command
command_of [] = None
command_of (word ∷ []) = None
command_of (word ∷ a ∷ []) = if bytes_eq word (codes "task") then Some (Task a) else (if bytes_eq word (codes "show") then Some (Show a) else None)
command_of (word ∷ a ∷ b ∷ []) = if bytes_eq word (codes "plan") then option_map (λ budget. Plan a budget) (budget_of b) else None
command_of (word ∷ a ∷ b ∷ c ∷ []) = if bytes_eq word (codes "build") then option_map (λ budget. Build a budget c) (budget_of b) else None
command_of (word ∷ a ∷ b ∷ c ∷ d ∷ rest) = None

-- the stages of a command, in their one order
abbrev pub stage_of : Command → Stage (Unit {0})
stage_of (Task file) = tasking file
stage_of (Plan project budget) = planning project budget
stage_of (Show file) = showing_image file
stage_of (Build project budget image) = building project budget image
