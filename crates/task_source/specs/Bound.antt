-- The code of a task, and its bound.
use Rattle.std.specs.Prelude.{◌≡◌, ◌<◌, ◌≤◌, ℕ, List, length, Result, Ok, Err}
use Rattle.mc_compile.specs.Whole.{translate}
use Rattle.mc_fold.specs.Folded.{folded_task}
use Rattle.mc_tree.specs.Plain.{plain_task}
use Rattle.mc_tree.specs.declared.tree.Task.{Task}
use Rattle.refusals.specs.declared.fault.Fault.TheVariants as fault
use Rattle.refusals.specs.declared.refusal.Refusal.{Refusal}
use Rattle.refusals.specs.declared.refusal.Refusal.TheVariants as refusal
use Rattle.stages.specs.Stage.{Stage, judging}
use Rattle.word_code.specs.Free.{FreeRun, Greatest}
use Rattle.word_code.specs.declared.code.Code.{Code}

-- the code that is run for a task: the translation of the task with its constants folded
abbrev pub code_of : Task → Code
code_of t = translate (plain_task (folded_task t))

abbrev pub instructions_of : Task → ℕ
instructions_of t = length (code_of t).instrs

-- the bound of its executions: the greatest cycles of an unbroken free run of the code
abbrev pub IsBound : Task → ℕ → Type 0
IsBound t maxt = Greatest (code_of t) maxt

-- What bounding the code of a task gives: the bound, which is at most 2,147,483,647 cycles; or the fault of its file.
-- The code has more than 65,535 instructions; or no free run of it ends; or one has more cycles than that.
pub data BoundGives (file : List ℕ) (t : Task) (answer : Result ℕ Refusal) : Type 0 where
  Bound : (maxt : ℕ) → answer ≡ Ok maxt → instructions_of t ≤ 65535 → IsBound t maxt → maxt ≤ 2147483647 → BoundGives file t answer
  CodeTooLong : answer ≡ Err (refusal.Fault (fault.CodeTooLong file (instructions_of t))) → 65535 < instructions_of t → BoundGives file t answer
  NoPath : answer ≡ Err (refusal.Fault (fault.NoPath file)) → instructions_of t ≤ 65535 → ((n : ℕ) → FreeRun (code_of t) n → ⊥) → BoundGives file t answer
  MaxtTooLong : (n : ℕ) → answer ≡ Err (refusal.Fault (fault.MaxtTooLong file)) → instructions_of t ≤ 65535 → FreeRun (code_of t) n → 2147483647 < n → BoundGives file t answer

abbrev pub bounding : List ℕ → Task → Stage ℕ
bounding file t = judging (BoundGives file t)
