-- What a run of `task` came to, in the meaning of its source.
use Rattle.std.specs.Prelude.{◌≡◌, ◌⊎◌, ℕ, max, List, [], ◌++◌, Option, Some, ℤ}
use Rattle.std.specs.Io.KnownBytes.{append_known}
use Rattle.lines.specs.Lines.{Lines, End, Bad, Line, lines_of}
use Rattle.mars_base.specs.Outside.{file_at}
use Rattle.mars_base.specs.declared.file.File.{File}
use Rattle.mc_tree.specs.Instance.{Outcome, Gives, Breaks, is_in, width_of, instance_of}
use Rattle.mc_tree.specs.Plain.{plain_task}
use Rattle.mc_tree.specs.Tree.{Tree}
use Rattle.mc_tree.specs.declared.tree.Task.{Task}
use Rattle.processor.specs.Ends.{cycles_in}
use Rattle.processor.specs.Results.{Ran}
use Rattle.refusals.specs.Status.{status_of_result}
use Rattle.task_command.specs.Running.{answer_of, execution}
use Rattle.task_run.specs.Text.{Ending, Finished, BadLine, Broken, answers_text, ending_of, first_state, task_line}
use Rattle.task_source.specs.Bound.{IsBound, code_of}
use Rattle.task_source.specs.Source.{SourceIs}

-- the statuses of a run that was neither refused before its first line nor cut off: all lines were answered, one is bad, one breaks
abbrev pub IsRunStatus : ℕ → Type 0
IsRunStatus status = (status ≡ 0) ⊎ ((status ≡ 8) ⊎ (status ≡ 11))

-- the most cycles of an execution, of those of the lines up to the first that is bad or breaks
abbrev pub seen_after : Outcome → (List ℤ → ℕ) → ℕ → ℕ
seen_after (Gives state outs) go seen = go state
seen_after Breaks go seen = seen

abbrev pub seen_from : Tree → (List ℤ → List ℤ → Ran) → ℕ → List ℤ → Lines → ℕ
seen_from t run seen state End = seen
seen_from t run seen state (Bad n) = seen
seen_from t run seen state (Line ins rest) = seen_after (instance_of t state ins) (λ new. seen_from t run (max seen (cycles_in (run state ins))) new rest) seen

-- the line behind the answers: where all lines were answered, the bound and the most cycles
abbrev pub last_line : List ℕ → (maxt seen : ℕ) → Ending → List ℕ
last_line name maxt seen Finished = task_line name maxt seen
last_line name maxt seen (BadLine n) = []
last_line name maxt seen Broken = []

-- The file is the source of a task, and the bound is its code's. Behind what was put before stands for each line of the
-- input what the source means there, from the state that the line before left, up to the end of the input or the first
-- line that is bad or breaks; the status says which of these it was.
pub record TaskRan (file : List ℕ) (files : List File) (input : List ℕ) (old new : Option (List ℕ)) (status : ℕ) : Type 0 where
  pub bytes : List ℕ
  pub task : Task
  pub maxt : ℕ
  pub is_file : file_at file files ≡ Some bytes
  pub is_source : SourceIs bytes task
  pub is_bound : IsBound task maxt
  pub ended : status ≡ status_of_result (answer_of (ending_of (plain_task task) (lines_of (width_of is_in task.cells) input)))
  pub text : new ≡ append_known old (answers_text (plain_task task) (lines_of (width_of is_in task.cells) input)
      ++ last_line task.name maxt (seen_from (plain_task task) (execution (code_of task) maxt) 0 (first_state (plain_task task)) (lines_of (width_of is_in task.cells) input))
      (ending_of (plain_task task) (lines_of (width_of is_in task.cells) input)))
