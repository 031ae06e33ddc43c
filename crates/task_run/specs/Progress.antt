-- How a run over lines ended, and what it wrote.
use Rattle.std.specs.Prelude.{◌≡◌, ℕ, List, Option, IfSome, Result, Ok, Err, ℤ}
use Rattle.std.specs.Io.KnownBytes.{append_known, prepend_known}
use Rattle.lines.specs.Gathered.{HasFront}
use Rattle.lines.specs.Lines.{Lines, whole_lines_of}
use Rattle.mc_tree.specs.Tree.{Tree}
use Rattle.processor.specs.Results.{Ran}
use Rattle.task_run.specs.Text.{Ending, Finished, BadLine, Broken, task_text, answers_text, ending_of}
use Rattle.task_run.specs.declared.fault.RunFault.{RunFault}
use Rattle.task_run.specs.declared.fault.RunFault.TheVariants as fault

-- where the lines are told: the run ends so, and its whole text stands behind what was there
abbrev pub RanTo : Tree → ℕ → (List ℤ → List ℤ → Ran) → Option Lines → Ending → Option (List ℕ) → Option (List ℕ) → Type 0
RanTo t maxt run lines ending old new = IfSome lines (λ told. (ending_of t told ≡ ending) × (new ≡ append_known old (task_text t maxt run told)))

-- where the lines are told: a front of the text stands behind what was there
abbrev pub RanInto : Tree → ℕ → (List ℤ → List ℤ → Ran) → Option Lines → Option (List ℕ) → Option (List ℕ) → Type 0
RanInto t maxt run lines old new = IfSome lines (λ told. HasFront old (task_text t maxt run told) new)

-- Of the input so much was taken, and what was put is the whole text of all lines that line feeds end within it: each
-- is well formed, and none broke.
pub record HasAnswered (t : Tree) (width : ℕ) (input left : Option (List ℕ)) (old new : Option (List ℕ)) : Type 0 where
  pub taken : List ℕ
  pub were : input ≡ prepend_known taken left
  pub ends : ending_of t (whole_lines_of width taken) ≡ Finished
  pub text : new ≡ append_known old (answers_text t (whole_lines_of width taken))

-- what an answer says
abbrev pub RunAnswers : Tree → ℕ → (List ℤ → List ℤ → Ran) → Option Lines → Option (List ℕ) → Option (List ℕ) → Result (Unit {0}) RunFault → Type 0
RunAnswers t maxt run lines old new (Ok u) = RanTo t maxt run lines Finished old new
RunAnswers t maxt run lines old new (Err fault.Memory) = RanInto t maxt run lines old new
RunAnswers t maxt run lines old new (Err fault.Read) = RanInto t maxt run lines old new
RunAnswers t maxt run lines old new (Err fault.Write) = RanInto t maxt run lines old new
RunAnswers t maxt run lines old new (Err (fault.BadLine n)) = RanTo t maxt run lines (BadLine n) old new
RunAnswers t maxt run lines old new (Err fault.Broken) = RanTo t maxt run lines Broken old new
