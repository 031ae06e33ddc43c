-- A task's run over the lines of the input, as a stage.
use Rattle.std.specs.Prelude.{◌≡◌, ℕ, List, Option, None, Result, Ok, Err, ℤ}
use Rattle.std.specs.Io.KnownBytes.{IsAtEnd}
use Rattle.std.specs.Option.{option_map}
use Rattle.lines.specs.Lines.{Lines, lines_of}
use Rattle.mc_tree.specs.Instance.{is_in, width_of}
use Rattle.mc_tree.specs.Tree.{Tree}
use Rattle.refusals.specs.declared.refusal.Refusal.{Refusal}
use Rattle.refusals.specs.declared.refusal.Refusal.TheVariants as refusal
use Rattle.stages.specs.Stage.{Stage}
use Rattle.stages.specs.World.{Held}
use Rattle.task_run.specs.Progress.{RanTo, RanInto, HasAnswered}
use Rattle.task_run.specs.Text.{Ending, Finished, BadLine, Broken}
use Rattle.processor.specs.Results.{Ran}
use Rattle.word_code.specs.Execution.{exec}
use Rattle.word_code.specs.declared.code.Code.{Code}

-- the lines of the input that is left, where it is told
abbrev pub input_lines : Tree → Option (List ℕ) → Option Lines
input_lines t left = option_map (lines_of (width_of is_in t.cells)) left

-- an execution of the code under the bound
abbrev pub execution : Code → ℕ → List ℤ → List ℤ → Ran
execution code maxt = exec code maxt

-- the answer of a run that ended so
abbrev pub answer_of : Ending → Result (Unit {0}) Refusal
answer_of Finished = Ok tt
answer_of (BadLine n) = Err (refusal.BadInput n)
answer_of Broken = Err refusal.Broken

-- Why a run stops where no line and no instance says so: there was no memory; a read of the input failed, and the whole
-- text of all lines that were taken whole was put; or a put failed.
pub data Stops (t : Tree) (before now : Held) (refused : Refusal) : Type 0 where
  NoMemory : refused ≡ refusal.Memory → Stops t before now refused
  ReadFailed : refused ≡ refusal.ReadFault None → HasAnswered t (width_of is_in t.cells) before.left now.left before.out now.out → Stops t before now refused
  PutFailed : refused ≡ refusal.WriteFault None → Stops t before now refused

-- Runs a task over the lines of the input, each execution of its code under the bound. It means the whole text, and where no line
-- is bad and no instance breaks the input is read to its end. Where it is cut off a front of the text was put.
abbrev pub running : Tree → Code → ℕ → Stage (Unit {0})
running t code maxt = record {
  meant = λ b n r. (ending : Ending) × (r ≡ answer_of ending) × RanTo t maxt (execution code maxt) (input_lines t b.left) ending b.out n.out
      × (n.files ≡ b.files) × (r ≡ Ok tt → IsAtEnd n.left);
  cut = λ b n e. RanInto t maxt (execution code maxt) (input_lines t b.left) b.out n.out × (n.files ≡ b.files) × Stops t b n e;
}
