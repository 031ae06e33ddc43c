-- That the lines written are the run text's.
use Rattle.std.specs.Prelude.{◌≡◌, ℕ, ◌<◌, List, length, map, slice_index, ℤ, Option, None, Some}
use Rattle.graph.specs.Net.{outs_of}
use Rattle.net_run.specs.Words.{port_words}
use Rattle.cluster_model.specs.State.{Status, given}
use Rattle.tables_text.specs.Text.{lines_of}
use Rattle.run_texts.specs.RunText.{is_broke, outs_text, broken_text, closing}
use Rattle.run_texts.specs.Setting.{Setting, actuator_task, actuator_port, job_for, outputs}
use Rattle.cycle_outputs.specs.declared.order.CycleOutput.{CycleOutput}
use Rattle.cycle_outputs.specs.Ordered.{as_output}
use Rattle.cycle_text.specs.Lines.{line_of_output, line_of_broken, line_of_seen, numbered}

-- what an actuator gets of a job's outputs
abbrev pub words_for : Setting → (actuator : ℕ) → Option (List ℤ) → Option (List ℤ)
words_for s actuator None = None
words_for s actuator (Some outs) = Some (port_words (outs_of s.net (actuator_task s actuator)) (actuator_port s actuator) outs)

-- The lines of a cycle's outputs, of its broken jobs and of a run's end are those of the run text, where each actuator gets the
-- words of what each job came to, the broken jobs are those that broke, and each task's most cycles are known.
pub record LinesAreText : Type 0 where
  pub outs : (s : Setting) (cycle : ℕ) (list : List CycleOutput) (words : ℕ → ℕ → Option (List ℤ)) (status : ℕ → Status) → map as_output list ≡ outputs s
      → ((actuator instance : ℕ) → words actuator instance ≡ words_for s actuator (given (status (job_for s actuator instance))))
      → lines_of (line_of_output s.net cycle words) list ≡ outs_text s cycle status
  pub broken : (s : Setting) (cycle : ℕ) (status : ℕ → Status)
      → numbered (line_of_broken s.net s.graph cycle (λ job. is_broke (status job))) (length s.graph.jobs) ≡ broken_text s cycle status
  pub closed : (s : Setting) (most : List ℕ) (seen : ℕ → ℕ) → ((task : ℕ) → slice_index most task ≡ seen task)
      → numbered (line_of_seen s.net s.maxts most) (length s.net.tasks) ≡ closing s seen
