-- The lines written are the run text's.
use Rattle.std.proofs.Common.{◌≡◌, ℕ, zero, suc, ◌+◌, List, [], ◌∷◌, ◌++◌, length, map, ℤ, Option, None, Some, refl, sym, ◌∙◌, ap}
use Rattle.std.specs.Prelude.{if◌then◌else◌, slice_get, slice_index}
use Rattle.std.specs.List.{range_with_len, flat_map}
use Rattle.graph.specs.declared.net.NetTask.{NetTask}
use Rattle.tables.specs.Named.{job_at}
use Rattle.cluster_model.specs.State.{Status, given}
use Rattle.tables_text.specs.Text.{name_in, task_name, lines_of}
use Rattle.run_texts.specs.Lines.{broken_line, task_line}
use Rattle.run_texts.specs.RunText.{is_broke, shown, outs_text}
use Rattle.run_texts.specs.Setting.{Setting, Output, task_name_in, name_of_task, actuator_name, job_for, outputs}
use Rattle.cycle_outputs.specs.declared.order.CycleOutput.{CycleOutput}
use Rattle.cycle_outputs.specs.Ordered.{as_output}
use Rattle.cycle_text.specs.Laws.{words_for, LinesAreText}
use Rattle.cycle_text.specs.Lines.{given_line, line_of_output}

same_name : (o : Option NetTask) → name_in o ≡ task_name_in o
same_name None = refl
same_name (Some task) = refl

same_lines : (f g : ℕ → List ℕ) → ((n : ℕ) → f n ≡ g n) → (a n : ℕ) → flat_map f (range_with_len a n) ≡ flat_map g (range_with_len a n)
same_lines f g same a zero = refl
same_lines f g same a (suc n) = ap (λ xs. xs ++ flat_map f (range_with_len (a + 1) n)) (same a) ∙ ap (λ xs. g a ++ xs) (same_lines f g same (a + 1) n)

module _ (s : Setting) (cycle : ℕ) (words : ℕ → ℕ → Option (List ℤ)) (status : ℕ → Status)
    (right : (actuator instance : ℕ) → words actuator instance ≡ words_for s actuator (given (status (job_for s actuator instance)))) where
  shown_same : (o : Output) (outs : Option (List ℤ)) → given_line cycle (actuator_name s o.actuator) o.instance o.tick (words_for s o.actuator outs) ≡ shown s cycle status o outs
  shown_same o None = refl
  shown_same o (Some outs) = refl

  outs_same : (list : List CycleOutput) → lines_of (line_of_output s.net cycle words) list ≡ flat_map (λ (o : Output). shown s cycle status o (given (status (job_for s o.actuator o.instance)))) (map as_output list)
  outs_same [] = refl
  outs_same (o ∷ list) =
      ap (λ (ws : Option (List ℤ)). given_line cycle (actuator_name s o.actuator) o.instance o.tick ws ++ lines_of (line_of_output s.net cycle words) list) (right o.actuator o.instance)
      ∙ ap (λ xs. xs ++ lines_of (line_of_output s.net cycle words) list) (shown_same (as_output o) (given (status (job_for s o.actuator o.instance))))
      ∙ ap (λ xs. shown s cycle status (as_output o) (given (status (job_for s o.actuator o.instance))) ++ xs) (outs_same list)

pub lines_are_text : LinesAreText
lines_are_text = record {
  outs = λ s cycle list words status all right.
      outs_same s cycle words status right list ∙ ap (flat_map (λ (o : Output). shown s cycle status o (given (status (job_for s o.actuator o.instance))))) all;
  broken = λ s cycle status.
      same_lines (λ job. if is_broke (status job) then broken_line cycle (task_name s.net (job_at s.graph job).task) (job_at s.graph job).instance else [])
      (λ job. if is_broke (status job) then broken_line cycle (name_of_task s (job_at s.graph job).task) (job_at s.graph job).instance else [])
      (λ job. ap (λ (name : List ℕ). if is_broke (status job) then broken_line cycle name (job_at s.graph job).instance else []) (same_name (slice_get s.net.tasks (job_at s.graph job).task)))
      0 (length s.graph.jobs);
  closed = λ s most seen right.
      same_lines (λ task. task_line (task_name s.net task) (slice_index s.maxts task) (slice_index most task)) (λ task. task_line (name_of_task s task) (slice_index s.maxts task) (seen task))
      (λ task. ap (λ (name : List ℕ). task_line name (slice_index s.maxts task) (slice_index most task)) (same_name (slice_get s.net.tasks task))
      ∙ ap (task_line (name_of_task s task) (slice_index s.maxts task)) (right task))
      0 (length s.net.tasks);
}
