-- The lines written are the trace's.
use Rattle.std.proofs.Common.{◌≡◌, ℕ, List, [], ◌∷◌, ◌++◌, ℤ, Option, None, Some, refl, sym, ◌∙◌, ap, append_assoc}
use Rattle.std.specs.Prelude.{codes, decimal, slice_get}
use Rattle.std.specs.Fmt.{signed_decimal}
use Rattle.std.specs.List.{flat_map}
use Rattle.graph.specs.declared.net.NetTask.{NetTask}
use Rattle.tables.specs.Named.{job_at, entry_at}
use Rattle.tables.specs.declared.table.Tables.{Tables}
use Rattle.cluster_model.specs.declared.effect.Effect.{Effect}
use Rattle.cluster_model.specs.declared.effect.Effect.TheVariants as effect
use Rattle.tables_text.specs.Text.{name_in, lines_of}
use Rattle.run_texts.specs.Setting.{Setting, task_name_in, name_of_task, actuator_name, job_for, tick_of}
use Rattle.run_agreement.specs.Trace.{side_text, unit_text, behind, line_of, own_line, job_parts, output_line, effect_line}
use Rattle.cycle_outputs.specs.Ordered.{setting_in}
use Rattle.cycle_text.specs.Laws.{words_for}
use Rattle.cycle_text.specs.Lines.{given_line}
use Rattle.trace_text.specs.declared.place.Place.{Place}
use Rattle.trace_text.specs.Laws.{LinesAreTrace}
use Rattle.trace_text.specs.Lines.{ended, line_at, job_line, end_line, line_of_effect}

ended_is : (parts : List (List ℕ)) → ended parts ≡ behind parts ++ codes "\n"
ended_is [] = refl
ended_is (part ∷ parts) =
    ap (λ (xs : List ℕ). codes " " ++ (part ++ xs)) (ended_is parts) ∙ ap (λ (xs : List ℕ). codes " " ++ xs) (sym (append_assoc part (behind parts) (codes "\n")))

same_name : (o : Option NetTask) → name_in o ≡ task_name_in o
same_name None = refl
same_name (Some task) = refl

module _ (s : Setting) (t : Tables) (place : Place) (words : ℕ → ℕ → Option (List ℤ)) (gave : ℕ → Option (List ℤ))
    (ends : (job : ℕ) → (entry_at t job).end ≡ s.ends job)
    (right : (actuator instance : ℕ) → words actuator instance ≡ words_for s actuator (gave (job_for s actuator instance))) where
  own : (word : List ℕ) (at : ℕ) (parts : List (List ℕ)) → line_at place word at parts ≡ own_line s place.cycle place.tick place.unit place.side gave word at parts
  own word at parts = ap (λ (xs : List ℕ). word ++ xs) (ended_is (decimal place.cycle ∷ decimal at ∷ unit_text place.unit ∷ side_text place.side ∷ parts))

  -- a line of a job with more behind it
  job_own : (word : List ℕ) (at job : ℕ) (more : List (List ℕ))
      → line_at place word at (name_in (slice_get s.net.tasks (job_at s.graph job).task) ∷ decimal (job_at s.graph job).instance ∷ more)
      ≡ own_line s place.cycle place.tick place.unit place.side gave word at (job_parts s place.cycle place.tick place.unit place.side gave job more)
  job_own word at job more =
      ap (λ (name : List ℕ). line_at place word at (name ∷ decimal (job_at s.graph job).instance ∷ more)) (same_name (slice_get s.net.tasks (job_at s.graph job).task))
      ∙ own word at (name_of_task s (job_at s.graph job).task ∷ decimal (job_at s.graph job).instance ∷ more)

  out_same : (actuator instance : ℕ) (outs : Option (List ℤ))
      → given_line place.cycle (actuator_name s actuator) instance (tick_of s actuator instance) (words_for s actuator outs) ≡ output_line s place.cycle place.tick place.unit place.side gave actuator instance outs
  out_same actuator instance None = refl
  out_same actuator instance (Some outs) = refl

  line_same : (e : Effect) → line_of_effect s.net s.graph t words place e ≡ effect_line s place.cycle place.tick place.unit place.side gave e
  line_same (effect.Take from side round) = own (codes "take") place.tick (unit_text from ∷ side_text side ∷ decimal round ∷ [])
  line_same (effect.Miss from round) = own (codes "miss") place.tick (unit_text from ∷ decimal round ∷ [])
  line_same (effect.Put word) = own (codes "put") place.tick (signed_decimal word ∷ [])
  line_same (effect.Start job) = job_own (codes "start") place.tick job []
  line_same (effect.Skip job) = job_own (codes "skip") place.tick job []
  line_same (effect.End job cycles) = ap (λ at. end_line s.net s.graph place at job cycles) (ends job) ∙ job_own (codes "end") (s.ends job) job (decimal cycles ∷ [])
  line_same (effect.Break job) = ap (λ at. job_line s.net s.graph place (codes "break") at job) (ends job) ∙ job_own (codes "break") (s.ends job) job []
  line_same (effect.Out actuator instance) =
      ap (λ at. given_line place.cycle (actuator_name s actuator) instance at (words actuator instance)) (ends (job_for s actuator instance))
      ∙ ap (given_line place.cycle (actuator_name s actuator) instance (tick_of s actuator instance)) (right actuator instance)
      ∙ out_same actuator instance (gave (job_for s actuator instance))
  line_same effect.Fell = own (codes "silent") place.tick []
  line_same effect.Cut = own (codes "cut") place.tick []

  lines_same : (effects : List Effect) → lines_of (line_of_effect s.net s.graph t words place) effects ≡ flat_map (effect_line s place.cycle place.tick place.unit place.side gave) effects
  lines_same [] = refl
  lines_same (e ∷ effects) =
      ap (λ (xs : List ℕ). xs ++ lines_of (line_of_effect s.net s.graph t words place) effects) (line_same e)
      ∙ ap (λ (xs : List ℕ). effect_line s place.cycle place.tick place.unit place.side gave e ++ xs) (lines_same effects)

pub lines_are_trace : LinesAreTrace
lines_are_trace = record {
  line = λ s t place words gave e ends right. line_same s t place words gave ends right e;
  lines = λ s t place words gave effects ends right. lines_same s t place words gave ends right effects;
}
