-- That the lines written are the trace's.
use Rattle.std.specs.Prelude.{◌≡◌, ℕ, List, ℤ, Option}
use Rattle.std.specs.List.{flat_map}
use Rattle.tables.specs.Named.{entry_at}
use Rattle.tables.specs.declared.table.Tables.{Tables}
use Rattle.cluster_model.specs.declared.effect.Effect.{Effect}
use Rattle.tables_text.specs.Text.{lines_of}
use Rattle.run_texts.specs.Setting.{Setting, job_for}
use Rattle.run_agreement.specs.Trace.{effect_line}
use Rattle.cycle_text.specs.Laws.{words_for}
use Rattle.trace_text.specs.declared.place.Place.{Place}
use Rattle.trace_text.specs.Lines.{line_of_effect}

-- The lines of effects are those of the trace, each alone and one after another, where the tables end each job when it has
-- ended, and each actuator gets the words of what its job has given.
pub record LinesAreTrace : Type 0 where
  pub line : (s : Setting) (t : Tables) (place : Place) (words : ℕ → ℕ → Option (List ℤ)) (gave : ℕ → Option (List ℤ)) (e : Effect)
      → ((job : ℕ) → (entry_at t job).end ≡ s.ends job)
      → ((actuator instance : ℕ) → words actuator instance ≡ words_for s actuator (gave (job_for s actuator instance)))
      → line_of_effect s.net s.graph t words place e ≡ effect_line s place.cycle place.tick place.unit place.side gave e
  pub lines : (s : Setting) (t : Tables) (place : Place) (words : ℕ → ℕ → Option (List ℤ)) (gave : ℕ → Option (List ℤ)) (effects : List Effect)
      → ((job : ℕ) → (entry_at t job).end ≡ s.ends job)
      → ((actuator instance : ℕ) → words actuator instance ≡ words_for s actuator (gave (job_for s actuator instance)))
      → lines_of (line_of_effect s.net s.graph t words place) effects ≡ flat_map (effect_line s place.cycle place.tick place.unit place.side gave) effects
