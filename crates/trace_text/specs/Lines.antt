-- The lines of an event's effects by what a cluster has come to. This project's own.
use Rattle.std.specs.Prelude.{ℕ, List, [], ◌∷◌, ◌++◌, codes, decimal, ℤ, Option}
use Rattle.std.specs.Fmt.{signed_decimal}
use Rattle.mars_base.specs.declared.shape.Side.{Side}
use Rattle.graph.specs.JobGraph.{JobGraph}
use Rattle.graph.specs.declared.net.Net.{Net}
use Rattle.tables.specs.Named.{job_at, entry_at}
use Rattle.tables.specs.declared.table.Tables.{Tables}
use Rattle.cluster_model.specs.declared.effect.Effect.{Effect}
use Rattle.cluster_model.specs.declared.effect.Effect.TheVariants as effect
use Rattle.tables_text.specs.Text.{task_name}
use Rattle.run_texts.specs.Setting.{tick_of}
use Rattle.run_agreement.specs.Trace.{side_text, unit_text}
use Rattle.cycle_outputs.specs.declared.order.CycleOutput.{CycleOutput}
use Rattle.cycle_outputs.specs.Ordered.{setting_in}
use Rattle.cycle_text.specs.Lines.{line_of_output}
use Rattle.trace_text.specs.declared.place.Place.{Place}

-- parts, each behind a space, and the end of their line
abbrev pub ended : (parts : List (List ℕ)) → List ℕ
ended [] = codes "\n"
ended (part ∷ parts) = codes " " ++ (part ++ ended parts)

module _ (place : Place) where
  -- a line of the replica, at a tick
  abbrev pub line_at : (word : List ℕ) → (at : ℕ) → (parts : List (List ℕ)) → List ℕ
  line_at word at parts = word ++ ended (decimal place.cycle ∷ decimal at ∷ unit_text place.unit ∷ side_text place.side ∷ parts)

  -- a frame that is taken, one that is missed, a word that is put, and a line with nothing behind its replica
  abbrev pub take_line : (from : ℕ) → Side → (round : ℕ) → List ℕ
  take_line from side round = line_at (codes "take") place.tick (unit_text from ∷ side_text side ∷ decimal round ∷ [])

  abbrev pub miss_line : (from round : ℕ) → List ℕ
  miss_line from round = line_at (codes "miss") place.tick (unit_text from ∷ decimal round ∷ [])

  abbrev pub put_line : (word : ℤ) → List ℕ
  put_line word = line_at (codes "put") place.tick (signed_decimal word ∷ [])

  abbrev pub bare_line : (word : List ℕ) → List ℕ
  bare_line word = line_at word place.tick []

module _ (net : Net) (g : JobGraph) where
  -- a line of a job, by its task's name and its instance, and that of its end, with its cycles
  abbrev pub job_line : Place → (word : List ℕ) → (at job : ℕ) → List ℕ
  job_line place word at job = line_at place word at (task_name net (job_at g job).task ∷ decimal (job_at g job).instance ∷ [])

  abbrev pub end_line : Place → (at job cycles : ℕ) → List ℕ
  end_line place at job cycles = line_at place (codes "end") at (task_name net (job_at g job).task ∷ decimal (job_at g job).instance ∷ decimal cycles ∷ [])

  module _ (t : Tables) where
    -- what an actuator gets for an instance, at the tick at which the tables end the job
    abbrev pub output_of : (actuator instance : ℕ) → CycleOutput
    output_of actuator instance = record { tick = tick_of (setting_in net g t) actuator instance; actuator = actuator; instance = instance }

    -- the line of an effect, by the words of each actuator and instance
    abbrev pub line_of_effect : (words : ℕ → ℕ → Option (List ℤ)) → Place → Effect → List ℕ
    line_of_effect words place (effect.Take from side round) = take_line place from side round
    line_of_effect words place (effect.Miss from round) = miss_line place from round
    line_of_effect words place (effect.Put word) = put_line place word
    line_of_effect words place (effect.Start job) = job_line place (codes "start") place.tick job
    line_of_effect words place (effect.Skip job) = job_line place (codes "skip") place.tick job
    line_of_effect words place (effect.End job cycles) = end_line place (entry_at t job).end job cycles
    line_of_effect words place (effect.Break job) = job_line place (codes "break") (entry_at t job).end job
    line_of_effect words place (effect.Out actuator instance) = line_of_output net place.cycle words (output_of actuator instance)
    line_of_effect words place effect.Fell = bare_line place (codes "silent")
    line_of_effect words place effect.Cut = bare_line place (codes "cut")
