-- The lines of run text by what a cycle has come to. This project's own.
use Rattle.std.specs.Prelude.{ℕ, Bool, if◌then◌else◌, List, [], length, slice_get, slice_index, ℤ, Option, None, Some}
use Rattle.std.specs.List.{range_with_len, flat_map}
use Rattle.graph.specs.JobGraph.{JobGraph}
use Rattle.graph.specs.declared.net.Net.{Net}
use Rattle.tables.specs.Named.{job_at}
use Rattle.tables_text.specs.Text.{task_name, lines_of}
use Rattle.run_texts.specs.Lines.{out_line, broken_line, task_line}
use Rattle.run_texts.specs.Setting.{plug_name}
use Rattle.cycle_outputs.specs.declared.order.CycleOutput.{CycleOutput}

-- the line of an output; none where there are no words
abbrev pub given_line : (cycle : ℕ) → (name : List ℕ) → (instance tick : ℕ) → Option (List ℤ) → List ℕ
given_line cycle name instance tick None = []
given_line cycle name instance tick (Some words) = out_line cycle name instance tick words

module _ (net : Net) where
  -- the line of an output by the words of each actuator and instance
  abbrev pub line_of_output : (cycle : ℕ) → (words : ℕ → ℕ → Option (List ℤ)) → CycleOutput → List ℕ
  line_of_output cycle words o = given_line cycle (plug_name (slice_get net.actuators o.actuator)) o.instance o.tick (words o.actuator o.instance)

  -- the line of a job where it is broken
  abbrev pub line_of_broken : JobGraph → (cycle : ℕ) → (broken : ℕ → Bool) → (job : ℕ) → List ℕ
  line_of_broken g cycle broken job = if broken job then broken_line cycle (task_name net (job_at g job).task) (job_at g job).instance else []

  -- the closing line of a task
  abbrev pub line_of_seen : (maxts seen : List ℕ) → (task : ℕ) → List ℕ
  line_of_seen maxts seen task = task_line (task_name net task) (slice_index maxts task) (slice_index seen task)

-- the lines of the numbers below n
abbrev pub numbered : (line : ℕ → List ℕ) → (n : ℕ) → List ℕ
numbered line n = flat_map line (range_with_len 0 n)
