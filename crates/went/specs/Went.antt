-- What a run's text says, in the meaning of a source project alone: no slot, table or replica.
use Rattle.std.specs.Prelude.{◌≡◌, ℕ, ◌<◌, ◌≤◌, List, length, map, slice_get, slice_index, sum, ℤ, Some}
use Rattle.lines.specs.Lines.{lines_of}
use Rattle.script.specs.declared.script.Pace.{Pace}
use Rattle.script.specs.declared.script.Silence.{Silence}
use Rattle.graph.specs.Cycle.{sensor_words}
use Rattle.graph.specs.JobGraph.{JobGraph}
use Rattle.graph.specs.Net.{ins_of}
use Rattle.graph.specs.NetGraph.{IsNetGraphFor}
use Rattle.mc_tree.specs.declared.tree.Task.{Task}
use Rattle.net_run.specs.Alike.{HasWords}
use Rattle.plant.specs.Lengths.{lengths_of}
use Rattle.plant.specs.declared.system.Plant.{Plant}
use Rattle.plant_run.specs.PlantRun.{Cost, cycles_at}
use Rattle.processor.specs.Ends.{Halted}
use Rattle.project_source.specs.Project.{SourceProject, IsSourceProject}
use Rattle.project_source.specs.Run.{state_words, source_execution}
use Rattle.carries.specs.Carries.{AreBounds, Carries}
use Rattle.task_source.specs.Bound.{code_of}
use Rattle.word_code.specs.Execution.{exec}
use Rattle.word_code.specs.declared.code.Code.{Code}
use Rattle.run_texts.specs.Along.{setting_of}
use Rattle.run_texts.specs.RunText.{run_text, seen_in}
use Rattle.run_agreement.specs.ClusterRun.{along_cluster}
use Rattle.run_meaning.specs.Meaning.{along_source, AreInTime, plan_of_plant}
use Rattle.whole_meaning.specs.Whole.{EndsWithin}

-- the cycles of an execution of a task's code under its bound
abbrev pub source_cost : List Task → (bounds : List ℕ) → Cost
source_cost tasks bounds task state ins = cycles_at exec (slice_get (map code_of tasks) task) (slice_index bounds task) state ins

-- The text went as the source project means, for an input and the silences of a script.
pub record WentAs (s : SourceProject) (silences : List Silence) (input text : List ℕ) : Type 0 where
  -- the bound of each task: the greatest cycles of an unbroken free run of its code
  pub bounds : List ℕ
  pub are_bounds : AreBounds s.tasks bounds
  -- the jobs of a cycle, as long as these bounds say
  pub graph : JobGraph
  pub is_graph : IsNetGraphFor s.net (lengths_of bounds s.net.shape.cycles_per_tick) graph
  -- the tick at which each job ends: above its release, and at its deadline or before
  pub ends : (job : ℕ) → ℕ
  pub in_time : AreInTime graph ends
  -- the text is that of the source's run over the lines of the input
  pub text_is : text ≡ run_text (record { net = s.net; graph = graph; ends = ends; maxts = bounds; silences = silences }) (along_source s graph (source_cost s.tasks bounds)) (lines_of (sensor_words s.net graph.cycle) input)
  -- what a task is seen to take is within its bound
  pub within : (task : ℕ) → task < length s.net.tasks
      → seen_in (record { net = s.net; graph = graph; ends = ends; maxts = bounds; silences = silences }) (along_source s graph (source_cost s.tasks bounds)) (lines_of (sensor_words s.net graph.cycle) input) task
      ≤ slice_index bounds task
  -- an instance that the source gives is never cut: the execution of its code ends so, within the bound
  pub never_cut : (task : ℕ) (t : Task) (state ins left outs : List ℤ) → slice_get s.tasks task ≡ Some t → task < length s.net.tasks
      → HasWords (slice_index (state_words s.tasks) task) state → HasWords (sum (ins_of s.net task)) ins
      → source_execution s.tasks task state ins ≡ Halted (left, outs) → EndsWithin t (slice_index bounds task) state ins left outs

-- for every input text and under any script
abbrev pub WentAsMeant : Type 0
WentAsMeant = (plant : Plant Code) (s : SourceProject) → IsSourceProject s → Carries plant s → (silences : List Silence) (paces : List Pace) (input : List ℕ)
    → WentAs s silences input
    (run_text (setting_of plant silences) (along_cluster (plan_of_plant plant) silences paces) (lines_of (sensor_words plant.net plant.graph.cycle) input))
