-- The whole text of a run in the meaning of a source project alone.
use Rattle.std.specs.Prelude.{◌≡◌, ℕ, ◌<◌, ◌≤◌, List, length, slice_get, slice_index, sum, ℤ, Some}
use Rattle.lines.specs.Lines.{Lines}
use Rattle.script.specs.declared.script.Pace.{Pace}
use Rattle.script.specs.declared.script.Silence.{Silence}
use Rattle.graph.specs.Net.{ins_of}
use Rattle.mc_tree.specs.declared.tree.Task.{Task}
use Rattle.net_run.specs.Alike.{HasWords}
use Rattle.processor.specs.Ends.{Halted, Over}
use Rattle.plant.specs.declared.system.Plant.{Plant}
use Rattle.project_source.specs.Project.{SourceProject, IsSourceProject}
use Rattle.project_source.specs.Run.{source_execution}
use Rattle.carries.specs.Carries.{Carries}
use Rattle.task_source.specs.Bound.{code_of}
use Rattle.word_code.specs.Execution.{exec}
use Rattle.word_code.specs.declared.code.Code.{Code}
use Rattle.plant_run.specs.PlantRun.{plant_cost}
use Rattle.run_texts.specs.Along.{along_plant, setting_of}
use Rattle.run_texts.specs.RunText.{run_text, seen_in}
use Rattle.run_agreement.specs.Agreement.{AreLines}
use Rattle.run_agreement.specs.ClusterRun.{along_cluster}
use Rattle.run_meaning.specs.Meaning.{along_source, plan_of_plant}

-- the execution of a task's code under its bound comes to this end, within the bound
pub record EndsWithin (t : Task) (maxt : ℕ) (state ins left outs : List ℤ) : Type 0 where
  pub cycles : ℕ
  pub ends : exec (code_of t) maxt state ins ≡ Over (Halted (left, outs)) cycles
  pub within : cycles ≤ maxt

-- What a plant that carries a source project shows, under any script and over any lines that fit.
pub record ShowsWhole (plant : Plant Code) (s : SourceProject) : Type 0 where
  -- the whole text, the closing lines too, is the source's: the plant's run has it, and its cluster's
  pub plant_whole : (silences : List Silence) (lines : Lines) → AreLines plant.net plant.graph.cycle lines
      → run_text (setting_of plant silences) (along_plant exec plant) lines ≡ run_text (setting_of plant silences) (along_source s plant.graph (plant_cost exec plant)) lines
  pub cluster_whole : (silences : List Silence) (paces : List Pace) (lines : Lines) → AreLines plant.net plant.graph.cycle lines
      → run_text (setting_of plant silences) (along_cluster (plan_of_plant plant) silences paces) lines
      ≡ run_text (setting_of plant silences) (along_source s plant.graph (plant_cost exec plant)) lines
  -- the most cycles of a task are within its bound
  pub within : (silences : List Silence) (lines : Lines) (task : ℕ) → task < length plant.net.tasks
      → seen_in (setting_of plant silences) (along_source s plant.graph (plant_cost exec plant)) lines task ≤ slice_index plant.maxts task
  -- an instance that the source gives is never cut
  pub never_cut : (task : ℕ) (t : Task) (state ins left outs : List ℤ) → slice_get s.tasks task ≡ Some t → task < length plant.net.tasks
      → HasWords (slice_index plant.states task) state → HasWords (sum (ins_of plant.net task)) ins
      → source_execution s.tasks task state ins ≡ Halted (left, outs) → EndsWithin t (slice_index plant.maxts task) state ins left outs

abbrev pub WholeMeaning : Type 0
WholeMeaning = (plant : Plant Code) (s : SourceProject) → IsSourceProject s → Carries plant s → ShowsWhole plant s
