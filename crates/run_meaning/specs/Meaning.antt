-- The text of a run in the meaning of a source project alone.
use Rattle.std.specs.Prelude.{◌≡◌, ℕ, ◌<◌, ◌≤◌, List, length, ℤ}
use Rattle.lines.specs.Lines.{Lines}
use Rattle.script.specs.declared.script.Pace.{Pace}
use Rattle.script.specs.declared.script.Silence.{Silence}
use Rattle.graph.specs.JobGraph.{JobGraph}
use Rattle.plant.specs.declared.system.Plant.{Plant}
use Rattle.tables.specs.Named.{job_at}
use Rattle.project_source.specs.Project.{SourceProject, IsSourceProject}
use Rattle.project_source.specs.Run.{state_words, source_execution}
use Rattle.carries.specs.Carries.{Carries}
use Rattle.word_code.specs.Execution.{exec}
use Rattle.word_code.specs.declared.code.Code.{Code}
use Rattle.plant_run.specs.PlantRun.{Cost, plant_cost, plant_execution}
use Rattle.cluster_model.specs.Plan.{Plan}
use Rattle.cluster_model.specs.PlanOf.{plan_of}
use Rattle.run_texts.specs.Along.{along_net, along_plant, setting_of}
use Rattle.run_texts.specs.RunText.{Going, cycles_text, run_ending}
use Rattle.run_agreement.specs.Agreement.{AreLines}
use Rattle.run_agreement.specs.ClusterRun.{along_cluster}

-- the run of a source project: each job is an instance of its task, along the edges; of the cycles of its executions, which
-- are the code's alone, the closing lines tell
abbrev pub along_source : SourceProject → JobGraph → Cost → Going (List (List ℤ))
along_source s g cost = along_net s.net g (state_words s.tasks) (source_execution s.tasks) cost

-- each job has ended above its release, and at its deadline or before
abbrev pub AreInTime : JobGraph → (ends : ℕ → ℕ) → Type 0
AreInTime g ends = (job : ℕ) → job < length g.jobs → ((job_at g job).release < ends job) × (ends job ≤ (job_at g job).deadline)

-- the plan by which a cluster of the plant runs
abbrev pub plan_of_plant : Plant Code → Plan
plan_of_plant plant = plan_of plant.net plant.graph plant.tables plant.states (plant_execution exec plant) (plant_cost exec plant)

-- What a plant that carries a source project shows, under any script and over any lines: the text of the plant's cycles and of
-- its cluster's is that of the source, and each output comes in time.
pub record ShowsSource (plant : Plant Code) (s : SourceProject) : Type 0 where
  pub plant_text : (silences : List Silence) (lines : Lines) → AreLines plant.net plant.graph.cycle lines
      → cycles_text (setting_of plant silences) (along_plant exec plant) lines ≡ cycles_text (setting_of plant silences) (along_source s plant.graph (plant_cost exec plant)) lines
  pub plant_ending : (silences : List Silence) (lines : Lines) → AreLines plant.net plant.graph.cycle lines
      → run_ending (setting_of plant silences) (along_plant exec plant) lines ≡ run_ending (setting_of plant silences) (along_source s plant.graph (plant_cost exec plant)) lines
  pub cluster_text : (silences : List Silence) (paces : List Pace) (lines : Lines) → AreLines plant.net plant.graph.cycle lines
      → cycles_text (setting_of plant silences) (along_cluster (plan_of_plant plant) silences paces) lines
      ≡ cycles_text (setting_of plant silences) (along_source s plant.graph (plant_cost exec plant)) lines
  pub cluster_ending : (silences : List Silence) (paces : List Pace) (lines : Lines) → AreLines plant.net plant.graph.cycle lines
      → run_ending (setting_of plant silences) (along_cluster (plan_of_plant plant) silences paces) lines
      ≡ run_ending (setting_of plant silences) (along_source s plant.graph (plant_cost exec plant)) lines
  pub in_time : (silences : List Silence) → AreInTime plant.graph (setting_of plant silences).ends

abbrev pub RunMeaning : Type 0
RunMeaning = (plant : Plant Code) (s : SourceProject) → IsSourceProject s → Carries plant s → ShowsSource plant s
