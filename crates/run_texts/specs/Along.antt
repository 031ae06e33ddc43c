-- Runs along a net, and that of a plant.
use Rattle.std.specs.Prelude.{ℕ, ℤ, List, get_or, Option, None, Some}
use Rattle.script.specs.declared.script.Silence.{Silence}
use Rattle.graph.specs.JobGraph.{JobGraph}
use Rattle.graph.specs.declared.net.Net.{Net}
use Rattle.tables.specs.Named.{job_at, entry_at}
use Rattle.net_run.specs.NetRun.{JobResult, Done, Broken, Skipped, Execution, one_cycle, state_before, inputs_of, first_states}
use Rattle.plant.specs.declared.system.Plant.{Plant}
use Rattle.plant_run.specs.PlantRun.{Cost, plant_cost, plant_execution}
use Rattle.processor.specs.Results.{Ran}
use Rattle.cluster_model.specs.State.{told}
use Rattle.run_texts.specs.RunText.{Going}
use Rattle.run_texts.specs.Setting.{Setting}

-- the cycles of a job that is done
abbrev pub spent : Cost → (task : ℕ) → (state : List ℤ) → Option (List ℤ) → JobResult → ℕ
spent cost task state None result = 0
spent cost task state (Some ins) (Done results) = cost task state ins
spent cost task state (Some ins) Broken = 0
spent cost task state (Some ins) Skipped = 0

module _ (net : Net) (g : JobGraph) (words : List ℕ) (exec : Execution) (cost : Cost) where
  abbrev pub result_at : (states : List (List ℤ)) → (line : List ℤ) → (job : ℕ) → JobResult
  result_at states line job = get_or (one_cycle net g.cycle exec states line).results job Skipped

  -- the run along a net: a state is one for each task, at first of 0
  abbrev pub along_net : Going (List (List ℤ))
  along_net = record {
    first = first_states words;
    status = λ states line job. told (result_at states line job);
    cycles = λ states line job.
        spent cost (job_at g job).task (state_before net g.cycle exec line states (job_at g job).instance (job_at g job).task)
        (inputs_of net g.cycle exec line states (job_at g job).instance (job_at g job).task) (result_at states line job);
    next = λ states line. (one_cycle net g.cycle exec states line).states;
  }

module _ {P : Type 0} (execution : P → (limit : ℕ) → (state ins : List ℤ) → Ran) (plant : Plant P) where
  -- the run of the plant
  abbrev pub along_plant : Going (List (List ℤ))
  along_plant = along_net plant.net plant.graph plant.states (plant_execution execution plant) (plant_cost execution plant)

abbrev pub setting_of : {P : Type 0} → Plant P → List Silence → Setting
setting_of plant silences = record { net = plant.net; graph = plant.graph; ends = λ job. (entry_at plant.tables job).end; maxts = plant.maxts; silences = silences }
