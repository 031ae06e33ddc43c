-- The job in hand and the processor that runs it. This project's own.
use Rattle.std.specs.Prelude.{◌≡◌, ℕ, ◌-◌, ◌<◌, ⊤, List, [], get_or, slice_get, slice_index, ℤ, Option, None, Some}
use Rattle.processor.specs.Ends.{cycles_in}
use Rattle.processor.specs.Results.{Ran}
use Rattle.tables.specs.Named.{job_at, entry_at}
use Rattle.plant.specs.declared.system.Plant.{Plant}
use Rattle.plant_run.specs.PlantRun.{plant_execution, plant_cost}
use Rattle.replica_job.specs.Hand.{limit_of}
use Rattle.cluster_model.specs.Plan.{Plan}
use Rattle.cluster_model.specs.PlanOf.{plan_of}
use Rattle.replica_desk.specs.declared.desk.Desk.{Desk}

-- what a plant's cluster is set to do, where each program is executed under its greatest number of cycles
abbrev pub set_plan : {P : Type 0} → (execution : P → ℕ → List ℤ → List ℤ → Ran) → Plant P → Plan
set_plan execution plant = plan_of plant.net plant.graph plant.tables plant.states (plant_execution execution plant) (plant_cost execution plant)

module _ {P : Type 0} (plant : Plant P) where
  -- the number of a job's task
  abbrev pub task_in : (job : ℕ) → ℕ
  task_in job = (job_at plant.graph job).task

  -- the cycles that a job may have taken before a tick
  abbrev pub limit_before : (job tick : ℕ) → ℕ
  limit_before job tick = limit_of (slice_index plant.maxts (task_in job)) (tick - (entry_at plant.tables job).start) plant.net.shape.cycles_per_tick

  -- the state from which a job runs
  abbrev pub state_for : Desk → (job : ℕ) → List ℤ
  state_for d job = get_or d.states (task_in job) []

  module _ {C : Type 0} (runs : C → P → List ℤ → List ℤ → ℕ → Type 0) (d : Desk) (tick : ℕ) (cpu : C) where
    -- the processor has run a job as far as its ticks before this one allow
    abbrev pub HasRun : (job : ℕ) → Type 0
    HasRun job = (program : P) → slice_get plant.programs (task_in job) ≡ Some program → runs cpu program (state_for d job) d.ins (limit_before job tick)

    -- so has it run the job in hand, where that started before this tick
    abbrev pub RunsOn : Option ℕ → Type 0
    RunsOn None = ⊤
    RunsOn (Some job) = (entry_at plant.tables job).start < tick → HasRun job

  -- the cycles of the longest part of a job's execution that its ticks before this one allow; 0 without a job
  module _ (execution : P → ℕ → List ℤ → List ℤ → Ran) (d : Desk) where
    abbrev pub cycles_by : Option P → (job : ℕ) → ℕ
    cycles_by None job = 0
    cycles_by (Some program) job = cycles_in (execution program (limit_before job d.clock) (state_for d job) d.ins)

    abbrev pub cycles_of : Option ℕ → ℕ
    cycles_of None = 0
    cycles_of (Some job) = cycles_by (slice_get plant.programs (task_in job)) job
