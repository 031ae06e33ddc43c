-- What the jobs of a plant come to, cycle by cycle: the run of its net, where each task's program is executed under its
-- greatest number of cycles. It is told for any processor, by what an execution of a program comes to under a limit.
use Rattle.std.specs.Prelude.{ℕ, ℤ, List, slice_get, slice_index, Option, None, Some}
use Rattle.net_run.specs.NetRun.{Execution, CycleRun, one_cycle, run_of, first_states}
use Rattle.plant.specs.declared.system.Plant.{Plant}
use Rattle.processor.specs.Ends.{End, Broken, end_under, cycles_in}
use Rattle.processor.specs.Results.{Results, Ran}

-- what an execution takes from its state and its inputs
abbrev pub Cost : Type 0
Cost = (task : ℕ) → (state ins : List ℤ) → ℕ

module _ {P : Type 0} (execution : P → (limit : ℕ) → (state ins : List ℤ) → Ran) where
  -- how an execution of a program ends for those who wait no longer than its greatest number of cycles
  abbrev pub end_at : Option P → (maxt : ℕ) → (state ins : List ℤ) → End Results
  end_at None maxt state ins = Broken
  end_at (Some program) maxt state ins = end_under (execution program maxt state ins)

  -- each task's program under its greatest number of cycles
  abbrev pub plant_execution : Plant P → Execution
  plant_execution plant task state ins = end_at (slice_get plant.programs task) (slice_index plant.maxts task) state ins

  -- the cycles that an execution takes within the greatest number of them
  abbrev pub cycles_at : Option P → (maxt : ℕ) → (state ins : List ℤ) → ℕ
  cycles_at None maxt state ins = 0
  cycles_at (Some program) maxt state ins = cycles_in (execution program maxt state ins)

  -- the cycles of an execution of a task's program under its greatest number of cycles
  abbrev pub plant_cost : Plant P → Cost
  plant_cost plant task state ins = cycles_at (slice_get plant.programs task) (slice_index plant.maxts task) state ins

  -- one cycle, from the states at its start and its line
  abbrev pub plant_cycle : Plant P → (states : List (List ℤ)) → (line : List ℤ) → CycleRun
  plant_cycle plant states line = one_cycle plant.net plant.graph.cycle (plant_execution plant) states line

  -- the cycles of some lines, one after another from states of 0; the first with a broken job is the last
  abbrev pub plant_run : Plant P → (lines : List (List ℤ)) → List CycleRun
  plant_run plant lines = run_of plant.net plant.graph.cycle (plant_execution plant) (first_states plant.states) lines
