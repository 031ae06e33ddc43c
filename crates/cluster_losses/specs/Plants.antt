-- That a plant in order, whose programs fit it, is what the laws of the cluster's agreement speak of.
use Rattle.std.specs.Prelude.{◌≡◌, ℕ, List, ℤ, get_or, slice_get, Some}
use Rattle.script.specs.declared.script.Silence.{Silence}
use Rattle.processor.specs.Results.{Ran}
use Rattle.plant.specs.declared.system.Plant.{Plant}
use Rattle.plant.specs.InOrder.{IsInOrder}
use Rattle.plant.specs.Programs.{ProgramsFit}
use Rattle.plant_run.specs.PlantRun.{plant_execution, plant_cycle}
use Rattle.net_run.specs.Alike.{IsLine}
use Rattle.net_run.specs.NetRun.{Skipped}
use Rattle.cluster_model.specs.Cluster.{first_state}
use Rattle.cluster_model.specs.Plan.{Plan}
use Rattle.cluster_model.specs.PlanOf.{plan_of}
use Rattle.cluster_model.specs.State.{State}
use Rattle.cluster_agreement.specs.Agreement.{IsSet}
use Rattle.cluster_agreement.specs.Agrees.{Agrees}
use Rattle.cluster_agreement.specs.Runs.{Event, steps, AllMay, NoneLost}

-- each program of the plant has words alone
abbrev pub HaveWords : {P : Type 0} → (has_words : P → Type 0) → Plant P → Type 0
HaveWords {P} has_words plant = (task : ℕ) (program : P) → slice_get plant.programs task ≡ Some program → has_words program

-- the net, graph, tables and state words of such a plant, and its execution, keep the premise of the agreement
abbrev pub PlantsAreSet : {P : Type 0} → (takes gives has : P → ℕ) → (execution : P → ℕ → List ℤ → List ℤ → Ran) → (has_words : P → Type 0) → Type 0
PlantsAreSet {P} takes gives has execution has_words = (plant : Plant P) → IsInOrder plant → ProgramsFit takes gives has plant → HaveWords has_words plant
    → IsSet plant.net plant.graph plant.tables plant.states (plant_execution execution plant)

module _ {P : Type 0} (execution : P → ℕ → List ℤ → List ℤ → Ran) (plant : Plant P) (cost : ℕ → List ℤ → List ℤ → ℕ) where
  -- what a plant's cluster is set to do in every cycle, and its state after some events
  abbrev pub plant_plan : Plan
  plant_plan = plan_of plant.net plant.graph plant.tables plant.states (plant_execution execution plant) cost

  abbrev pub after_events : List Silence → List Event → State
  after_events silences events = steps plant_plan silences (first_state plant_plan) events

  -- a state agrees with what the plant's run comes to in this cycle, from the states of the cycle's start and over this line
  abbrev pub AgreesWithPlant : State → (line : List ℤ) → Type 0
  AgreesWithPlant s line = Agrees plant_plan (λ job. get_or (plant_cycle execution plant s.start line).results job Skipped) (plant_cycle execution plant s.start line).states s

-- the cluster of such a plant agrees with its run over every list of enabled events, as long as no unit is lost
abbrev pub PlantsAgree : {P : Type 0} → (takes gives has : P → ℕ) → (execution : P → ℕ → List ℤ → List ℤ → Ran) → (has_words : P → Type 0) → Type 0
PlantsAgree {P} takes gives has execution has_words = (plant : Plant P) (cost : ℕ → List ℤ → List ℤ → ℕ) (silences : List Silence) → IsInOrder plant → ProgramsFit takes gives has plant → HaveWords has_words plant
    → (events : List Event) → AllMay (plant_plan execution plant cost) silences (IsLine plant.net plant.graph.cycle) (first_state (plant_plan execution plant cost)) events
    → NoneLost (plant_plan execution plant cost) silences (after_events execution plant cost silences events).cycle
    → (line : List ℤ) → (after_events execution plant cost silences events).line ≡ Some line
    → AgreesWithPlant execution plant cost (after_events execution plant cost silences events) line
