-- What a replica holds, and how it stands at its clock. This project's own.
use Rattle.std.specs.Prelude.{◌≡◌, ℕ, ◌≤◌, length, slice_index, List, ℤ}
use Rattle.mars_base.specs.declared.shape.Side.{Side}
use Rattle.plant.specs.declared.system.Plant.{Plant}
use Rattle.graph.specs.JobGraph.{JobGraph}
use Rattle.cluster_model.specs.State.{Held}
use Rattle.replica_duties.specs.Duties.{AreDutiesOf}
use Rattle.replica_desk.specs.Desk.{IsDesk, HasStates, held_in}
use Rattle.replica_work.specs.Works.{RunsOn}
use Rattle.replica.specs.declared.running.Running.{Running}

-- what the model's replica holds
abbrev pub held_by : {C : Type 0} → JobGraph → Running C → Held
held_by g r = held_in g r.desk

module _ {C P : Type 0} (runs : C → P → List ℤ → List ℤ → ℕ → Type 0) (plant : Plant P) where
  -- the replica of this unit and side is made for the plant, what it holds is in order, and its processor has run the job in
  -- hand as far as that job's ticks before the clock allow
  pub record IsAlive (unit : ℕ) (side : Side) (r : Running C) : Type 0 where
    pub duties : AreDutiesOf plant.net plant.graph plant.tables unit side r.duties
    pub desk : IsDesk plant.net plant.graph plant.tables unit 1 r.desk
    pub sizes : HasStates plant.net plant.graph plant.tables unit plant.states r.desk.states
    pub runs_on : RunsOn plant runs r.desk r.desk.clock r.cpu r.desk.hand
    pub outs : length r.outs.items ≡ 256
    pub state : (task : ℕ) → slice_index plant.states task ≤ length r.state.items
