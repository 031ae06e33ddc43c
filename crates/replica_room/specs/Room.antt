-- The memory of a replica before its first cycle. This project's own.
use Rattle.std.specs.Prelude.{◌≡◌, ℕ, ◌≤◌, List, [], length, slice_index, ℤ}
use Rattle.plant.specs.declared.system.Plant.{Plant}
use Rattle.net_run.specs.NetRun.{Execution}
use Rattle.cluster_model.specs.Cluster.{first_held_states}
use Rattle.cluster_model.specs.PlanOf.{plan_of}
use Rattle.replica_room.specs.Fresh.{AreFreshJobs, AreFreshMessages}
use Rattle.replica_room.specs.declared.room.Room.{Room}

-- all jobs wait, nothing is taken, and the states are those before the first cycle, as in the model; there is room for
-- the outputs of any job and the state of any task
pub record IsFirstRoom {P : Type 0} (plant : Plant P) (unit : ℕ) (room : Room) : Type 0 where
  pub jobs : AreFreshJobs plant.net plant.graph room.book
  pub messages : AreFreshMessages plant.net plant.tables room.inbox
  pub states : (exec : Execution) (cost : ℕ → List ℤ → List ℤ → ℕ) → room.states ≡ first_held_states (plan_of plant.net plant.graph plant.tables plant.states exec cost) unit
  pub tasks : length room.states ≡ length plant.net.tasks
  pub ins : room.ins ≡ []
  pub outs : length room.outs.items ≡ 256
  pub state : (task : ℕ) → slice_index plant.states task ≤ length room.state.items
