-- A replica in its seat. This project's own.
use Rattle.std.specs.Prelude.{◌≡◌, ℕ, ◌≤◌, Bool, true, false, List, [], length, map, get_or, slice_index, ℤ, Option, None, Some}
use Rattle.mars_base.specs.declared.shape.Side.{Side}
use Rattle.plant.specs.declared.system.Plant.{Plant}
use Rattle.plant.specs.InOrder.{IsInOrder}
use Rattle.plant.specs.Programs.{ProgramsFit}
use Rattle.tables.specs.Named.{job_at}
use Rattle.job_book.specs.Known.{status_of}
use Rattle.cluster_losses.specs.Plants.{HaveWords}
use Rattle.cluster_model.specs.Cluster.{fresh_held, first_held_states}
use Rattle.cluster_model.specs.Plan.{Plan}
use Rattle.cluster_model.specs.State.{Held, Mode, Running, Silent}
use Rattle.cluster_seats.specs.Seats.{Seated}
use Rattle.replica_duties.specs.Duties.{AreDutiesOf}
use Rattle.replica_desk.specs.declared.desk.Desk.{Desk}
use Rattle.replica_desk.specs.Desk.{IsDesk, HasStates}
use Rattle.replica_work.specs.Works.{RunsOn}
use Rattle.replica_seat.specs.declared.replica.Replica.{Replica}

abbrev pub mode_of : (is_silent : Bool) → Mode
mode_of true = Silent
mode_of false = Running

-- the state from which the job in hand runs, by its task
abbrev pub state_at : (states : List (List ℤ)) → (hand : Option ℕ) → (task : ℕ) → List ℤ
state_at states None task = []
state_at states (Some job) task = get_or states task []

-- what a replica holds, where the job in hand is of this task
abbrev pub held_by : (task : ℕ) → Desk → Held
held_by task d = record {
  clock = d.clock;
  states = d.states;
  taken = d.inbox.words;
  jobs = map (status_of (state_at d.states d.hand task) d.ins) d.book.jobs;
}

abbrev pub seat_of : {C : Type 0} → Replica C → Seated
seat_of r = record { mode = mode_of r.is_silent; held = held_by r.task r.desk; unit = r.duties.unit; side = r.duties.side }

-- before the first cycle
abbrev pub first_seat : Plan → (unit : ℕ) → Side → Seated
first_seat p unit side = record { mode = Running; held = fresh_held p (first_held_states p unit); unit = unit; side = side }

module _ {C P : Type 0} (runs : C → P → List ℤ → List ℤ → ℕ → Type 0) (plant : Plant P) where
  -- the replica is made for the plant, and all that it keeps stands as its clock says
  pub record IsAlive (r : Replica C) : Type 0 where
    pub duties : AreDutiesOf plant.net plant.graph plant.tables r.duties.unit r.duties.side r.duties
    pub desk : IsDesk plant.net plant.graph plant.tables r.duties.unit 1 r.desk
    pub sizes : HasStates plant.net plant.graph plant.tables r.duties.unit plant.states r.desk.states
    pub task : (job : ℕ) → r.desk.hand ≡ Some job → r.task ≡ (job_at plant.graph job).task
    pub outs : length r.outs.items ≡ 256
    pub state : (task : ℕ) → slice_index plant.states task ≤ length r.state.items
    pub runs_on : RunsOn plant runs r.desk r.desk.clock r.cpu r.desk.hand

-- a plant that replicas can run: it is in order, and its programs fit it and have words alone
pub record IsFit {P : Type 0} (takes gives has : P → ℕ) (has_words : P → Type 0) (plant : Plant P) : Type 0 where
  pub in_order : IsInOrder plant
  pub fits : ProgramsFit takes gives has plant
  pub have_words : HaveWords has_words plant
