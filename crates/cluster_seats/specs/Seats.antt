-- The replicas of a cluster in their seats: of each unit A and then B. This project's own.
use Rattle.std.specs.Prelude.{◌≡◌, ℕ, ◌*◌, ◌<◌, List, [], length, map, get_or, ℤ}
use Rattle.mars_base.specs.declared.shape.Side.{Side}
use Rattle.mars_base.specs.declared.shape.Side.TheVariants.{A, B}
use Rattle.bus.specs.Numbers.{BusState}
use Rattle.plant.specs.declared.system.Plant.{Plant}
use Rattle.net_run.specs.NetRun.{Execution}
use Rattle.tick_parts.specs.OnBus.{slots_on}
use Rattle.cluster_model.specs.Plan.{Plan}
use Rattle.cluster_model.specs.PlanOf.{plan_of}
use Rattle.cluster_model.specs.State.{Held, Mode, Silent, Member, no_member, replica_number}

-- a replica without its slots: it runs or fell silent, what it holds, and whose it is
pub record Seated : Type 0 where
  pub mode : Mode
  pub held : Held
  pub unit : ℕ
  pub side : Side

abbrev pub no_seat : Seated
no_seat = record { mode = Silent; held = no_member.held; unit = 0; side = A }

abbrev pub seat_at : List Seated → (number : ℕ) → Seated
seat_at seats number = get_or seats number no_seat

-- it holds something else
abbrev pub with_held : Held → Seated → Seated
with_held held s = record { mode = s.mode; held = held; unit = s.unit; side = s.side }

-- it fell silent
abbrev pub silenced : Seated → Seated
silenced s = record { mode = Silent; held = s.held; unit = s.unit; side = s.side }

-- with its slots on the bus
abbrev pub member_on : BusState → Seated → Member
member_on bus s = record { mode = s.mode; held = s.held; slots = slots_on bus s.unit s.side }

abbrev pub members_on : BusState → List Seated → List Member
members_on bus seats = map (member_on bus) seats

-- each unit has its two replicas, each in the seat of its number
pub record AreSeated (units : ℕ) (seats : List Seated) : Type 0 where
  pub count : length seats ≡ 2 * units
  pub number : (n : ℕ) → n < length seats → replica_number (seat_at seats n).unit (seat_at seats n).side ≡ n

-- what the replicas of a plant are set to do, by what its programs come to and the cycles that this takes
abbrev pub plan_for : {P : Type 0} → (exec : Plant P → Execution) → (cost : Plant P → ℕ → List ℤ → List ℤ → ℕ) → Plant P → Plan
plan_for exec cost plant = plan_of plant.net plant.graph plant.tables plant.states (exec plant) (cost plant)
