-- The state of a cluster, in plain lists.
use Rattle.std.specs.Prelude.{ℕ, ◌+◌, ◌*◌, List, [], get_or, ℤ, Option, Some, None}
use Rattle.mars_base.specs.declared.shape.Side.{Side}
use Rattle.tdma.specs.Layout.{side_number}
use Rattle.bus.specs.SlotState.{SlotState, slot_at}
use Rattle.net_run.specs.NetRun.{JobResult, Done, Broken, Skipped}

-- what a replica knows of a job in this cycle: it waits for its start; it runs from this state and these inputs; it ended
-- with these outputs; it broke; or it was skipped
pub data Status : Type 0 where
  Waiting : Status
  Busy : (state ins : List ℤ) → Status
  Gave : (outs : List ℤ) → Status
  Broke : Status
  PassedOver : Status

-- it ended, broke or was skipped
abbrev pub IsTold : Status → Type 0
IsTold Waiting = ⊥
IsTold (Busy state ins) = ⊥
IsTold (Gave outs) = Unit {0}
IsTold Broke = Unit {0}
IsTold PassedOver = Unit {0}

-- what is told of a job with this result
abbrev pub told : JobResult → Status
told (Done results) = Gave results.1
told Broken = Broke
told Skipped = PassedOver

-- the outputs that a job has given
abbrev pub given : Status → Option (List ℤ)
given Waiting = None
given (Busy state ins) = None
given (Gave outs) = Some outs
given Broke = None
given PassedOver = None

-- what a replica holds: its clock; the states of the tasks, by task; what each message that it took says, by message; and
-- what it knows of each job, by job. Of another unit's tasks and jobs it holds nothing.
pub record Held : Type 0 where
  pub clock : ℕ
  pub states : List (List ℤ)
  pub taken : List (Option (List ℤ))
  pub jobs : List Status

abbrev pub state_in : Held → (task : ℕ) → List ℤ
state_in h task = get_or h.states task []

abbrev pub taken_in : Held → (message : ℕ) → Option (List ℤ)
taken_in h message = get_or h.taken message None

abbrev pub status_in : Held → (job : ℕ) → Status
status_in h job = get_or h.jobs job Waiting

-- a replica runs, or it fell silent
pub data Mode : Type 0 where
  Running : Mode
  Silent : Mode

-- a replica: its mode, what it holds, and its slots of the cycle, by round
pub record Member : Type 0 where
  pub mode : Mode
  pub held : Held
  pub slots : List SlotState

abbrev pub no_member : Member
no_member = record { mode = Silent; held = record { clock = 0; states = []; taken = []; jobs = [] }; slots = [] }

-- the number of a replica: of each unit A and then B
abbrev pub replica_number : (unit : ℕ) → Side → ℕ
replica_number unit side = 2 * unit + side_number side

-- the replica of a unit's side
abbrev pub member_of : List Member → (unit : ℕ) → Side → Member
member_of members unit side = get_or members (replica_number unit side) no_member

-- what each slot of the bus holds, by unit, side and round
abbrev pub Bus : Type 0
Bus = (unit : ℕ) → Side → (round : ℕ) → SlotState

abbrev pub bus_in : List Member → Bus
bus_in members unit side round = slot_at (member_of members unit side).slots round

-- the cluster: the number of its cycle, the line of the cycle's events where it has had one, each task's state at the
-- cycle's start, and the replicas, by number
pub record State : Type 0 where
  pub cycle : ℕ
  pub line : Option (List ℤ)
  pub start : List (List ℤ)
  pub members : List Member
