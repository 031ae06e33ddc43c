-- What holds of each replica at every moment of a cycle in which no unit is lost: what it holds is a function of its own clock
-- and of the results along the graph. A replica that fell silent stays as it was.
use Rattle.std.specs.Prelude.{◌≡◌, ℕ, ◌+◌, ◌-◌, ◌*◌, ◌<◌, ◌≤◌, Bool, true, List, length, ℤ}
use Rattle.mars_base.specs.declared.shape.Side.{Side}
use Rattle.bus.specs.SlotState.{SlotState, Open, Sending, Whole, Cut, slot_at}
use Rattle.net_run.specs.NetRun.{JobResult}
use Rattle.cluster_model.specs.Plan.{Plan, listed}
use Rattle.cluster_model.specs.PlanRun.{before, along, takes}
use Rattle.cluster_model.specs.State.{Status, Waiting, told, state_in, taken_in, status_in, Mode, Running, Silent, Member, member_of}
use Rattle.cluster_model.specs.Tick.{begun}

-- a slot with some of its words: its replica sends it, or fell silent in it
abbrev pub partly : Mode → List ℤ → SlotState
partly Running words = Sending words
partly Silent words = Cut words

-- which replicas fall silent at which tick
abbrev pub Falling : Type 0
Falling = (unit : ℕ) → Side → (tick : ℕ) → Bool

-- the words of a unit's frame of a round
abbrev pub word : Plan → (res : ℕ → JobResult) → (round unit : ℕ) → (number : ℕ) → ℤ
word p res round unit = p.frame_word round unit (λ m. along p res (p.edge_of m) (p.instance_of m))

module _ (p : Plan) (start : ℕ → List ℤ) (line : List ℤ) (res : ℕ → JobResult) where
  -- what is known of a job that has started and not ended
  abbrev pub began : (job : ℕ) → Status
  began job = begun (before p start res (p.task job) (p.instance job)) (takes p line res job)

  module _ (falling : Falling) where
    pub record Keeps (unit : ℕ) (side : Side) (m : Member) : Type 0 where
      pub clock : m.held.clock ≤ p.cycle
      pub fell : m.mode ≡ Silent → (falling unit side m.held.clock ≡ true) × (m.held.clock < p.cycle)
      -- the state of a task is that before the first instance that hasn't ended
      pub states : m.mode ≡ Running → (task i : ℕ) → task < p.tasks → p.home task ≡ unit → i ≤ p.instances task
          → ((k : ℕ) → k < i → p.ends (p.number task k) ≤ m.held.clock)
          → ((k : ℕ) → i ≤ k → k < p.instances task → m.held.clock < p.ends (p.number task k))
          → state_in m.held task ≡ before p start res task i
      pub waiting : (job : ℕ) → job < p.jobs → p.unit job ≡ unit → m.held.clock ≤ p.starts job → status_in m.held job ≡ Waiting
      pub busy : (job : ℕ) → job < p.jobs → p.unit job ≡ unit → p.starts job < m.held.clock → m.held.clock < p.ends job → status_in m.held job ≡ began job
      pub over : (job : ℕ) → job < p.jobs → p.unit job ≡ unit → p.ends job ≤ m.held.clock → status_in m.held job ≡ told (res job)
      pub taken : (n : ℕ) → n < p.messages → p.receiver n ≡ unit → p.usable (p.round_of n) (p.sender n) < m.held.clock
          → taken_in m.held n ≡ along p res (p.edge_of n) (p.instance_of n)
      -- a slot is open, partly sent or whole, as the clock says
      pub ahead : (k : ℕ) → k < p.rounds → m.held.clock ≤ p.slot k unit side → slot_at m.slots k ≡ Open
      pub amid : (k : ℕ) → k < p.rounds → p.slot k unit side < m.held.clock → m.held.clock < p.slot k unit side + p.words
          → slot_at m.slots k ≡ partly m.mode (listed (m.held.clock - p.slot k unit side) (word p res k unit))
      pub past : (k : ℕ) → k < p.rounds → p.slot k unit side + p.words ≤ m.held.clock → slot_at m.slots k ≡ Whole (listed p.words (word p res k unit))

    pub record Holds (members : List Member) : Type 0 where
      pub size : length members ≡ 2 * p.units
      pub each : (u : ℕ) (x : Side) → u < p.units → Keeps u x (member_of members u x)
      pub skew : (u : ℕ) (x : Side) (v : ℕ) (y : Side) → u < p.units → v < p.units → (member_of members u x).mode ≡ Running → (member_of members v y).mode ≡ Running
          → (member_of members u x).held.clock ≤ (member_of members v y).held.clock + p.skew
