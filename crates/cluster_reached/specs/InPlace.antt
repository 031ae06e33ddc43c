-- What the next event finds of each replica: its lists, its clock and its slots. This project's own.
use Rattle.std.specs.Prelude.{◌≡◌, ℕ, ◌+◌, ◌-◌, ◌*◌, ◌<◌, ◌≤◌, length}
use Rattle.mars_base.specs.declared.shape.Side.{Side}
use Rattle.bus.specs.SlotState.{StandsAt, IsSending, slot_at}
use Rattle.cluster_model.specs.Plan.{Plan}
use Rattle.cluster_model.specs.State.{Running, Member, member_of, State}

module _ (p : Plan) where
  -- the tick is one of the words' of the slot of a round
  pub record IsInSlot (round unit : ℕ) (side : Side) (tick : ℕ) : Type 0 where
    pub from : p.slot round unit side ≤ tick
    pub to : tick < p.slot round unit side + p.words

  -- a replica has a state for each task, and says something of each message, job and round
  pub record HasLists (m : Member) : Type 0 where
    pub states : length m.held.states ≡ p.tasks
    pub taken : length m.held.taken ≡ p.messages
    pub jobs : length m.held.jobs ≡ p.jobs
    pub slots : length m.slots ≡ p.rounds

  pub record IsInPlace (unit : ℕ) (side : Side) (m : Member) : Type 0 where
    pub lists : HasLists m
    pub clock : m.held.clock ≤ p.cycle
    -- while it runs, the slot in which its tick is stands at the tick's word
    pub stands : m.mode ≡ Running → (round : ℕ) → round < p.rounds → IsInSlot round unit side m.held.clock → StandsAt (slot_at m.slots round) (m.held.clock - p.slot round unit side)
    -- it sends while it runs, and no slot but the one in which its tick is
    pub sends : (round : ℕ) → round < p.rounds → IsSending (slot_at m.slots round) → (m.mode ≡ Running) × IsInSlot round unit side m.held.clock

  -- each replica of the cluster is in place, and each task has a state at the cycle's start
  pub record AreInPlace (s : State) : Type 0 where
    pub size : length s.members ≡ 2 * p.units
    pub each : (unit : ℕ) (side : Side) → unit < p.units → IsInPlace unit side (member_of s.members unit side)
    pub start : length s.start ≡ p.tasks
