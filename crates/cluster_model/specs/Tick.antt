-- A tick of a replica in its five parts: it takes the frames that may be used from this tick on, puts the word of its slot,
-- starts or skips the job of this tick, and ends the job whose end is the next tick, with the whole of its execution. That the
-- execution itself is spread over the job's ticks changes nothing of this. Time-triggered execution after the Mars approach
-- (H. Kopetz et al., IEEE Micro 9(1), 1989); the five parts are this project's own.
use Rattle.std.specs.Prelude.{ℕ, zero, suc, ◌+◌, ◌-◌, ◌&&◌, nat_eq, nat_le, nat_lt, cond, List, ℤ, Option, Some, None}
use Rattle.mars_base.specs.declared.shape.Side.{Side}
use Rattle.mars_base.specs.declared.shape.Side.TheVariants.{A, B}
use Rattle.bus.specs.SlotState.{SlotState, slot_at, put, whole}
use Rattle.net_run.specs.NetRun.{JobResult, ended_as, kept}
use Rattle.net_run.specs.Words.{with_words}
use Rattle.cluster_model.specs.Plan.{Plan, listed}
use Rattle.cluster_model.specs.State.{Status, Waiting, Busy, Gave, Broke, PassedOver, told, given, Held, state_in, taken_in, status_in, Bus}

-- the first that is there
abbrev pub a_or_b : Option (List ℤ) → Option (List ℤ) → Option (List ℤ)
a_or_b None other = other
a_or_b (Some words) other = Some words

-- a job begins, or it is skipped where it lacks an input
abbrev pub begun : (state : List ℤ) → Option (List ℤ) → Status
begun state None = PassedOver
begun state (Some ins) = Busy state ins

module _ (p : Plan) where
  -- what an edge carries in an instance, by what is known of each job
  abbrev pub fed : (statuses : ℕ → Status) → (edge instance : ℕ) → Option (List ℤ)
  fed statuses edge instance = p.carried (λ task. given (statuses (p.number task instance))) edge

  -- the frame of a unit and a round that a receiver gets: A's where it is whole, else B's where that is
  abbrev pub received : Bus → (unit round : ℕ) → Option (List ℤ)
  received bus unit round = a_or_b (whole (bus unit A round)) (whole (bus unit B round))

  module _ (bus : Bus) (unit : ℕ) (h : Held) where
    -- part 1: a message for this unit is taken where its frame may be used from this tick on
    abbrev pub took : (message : ℕ) → Option (List ℤ)
    took m = cond (nat_eq (p.receiver m) unit && nat_eq (p.usable (p.round_of m) (p.sender m)) h.clock)
        (with_words (received bus (p.sender m) (p.round_of m)) (p.read m))
        (taken_in h m)

    -- what a job of this unit finds on an edge: what its own unit's job gave, or what was taken
    abbrev pub finds : (job edge : ℕ) → Option (List ℤ)
    finds job edge = cond (nat_eq (p.unit (p.number (p.from edge) (p.instance job))) unit)
        (fed (status_in h) edge (p.instance job))
        (took (p.message edge (p.instance job)))

    -- part 3: the job of this unit whose start is this tick
    abbrev pub opens : (line : List ℤ) → (job : ℕ) → Status
    opens line job = cond (nat_eq (p.unit job) unit && nat_eq (p.starts job) h.clock)
        (begun (state_in h (p.task job)) (p.inputs line (finds job) job))
        (status_in h job)

  -- what an execution comes to as a job's result
  abbrev pub result_from : (job : ℕ) → (state ins : List ℤ) → JobResult
  result_from job state ins = ended_as (p.exec (p.task job) state ins)

  abbrev pub ended : (job : ℕ) → Status → Status
  ended job Waiting = Waiting
  ended job (Busy state ins) = told (result_from job state ins)
  ended job (Gave outs) = Gave outs
  ended job Broke = Broke
  ended job PassedOver = PassedOver

  -- part 5: a job whose end is the next tick ends
  abbrev pub closes : (tick job : ℕ) → Status → Status
  closes tick job status = cond (nat_eq (p.ends job) (suc tick)) (ended job status) status

  -- the state that a job leaves which ends now
  abbrev pub leaves : (job : ℕ) → (old : List ℤ) → Status → List ℤ
  leaves job old Waiting = old
  leaves job old (Busy state ins) = kept old (result_from job state ins)
  leaves job old (Gave outs) = old
  leaves job old Broke = old
  leaves job old PassedOver = old

  -- the state of a task after a tick, by its first n instances: at most one of them ends now
  abbrev pub state_after : (tick : ℕ) → (statuses : ℕ → Status) → (task : ℕ) → (old : List ℤ) → (n : ℕ) → List ℤ
  state_after tick statuses task old zero = old
  state_after tick statuses task old (suc n) =
      cond (nat_eq (p.ends (p.number task n)) (suc tick))
      (leaves (p.number task n) old (statuses (p.number task n)))
      (state_after tick statuses task old n)

  -- what a replica of this unit holds after its tick
  abbrev pub ticked : Bus → (line : List ℤ) → (unit : ℕ) → Held → Held
  ticked bus line unit h = record {
    clock = suc h.clock;
    states = listed p.tasks (λ task. state_after h.clock (opens bus unit h line) task (state_in h task) (p.instances task));
    taken = listed p.messages (took bus unit h);
    jobs = listed p.jobs (λ job. closes h.clock job (opens bus unit h line job));
  }

  -- part 2: the replica's slot of a round after its tick, with one word more where this tick is one of the slot's
  abbrev pub slot_after : (unit : ℕ) → Side → Held → (slots : List SlotState) → (round : ℕ) → SlotState
  slot_after unit side h slots round = cond (nat_le (p.slot round unit side) h.clock && nat_lt h.clock (p.slot round unit side + p.words))
      (put p.words (slot_at slots round)
      (p.frame_word round unit (λ m. fed (status_in h) (p.edge_of m) (p.instance_of m)) (h.clock - p.slot round unit side)))
      (slot_at slots round)

  abbrev pub slots_after : (unit : ℕ) → Side → Held → (slots : List SlotState) → List SlotState
  slots_after unit side h slots = listed p.rounds (slot_after unit side h slots)
