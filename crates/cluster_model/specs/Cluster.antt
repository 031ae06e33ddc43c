-- One event of a cluster: a replica performs the tick of its clock, or it falls silent there. The end of a cycle is at once the
-- start of the next: the next event sees each clock as 0 and each slot as open.
use Rattle.std.specs.Prelude.{◌≡◌, ℕ, suc, ◌+◌, ◌*◌, ◌/◌, ◌<◌, Bool, true, false, ◌&&◌, ◌||◌, not, nat_eq, cond, List, map, set, replicate, ℤ, pos, Option, Some, None, []}
use Rattle.std.specs.List.{list_any, list_all}
use Rattle.mars_base.specs.declared.shape.Side.{Side}
use Rattle.mars_base.specs.declared.shape.Side.TheVariants.{A, B}
use Rattle.script.specs.declared.script.Silence.{Silence}
use Rattle.bus.specs.SlotState.{SlotState, Open, cut}
use Rattle.net_run.specs.NetRun.{state_of}
use Rattle.cluster_model.specs.Plan.{Plan, listed}
use Rattle.cluster_model.specs.Silences.{falls}
use Rattle.cluster_model.specs.State.{Waiting, given, Held, state_in, status_in, Mode, Running, Silent, Member, replica_number, member_of, bus_in, State}
use Rattle.cluster_model.specs.Tick.{a_or_b, ticked, slots_after}

abbrev pub is_silent : Mode → Bool
is_silent Running = false
is_silent Silent = true

-- a replica after its tick, and after it fell silent: the slot that it was sending is cut
abbrev pub after_tick : Plan → (line : List ℤ) → List Member → (unit : ℕ) → Side → Member → Member
after_tick p line members unit side m = record {
  mode = m.mode;
  held = ticked p (bus_in members) line unit m.held;
  slots = slots_after p unit side m.held m.slots;
}

abbrev pub fallen : Member → Member
fallen m = record { mode = Silent; held = m.held; slots = map cut m.slots }

-- a replica may have an event: it isn't silent, its clock is before the cycle's end, and it is less than the greatest
-- difference ahead of each replica that runs
pub record IsEnabled (p : Plan) (members : List Member) (unit : ℕ) (side : Side) : Type 0 where
  pub unit_is : unit < p.units
  pub runs : (member_of members unit side).mode ≡ Running
  pub below : (member_of members unit side).held.clock < p.cycle
  pub close : (v : ℕ) (y : Side) → v < p.units → (member_of members v y).mode ≡ Running → (member_of members unit side).held.clock < (member_of members v y).held.clock + p.skew

-- all that run have come to the cycle's end, and some run
abbrev pub is_through : Plan → Member → Bool
is_through p m = is_silent m.mode || nat_eq m.held.clock p.cycle

abbrev pub is_over : Plan → List Member → Bool
is_over p members = list_any (λ (m : Member). not (is_silent m.mode)) members && list_all (is_through p) members

-- the state of a task after a cycle: A's where A of its unit runs, else B's where that runs, else as it was
abbrev pub left_by : (a b : Member) → (task : ℕ) → (old : List ℤ) → List ℤ
left_by a b task old = cond (is_silent a.mode) (cond (is_silent b.mode) old (state_in b.held task)) (state_in a.held task)

abbrev pub left_states : Plan → State → List (List ℤ)
left_states p s = listed p.tasks (λ task. left_by (member_of s.members (p.home task) A) (member_of s.members (p.home task) B) task (state_of s.start task))

-- a replica at a cycle's start: it keeps its mode and its tasks' states
abbrev pub fresh_held : Plan → (states : List (List ℤ)) → Held
fresh_held p states = record { clock = 0; states = states; taken = listed p.messages (λ m. None); jobs = listed p.jobs (λ job. Waiting) }

abbrev pub fresh_slots : Plan → List SlotState
fresh_slots p = listed p.rounds (λ round. Open)

abbrev pub turned : Plan → Member → Member
turned p m = record { mode = m.mode; held = fresh_held p m.held.states; slots = fresh_slots p }

-- the next cycle's start
abbrev pub turn : Plan → State → State
turn p s = record { cycle = suc s.cycle; line = None; start = left_states p s; members = map (turned p) s.members }

-- the state as the next event sees it
abbrev pub settled : Plan → State → State
settled p s = cond (is_over p s.members) (turn p s) s

module _ (p : Plan) (silences : List Silence) where
  -- what the event makes of its replica
  abbrev pub event : (cycle : ℕ) → (line : List ℤ) → List Member → (unit : ℕ) → Side → Member → Member
  event cycle line members unit side m = cond (falls silences unit side cycle m.held.clock) (fallen m) (after_tick p line members unit side m)

  abbrev pub happens : (line : List ℤ) → (unit : ℕ) → Side → State → State
  happens line unit side s = record {
    cycle = s.cycle;
    line = Some line;
    start = s.start;
    members = set s.members (replica_number unit side) (event s.cycle line s.members unit side (member_of s.members unit side));
  }

  -- one event of a replica, with its cycle's line
  abbrev pub step : (line : List ℤ) → (unit : ℕ) → Side → State → State
  step line unit side s = happens line unit side (settled p s)

-- the line is the one of the cycle's first event
abbrev pub IsLineOf : State → List ℤ → Type 0
IsLineOf s line = (other : List ℤ) → s.line ≡ Some other → other ≡ line

-- an event of this replica with this line may come
pub record MayStep (p : Plan) (s : State) (unit : ℕ) (side : Side) (line : List ℤ) : Type 0 where
  pub enabled : IsEnabled p (settled p s).members unit side
  pub line_is : IsLineOf (settled p s) line

-- the state of a replica's tasks before the first cycle: those of its unit have their words, all 0
abbrev pub first_held_states : Plan → (unit : ℕ) → List (List ℤ)
first_held_states p unit = listed p.tasks (λ task. cond (nat_eq (p.home task) unit) (replicate (p.state_words task) (pos 0)) [])

abbrev pub fresh_member : Plan → (unit : ℕ) → Member
fresh_member p unit = record { mode = Running; held = fresh_held p (first_held_states p unit); slots = fresh_slots p }

-- the cluster before its first cycle
abbrev pub first_state : Plan → State
first_state p = record {
  cycle = 0;
  line = None;
  start = listed p.tasks (λ task. replicate (p.state_words task) (pos 0));
  members = listed (2 * p.units) (λ r. fresh_member p (r / 2));
}

-- the outputs that a job has given in the cycle: by A's replica of its unit, else by B's
abbrev pub outs_in : Plan → State → (job : ℕ) → Option (List ℤ)
outs_in p s job = a_or_b (given (status_in (member_of s.members (p.unit job) A).held job)) (given (status_in (member_of s.members (p.unit job) B).held job))
