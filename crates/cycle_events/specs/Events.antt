-- The events of a cycle in their order: first the script's paces of that cycle, in the script's order, each with up to so many
-- events of its replica; then passes over the replicas by number, each with one event where it is enabled. Where no replica
-- that runs is before the cycle's end nothing is enabled, so the list ends at once with the event after which that is so, also
-- in the middle of a pass or of a pace. A state between two cycles is taken as the start of the later one.
use Rattle.std.specs.Prelude.{ℕ, zero, suc, ◌+◌, ◌&&◌, ◌||◌, not, nat_eq, nat_lt, Bool, if◌then◌else◌, List, [], ◌∷◌, ◌++◌, ℤ, filter}
use Rattle.std.specs.List.{list_all}
use Rattle.mars_base.specs.declared.shape.Side.{Side}
use Rattle.mars_base.specs.declared.shape.Side.TheVariants.{A, B}
use Rattle.script.specs.declared.script.Pace.{Pace}
use Rattle.script.specs.declared.script.Silence.{Silence}
use Rattle.cluster_model.specs.Cluster.{is_silent, settled, step}
use Rattle.cluster_model.specs.Plan.{Plan}
use Rattle.cluster_model.specs.State.{Member, member_of, State}
use Rattle.cluster_agreement.specs.Runs.{Event, steps}

-- a replica of a unit
pub record Replica : Type 0 where
  pub unit : ℕ
  pub side : Side

abbrev pub replica : (unit : ℕ) → Side → Replica
replica unit side = record { unit = unit; side = side }

-- the replicas of so many units by number: of each unit A and then B
abbrev pub replicas : (units : ℕ) → List Replica
replicas zero = []
replicas (suc unit) = replicas unit ++ replica unit A ∷ replica unit B ∷ []

-- a clock is less than the greatest difference ahead of a replica, where that runs
abbrev pub is_close : (clock skew : ℕ) → Member → Bool
is_close clock skew m = is_silent m.mode || nat_lt clock (m.held.clock + skew)

-- a replica may have an event: it is one of the cluster's and isn't silent, its clock is before the cycle's end, and it is close
-- to all that run
abbrev pub is_enabled : Plan → List Member → Replica → Bool
is_enabled p members r =
    nat_lt r.unit p.units
    && (not (is_silent (member_of members r.unit r.side).mode)
    && (nat_lt (member_of members r.unit r.side).held.clock p.cycle
    && list_all (λ (o : Replica). is_close (member_of members r.unit r.side).held.clock p.skew (member_of members o.unit o.side)) (replicas p.units)))

module _ (p : Plan) (silences : List Silence) (line : List ℤ) where
  -- the event of a replica with the cycle's line, and the state after it
  abbrev pub event_of : Replica → Event
  event_of r = record { unit = r.unit; side = r.side; line = line }

  abbrev pub acted : Replica → State → State
  acted r s = step p silences line r.unit r.side s

  -- up to so many events of a replica: they stop at the first that isn't enabled
  abbrev pub paced : State → Replica → (count : ℕ) → List Event
  paced s r zero = []
  paced s r (suc n) = if is_enabled p s.members r then event_of r ∷ paced (acted r s) r n else []

  -- paces, one after another
  abbrev pub by_paces : State → List Pace → List Event
  by_paces s [] = []
  by_paces s (pace ∷ paces) =
      paced s (replica pace.unit pace.side) pace.count ++ by_paces (steps p silences s (paced s (replica pace.unit pace.side) pace.count)) paces

  -- a pass over replicas, with one event of each where it is enabled
  abbrev pub in_turn : State → List Replica → List Event
  in_turn s [] = []
  in_turn s (r ∷ rs) = if is_enabled p s.members r then event_of r ∷ in_turn (acted r s) rs else in_turn s rs

  -- so many passes over all replicas
  abbrev pub passes : State → (n : ℕ) → List Event
  passes s zero = []
  passes s (suc n) = in_turn s (replicas p.units) ++ passes (steps p silences s (in_turn s (replicas p.units))) n

  -- the paces, and then passes until nothing is enabled: as many passes as the cycle has ticks are enough for that
  abbrev pub events_from : State → List Pace → List Event
  events_from s paces = by_paces s paces ++ passes (steps p silences s (by_paces s paces)) p.cycle

-- the paces of a cycle
abbrev pub paces_of : List Pace → (cycle : ℕ) → List Pace
paces_of paces cycle = filter (λ (pace : Pace). nat_eq pace.cycle cycle) paces

module _ (p : Plan) (silences : List Silence) (paces : List Pace) where
  -- the events of the cycle that begins with this state, and the state after them
  abbrev pub cycle_events : (line : List ℤ) → State → List Event
  cycle_events line s = events_from p silences line (settled p s) (paces_of paces (settled p s).cycle)

  abbrev pub after_cycle : (line : List ℤ) → State → State
  after_cycle line s = steps p silences s (cycle_events line s)
