-- What holds of the events of a cycle.
use Rattle.std.specs.Prelude.{◌≡◌, ℕ, ◌*◌, ◌<◌, ◌≤◌, true, List, length, ℤ, None, Some}
use Rattle.std.specs.List.{list_all}
use Rattle.mars_base.specs.declared.shape.Side.{Side}
use Rattle.script.specs.Running.{IsLost}
use Rattle.script.specs.declared.script.Pace.{Pace}
use Rattle.script.specs.declared.script.Silence.{Silence}
use Rattle.cluster_model.specs.Cluster.{is_over, is_through, settled, first_state}
use Rattle.cluster_model.specs.Plan.{Plan}
use Rattle.cluster_model.specs.Silences.{falls}
use Rattle.cluster_model.specs.State.{Silent, member_of, State}
use Rattle.cluster_agreement.specs.Runs.{AllMay}
use Rattle.cycle_events.specs.Events.{cycle_events, after_cycle}

-- no clock is past the cycle's end, and a replica that fell silent has a silence at its clock or before it
pub record Stands (p : Plan) (silences : List Silence) (s : State) : Type 0 where
  pub size : length s.members ≡ 2 * p.units
  pub clock : (u : ℕ) (x : Side) → u < p.units → (member_of s.members u x).held.clock ≤ p.cycle
  pub fell : (u : ℕ) (x : Side) → u < p.units → (member_of s.members u x).mode ≡ Silent
      → (falls silences u x s.cycle (member_of s.members u x).held.clock ≡ true) × ((member_of s.members u x).held.clock < p.cycle)

-- a cycle may begin with the state: it has had no event yet
pub record IsStart (p : Plan) (silences : List Silence) (s : State) : Type 0 where
  pub stands : Stands p silences (settled p s)
  pub fresh : (settled p s).line ≡ None

-- some unit isn't lost in the cycle
pub record SomeIsKept (p : Plan) (silences : List Silence) (cycle : ℕ) : Type 0 where
  pub unit : ℕ
  pub within : unit < p.units
  pub kept : IsLost silences p.cycle unit cycle → ⊥

-- the cycle is over, and the next may begin
pub record Ends (p : Plan) (silences : List Silence) (line : List ℤ) (s : State) : Type 0 where
  pub over : is_over p s.members ≡ true
  pub line_is : s.line ≡ Some line
  pub next : IsStart p silences s

-- the events of a cycle that begins with this state
pub record OfCycle (p : Plan) (silences : List Silence) (paces : List Pace) (line : List ℤ) (s : State) : Type 0 where
  -- each of them may come, and has the cycle's line
  pub may : AllMay p silences (λ other. other ≡ line) s (cycle_events p silences paces line s)
  -- there are at most as many as all replicas have ticks
  pub few : length (cycle_events p silences paces line s) ≤ p.units * (2 * p.cycle)
  -- after them each replica is silent or has come to the cycle's end
  pub through : list_all (is_through p) (after_cycle p silences paces line s).members ≡ true
  -- all are of one cycle, with its start
  pub cycle_is : (after_cycle p silences paces line s).cycle ≡ (settled p s).cycle
  pub start_is : (after_cycle p silences paces line s).start ≡ (settled p s).start
  -- where some unit isn't lost, the cycle is over after them
  pub ends : SomeIsKept p silences (settled p s).cycle → Ends p silences line (after_cycle p silences paces line s)

-- of every cycle of a plan that has ticks
pub record CycleOrder : Type 0 where
  pub first : (p : Plan) (silences : List Silence) → 0 < p.cycle → IsStart p silences (first_state p)
  pub each : (p : Plan) (silences : List Silence) (paces : List Pace) → 0 < p.skew → 0 < p.cycle → (line : List ℤ) (s : State) → IsStart p silences s → OfCycle p silences paces line s
