-- What is seen of an event of a cluster, in its order, and of a list of events.
use Rattle.std.specs.Prelude.{ℕ, suc, ◌&&◌, max, nat_eq, not, Bool, true, false, if◌then◌else◌, List, [], ◌∷◌, ◌++◌, ℤ, filter, Option, Some, None}
use Rattle.std.specs.List.{range_with_len, flat_map}
use Rattle.mars_base.specs.declared.shape.Side.{Side}
use Rattle.mars_base.specs.declared.shape.Side.TheVariants.{A, B}
use Rattle.script.specs.declared.script.Silence.{Silence}
use Rattle.cluster_agreement.specs.Runs.{Event}
use Rattle.cluster_model.specs.Cluster.{settled, step}
use Rattle.cluster_model.specs.Effects.{take_effects, put_effects, start_effects, ending, fall_effects, is_output}
use Rattle.cluster_model.specs.Plan.{Plan}
use Rattle.cluster_model.specs.Silences.{falls}
use Rattle.cluster_model.specs.State.{given, Held, status_in, Bus, Member, member_of, bus_in, State}
use Rattle.cluster_model.specs.Tick.{opens}
use Rattle.cluster_model.specs.declared.effect.Effect.{Effect}
use Rattle.cluster_model.specs.declared.effect.Effect.TheVariants as effect

-- the other replica of a unit
abbrev pub other : Side → Side
other A = B
other B = A

abbrev pub is_given : Option (List ℤ) → Bool
is_given None = false
is_given (Some outs) = true

module _ (p : Plan) where
  -- the outputs of a job are shown with its first end by a replica
  abbrev pub shows : (twin : Held) → (job : ℕ) → Effect → Bool
  shows twin job e = not (is_output e && is_given (given (status_in twin job)))

  abbrev pub shown_ends : Bus → (line : List ℤ) → (unit : ℕ) → Held → (twin : Held) → List Effect
  shown_ends bus line unit h twin = flat_map
      (λ job. if nat_eq (p.ends job) (suc h.clock) then filter (shows twin job) (ending p job (opens p bus unit h line job)) else [])
      (range_with_len 0 p.jobs)

  abbrev pub shown_tick : List Member → (line : List ℤ) → (unit : ℕ) → Side → List Effect
  shown_tick members line unit side =
      take_effects p (bus_in members) unit (member_of members unit side).held.clock
      ++ (put_effects p unit side (member_of members unit side).held
      ++ (start_effects p (bus_in members) line unit (member_of members unit side).held
      ++ shown_ends (bus_in members) line unit (member_of members unit side).held (member_of members unit (other side)).held))

  module _ (silences : List Silence) where
    -- an event in a state within its cycle
    abbrev pub effects_in : State → Event → List Effect
    effects_in s e =
        if falls silences e.unit e.side s.cycle (member_of s.members e.unit e.side).held.clock
        then fall_effects (member_of s.members e.unit e.side).slots
        else shown_tick s.members e.line e.unit e.side

    -- an event, which takes a state between two cycles as the start of the later one
    abbrev pub effects_of : State → Event → List Effect
    effects_of s e = effects_in (settled p s) e

    -- what the replicas' ends of a job took at most, in a list of events
    abbrev pub taken_by : (job : ℕ) → Effect → ℕ
    taken_by job (effect.Take from side round) = 0
    taken_by job (effect.Miss from round) = 0
    taken_by job (effect.Put word) = 0
    taken_by job (effect.Start started) = 0
    taken_by job (effect.Skip skipped) = 0
    taken_by job (effect.End ended cycles) = if nat_eq ended job then cycles else 0
    taken_by job (effect.Break broken) = 0
    taken_by job (effect.Out actuator instance) = 0
    taken_by job effect.Fell = 0
    taken_by job effect.Cut = 0

    abbrev pub most_taken : (job : ℕ) → List Effect → ℕ
    most_taken job [] = 0
    most_taken job (e ∷ effects) = max (taken_by job e) (most_taken job effects)

    abbrev pub taken_in : (job : ℕ) → State → List Event → ℕ
    taken_in job s [] = 0
    taken_in job s (e ∷ events) = max (most_taken job (effects_of s e)) (taken_in job (step p silences e.line e.unit e.side s) events)
