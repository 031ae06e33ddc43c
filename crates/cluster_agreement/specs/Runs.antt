-- Lists of events of a cluster, over all its cycles.
use Rattle.std.specs.Prelude.{ℕ, ◌<◌, ◌≤◌, List, [], ◌∷◌, ℤ}
use Rattle.mars_base.specs.declared.shape.Side.{Side}
use Rattle.script.specs.Running.{IsLost}
use Rattle.script.specs.declared.script.Silence.{Silence}
use Rattle.cluster_model.specs.Cluster.{MayStep, step}
use Rattle.cluster_model.specs.Plan.{Plan}
use Rattle.cluster_model.specs.State.{State}

-- an event of a replica, with the line of its cycle
pub record Event : Type 0 where
  pub unit : ℕ
  pub side : Side
  pub line : List ℤ

module _ (p : Plan) (silences : List Silence) where
  -- the state after some events
  abbrev pub steps : State → List Event → State
  steps s [] = s
  steps s (e ∷ events) = steps (step p silences e.line e.unit e.side s) events

  -- each event may come where it comes, with a line that fits
  abbrev pub AllMay : (LineFits : List ℤ → Type 0) → State → List Event → Type 0
  AllMay LineFits s [] = Unit {0}
  AllMay LineFits s (e ∷ events) = (MayStep p s e.unit e.side e.line × LineFits e.line) × AllMay LineFits (step p silences e.line e.unit e.side s) events

  -- no unit is lost in this cycle or in an earlier one
  abbrev pub NoneLost : (cycle : ℕ) → Type 0
  NoneLost cycle = (c unit : ℕ) → c ≤ cycle → unit < p.units → IsLost silences p.cycle unit c → ⊥
