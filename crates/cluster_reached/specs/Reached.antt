-- The states that a cluster comes to. This project's own.
use Rattle.std.specs.Prelude.{◌≡◌, List, ℤ}
use Rattle.script.specs.declared.script.Silence.{Silence}
use Rattle.cluster_agreement.specs.Runs.{Event, steps, AllMay}
use Rattle.cluster_model.specs.Cluster.{first_state}
use Rattle.cluster_model.specs.Plan.{Plan}
use Rattle.cluster_model.specs.State.{State}

-- the state comes after these events, each of which may come where it comes, with a line that fits
pub record ComesAfter (p : Plan) (silences : List Silence) (LineFits : List ℤ → Type 0) (s : State) (events : List Event) : Type 0 where
  pub may : AllMay p silences LineFits (first_state p) events
  pub state_is : steps p silences (first_state p) events ≡ s

-- the state comes after some list of events
abbrev pub IsReached : Plan → List Silence → (LineFits : List ℤ → Type 0) → State → Type 0
IsReached p silences LineFits s = (events : List Event) × ComesAfter p silences LineFits s events
