-- A cluster before its first event. This project's own.
use Rattle.std.specs.Prelude.{◌≡◌, ℕ, ◌*◌, ◌/◌, ◌%◌, ◌<◌, nat_eq, cond, List, length, get_or, Option, None}
use Rattle.mars_base.specs.declared.shape.Side.{Side}
use Rattle.mars_base.specs.declared.shape.Side.TheVariants.{A, B}
use Rattle.script.specs.declared.script.Silence.{Silence}
use Rattle.cluster_model.specs.Cluster.{fresh_held, first_held_states}
use Rattle.cluster_model.specs.Plan.{Plan, listed}
use Rattle.cluster_model.specs.State.{Running, replica_number}
use Rattle.cluster_seats.specs.Seats.{Seated}
use Rattle.first_silence.specs.Moments.{IsFirstSilence}
use Rattle.first_silence.specs.declared.moment.Moment.{Moment}

-- the side of a seat: of each unit A and then B
abbrev pub side_of : (number : ℕ) → Side
side_of number = cond (nat_eq (number % 2) 0) A B

-- the replica in the seat of a number before the first cycle
abbrev pub first_seated : Plan → (number : ℕ) → Seated
first_seated p number = record { mode = Running; held = fresh_held p (first_held_states p (number / 2)); unit = number / 2; side = side_of number }

-- so many units with their replicas
abbrev pub first_seats : Plan → (units : ℕ) → List Seated
first_seats p units = listed (2 * units) (first_seated p)

-- the moment of each replica's first silence, for so many units
pub record AreFirsts (silences : List Silence) (units : ℕ) (firsts : List (Option Moment)) : Type 0 where
  pub count : length firsts ≡ 2 * units
  pub each : (unit : ℕ) (side : Side) → unit < units → IsFirstSilence silences unit side (get_or firsts (replica_number unit side) None)
