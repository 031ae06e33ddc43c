-- What is read of decisions. Only the contracts of this crate cite this.
use Rattle.std.specs.Prelude.{◌≡◌, ℕ, ◌==◌, max, if◌then◌else◌, cond, Bool, true, List, Option, Some, None, slice_get}
use Rattle.decisions.specs.declared.problem.Feed.{Feed}
use Rattle.decisions.specs.declared.problem.Problem.{Problem}
use Rattle.decisions.specs.Decision.{Decision}
use Rattle.decisions.specs.Place.{Waiting, first_room, sent_in}
use Rattle.decisions.specs.Choices.{choices}
use Rattle.placement.specs.declared.pending.Pending.{Pending}
use Rattle.placement.specs.declared.pending.Spot.{Spot}

abbrev pub waiting_of : Pending → Waiting
waiting_of p = record { sent = p.sent.items; wait = p.wait }

-- what a table says, with nothing behind its end
abbrev pub flat : Option (Option ℕ) → Option ℕ
flat None = None
flat (Some o) = o

abbrev pub at_place : List Decision → Option ℕ → Option Decision
at_place l None = None
at_place l (Some place) = slice_get l place

-- the decision at the place that the table has for a number
abbrev pub place_in : List Decision → List (Option ℕ) → ℕ → Option Decision
place_in l table n = at_place l (flat (slice_get table n))

abbrev pub spot_of : Option Decision → Option Spot
spot_of None = None
spot_of (Some d) = Some (record { unit = d.unit; end = d.end })

abbrev pub unit_at : Option Spot → Option ℕ
unit_at None = None
unit_at (Some s) = Some s.unit

-- the unit is the one, where there is one
abbrev pub is_unit : (unit : ℕ) → Option ℕ → Bool
is_unit unit None = true
is_unit unit (Some home) = home == unit

-- a message from a unit, after a tick
abbrev pub sent_from : Problem → List Decision → Waiting → Feed → (unit end : ℕ) → Option Waiting
sent_from pr l w feed unit end = sent_in pr l w feed unit (first_room pr l w.sent unit end feed.words 0 pr.round.rounds)

-- one feed of a job on the unit, from a producer's spot
abbrev pub fed_from : Problem → List Decision → (unit : ℕ) → Waiting → Feed → Option Spot → Option Waiting
fed_from pr l unit w feed None = None
fed_from pr l unit w feed (Some s) = if s.unit == unit then Some (record { sent = w.sent; wait = max w.wait s.end }) else sent_from pr l w feed s.unit s.end

-- the decision is one of the choices
pub record IsNext (pr : Problem) (l : List Decision) (d : Decision) : Type 0 where
  pub rank : ℕ
  pub stands : slice_get (choices pr l) rank ≡ Some d

-- the first of two places
abbrev pub first_some : Option ℕ → Option ℕ → Option ℕ
first_some None o = o
first_some (Some place) o = Some place

-- a place, where it isn't the one that is forgotten
abbrev pub without : Option ℕ → (place : ℕ) → Option ℕ
without None place = None
without (Some other) place = if other == place then None else Some other

-- one where it is so, and else none
abbrev pub one_if : Bool → ℕ
one_if so = cond so 1 0
