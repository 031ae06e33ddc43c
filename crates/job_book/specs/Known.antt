-- What a replica knows of its jobs. This project's own.
use Rattle.std.specs.Prelude.{◌≡◌, ℕ, List, get_or, ℤ, Option, None, Some, map}
use Rattle.cluster_model.specs.State.{Status}
use Rattle.cluster_model.specs.State as status

-- a job waits for its start; it is in hand; it ended with these outputs; it broke; or it was skipped
pub data Known : Type 0 where
  Waiting : Known
  InHand : Known
  Gave : (outs : List ℤ) → Known
  Broke : Known
  PassedOver : Known

-- for each job how many words it gives, and what is known of it
pub record Book : Type 0 where
  pub rooms : List ℕ
  pub jobs : List Known

-- what is known of a job
abbrev pub known_in : Book → (job : ℕ) → Known
known_in b job = get_or b.jobs job Waiting

-- the outputs that a job has given
abbrev pub given_by : Known → Option (List ℤ)
given_by Waiting = None
given_by InHand = None
given_by (Gave outs) = Some outs
given_by Broke = None
given_by PassedOver = None

-- what is known of a job, where the one in hand runs from this state and these inputs
abbrev pub status_of : (state ins : List ℤ) → Known → Status
status_of state ins Waiting = status.Waiting
status_of state ins InHand = status.Busy state ins
status_of state ins (Gave outs) = status.Gave outs
status_of state ins Broke = status.Broke
status_of state ins PassedOver = status.PassedOver
