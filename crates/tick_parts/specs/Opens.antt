-- A job of a unit that starts at a tick. This project's own.
use Rattle.std.specs.Prelude.{◌≡◌, ℕ, List, map, ℤ, Option, None, Some}
use Rattle.tables.specs.Named.{entry_at}
use Rattle.tables.specs.declared.table.Tables.{Tables}
use Rattle.job_book.specs.Known.{Book, status_of}
use Rattle.cluster_model.specs.Plan.{Plan, listed}
use Rattle.cluster_model.specs.State.{Held, Bus, state_in}
use Rattle.cluster_model.specs.Tick.{opens}

-- the job is the unit's, and its start is this tick
pub record StartsAt (t : Tables) (unit tick job : ℕ) : Type 0 where
  pub unit_is : (entry_at t job).unit ≡ unit
  pub start_is : (entry_at t job).start ≡ tick

-- the book says of each job what the model has of it after the third part of the tick: where a job starts, it runs from its
-- task's state and these inputs; else a job in hand runs on from its own
abbrev pub Opened : (p : Plan) → Bus → (unit : ℕ) → (line : List ℤ) → Held → (state before ins : List ℤ) → Book → Option ℕ → Type 0
Opened p bus unit line h state before ins book None = map (status_of state before) book.jobs ≡ listed p.jobs (opens p bus unit h line)
Opened p bus unit line h state before ins book (Some job) = map (status_of (state_in h (p.task job)) ins) book.jobs ≡ listed p.jobs (opens p bus unit h line)
