-- A list of decisions as its callers see it, and what is kept beside it.
use Rattle.std.specs.Prelude.{◌≡◌, ℕ, zero, suc, ◌+◌, ◌<◌, ◌≤◌, ◌==◌, ◌||◌, not, leb, Bool, true, false, List, [], length, get_or, position, slice_get, count_by, Option, Some, vec_capacity}
use Rattle.tdma.specs.Load.{Load, taken_in}
use Rattle.decisions.specs.declared.problem.Problem.{Problem}
use Rattle.decisions.specs.Decision.{Decision, work_at}
use Rattle.decisions.specs.declared.placed.Ticks.{Ticks}
use Rattle.decisions.specs.Place.{words_taken, ticks_on}
use Rattle.unit_ticks.specs.Busy.{Busy, by_time}
use Rattle.decisions.specs.Choices.{by_start, is_placed, IsReached}
use Rattle.decisions.specs.IsProblem.{IsProblem}
use Rattle.placement.specs.declared.state.State.{State}

-- what is to be placed, and the decisions so far
pub record Held : Type 0 where
  pub problem : Problem
  pub list : List Decision

-- the place of the first decision on a job, and of the first on a task
abbrev pub place_of_job : List Decision → (job : ℕ) → Option ℕ
place_of_job l job = position (λ (d : Decision). d.job == job) l

abbrev pub place_of_task : Problem → List Decision → (task : ℕ) → Option ℕ
place_of_task pr l task = position (λ (d : Decision). (work_at pr d.job).task == task) l

-- the job starts after its latest start
abbrev pub is_past : Problem → Decision → Bool
is_past pr d = not (leb (d.start + (work_at pr d.job).remaining) (work_at pr d.job).deadline)

-- one of the jobs below n has its latest start before its release
abbrev pub is_hopeless : Problem → (n : ℕ) → Bool
is_hopeless pr zero = false
is_hopeless pr (suc job) = not (leb ((work_at pr job).release + (work_at pr job).remaining) (work_at pr job).deadline) || is_hopeless pr job

-- a table has the place for each number below n
pub record HasPlaces (table : List (Option ℕ)) (n : ℕ) (place_of : ℕ → Option ℕ) : Type 0 where
  pub size : length table ≡ n
  pub each : (k : ℕ) → k < n → slice_get table k ≡ Some (place_of k)

-- each frame has the words that are taken in it
pub record HasWords (pr : Problem) (l : List Decision) (f : Load) : Type 0 where
  pub layout : f.layout ≡ pr.round
  pub taken : (unit round : ℕ) → unit < pr.round.units → round < pr.round.rounds → taken_in f unit round ≡ words_taken l unit round

-- the ticks of a decision
abbrev pub ticks_of : Decision → Ticks
ticks_of d = record { start = d.start; end = d.end }

-- each unit has the ticks that are taken on it, in the order of time, and room for those of all jobs
pub record HasTicks (pr : Problem) (l : List Decision) (b : Busy) : Type 0 where
  pub room : b.room ≡ length pr.works
  pub units : length b.rows ≡ pr.round.units
  pub each : (unit : ℕ) → unit < pr.round.units → get_or b.rows unit [] ≡ by_time (ticks_on l unit)

-- the jobs before a place in the order are placed, and no job stands there before its rank
pub record IsFront (pr : Problem) (l : List Decision) (ranks : List ℕ) (first : ℕ) : Type 0 where
  pub size : length ranks ≡ length pr.works
  pub least : (job k : ℕ) → job < length pr.works → slice_get (by_start pr (length pr.works)) k ≡ Some job → get_or ranks job 0 ≤ k
  pub placed : (k job : ℕ) → slice_get (by_start pr (length pr.works)) k ≡ Some job → k < first → is_placed l job ≡ true

-- all that is kept beside the list
pub record Holds (s : State) : Type 0 where
  pub is_problem : IsProblem s.problem
  pub reached : IsReached s.problem s.placed.items
  pub room : length s.problem.works ≤ vec_capacity s.placed
  pub jobs : HasPlaces s.places.items (length s.problem.works) (place_of_job s.placed.items)
  pub tasks : HasPlaces s.homes.items 64 (place_of_task s.problem s.placed.items)
  pub words : HasWords s.problem s.placed.items s.frames
  pub ticks : HasTicks s.problem s.placed.items s.ticks
  pub order_is : s.order.items ≡ by_start s.problem (length s.problem.works)
  pub front : IsFront s.problem s.placed.items s.ranks.items s.first
  pub late_is : s.late ≡ count_by (is_past s.problem) s.placed.items
  pub hopeless_is : s.hopeless ≡ is_hopeless s.problem (length s.problem.works)
