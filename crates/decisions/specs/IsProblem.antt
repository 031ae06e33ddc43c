-- What holds of the jobs that are to be placed: their numbers are within limits, no producers go in a circle, and jobs that
-- edges join have one release and one deadline.
use Rattle.std.specs.Prelude.{◌≡◌, ℕ, ◌+◌, ◌^◌, ◌<◌, ◌≤◌, ◌⊎◌, length, Some, slice_get}
use Rattle.tdma.specs.Layout.{IsLayout, cycle_ticks}
use Rattle.decisions.specs.declared.problem.Feed.{Feed}
use Rattle.decisions.specs.declared.problem.Problem.{Problem}
use Rattle.decisions.specs.Decision.{work_at}

-- an in port of the job is fed by the producer
pub record IsFedBy (pr : Problem) (job producer : ℕ) : Type 0 where
  pub place : ℕ
  pub feed : Feed
  pub stands : slice_get (work_at pr job).feeds place ≡ Some feed
  pub is : feed.producer ≡ producer

-- the numbers of a job
pub record IsWork (pr : Problem) (job : ℕ) : Type 0 where
  pub task : (work_at pr job).task < 64
  pub ticks : 1 ≤ (work_at pr job).length
  pub deadline : (work_at pr job).deadline ≤ cycle_ticks pr.round
  pub units : (work_at pr job).units < 2 ^ pr.round.units
  pub feeds : length (work_at pr job).feeds ≤ 16

-- what feeds a job: its producers are jobs of the problem, with its release and its deadline
pub record IsSource (pr : Problem) (job producer : ℕ) : Type 0 where
  pub is_job : producer < length pr.works
  pub release : (work_at pr producer).release ≡ (work_at pr job).release
  pub deadline : (work_at pr producer).deadline ≡ (work_at pr job).deadline

-- the job's remaining ticks are its length and the greatest remaining of those that it feeds
pub record HasRemaining (pr : Problem) (job : ℕ) : Type 0 where
  pub after : ℕ
  pub is : (work_at pr job).remaining ≡ (work_at pr job).length + after
  pub above : (next : ℕ) → next < length pr.works → IsFedBy pr next job → (work_at pr next).remaining ≤ after
  pub reached : (after ≡ 0) ⊎ ((next : ℕ) × (next < length pr.works) × IsFedBy pr next job × ((work_at pr next).remaining ≡ after))

pub record IsProblem (pr : Problem) : Type 0 where
  pub few : length pr.works ≤ 512
  pub layout : IsLayout pr.round
  pub cycle : cycle_ticks pr.round ≤ 65536
  pub works : (job : ℕ) → job < length pr.works → IsWork pr job
  pub words : (job place : ℕ) (feed : Feed) → slice_get (work_at pr job).feeds place ≡ Some feed → feed.words ≤ 17
  pub sources : (job producer : ℕ) → job < length pr.works → IsFedBy pr job producer → IsSource pr job producer
  -- the jobs stand in an order in which each producer comes before what it feeds
  pub place : ℕ → ℕ
  pub placed : (job : ℕ) → job < length pr.works → place job < length pr.works
  pub before : (job producer : ℕ) → job < length pr.works → IsFedBy pr job producer → place producer < place job
  pub remaining : (job : ℕ) → job < length pr.works → HasRemaining pr job
