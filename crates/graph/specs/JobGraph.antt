-- What a graph of jobs shows.
use Rattle.std.specs.Prelude.{◌≡◌, ℕ, ◌^◌, ◌<◌, ◌≤◌, ℤ, pos, ◌-ℤ◌, List, length, map, slice_index, Option}
use Rattle.graph.specs.declared.job.Job.{Job}
use Rattle.graph.specs.declared.feeder.Feeder.{Feeder}

-- the ticks of a cycle, its jobs, the order of their numbers, the remaining ticks of each, and two tables
pub record JobGraph : Type 0 where
  pub cycle : ℕ
  pub jobs : List Job
  pub order : List ℕ
  pub remaining : List ℕ
  -- the number of each task's first job
  pub first_jobs : List ℕ
  -- what feeds each in port, 16 ports a task
  pub feeders : List (Option Feeder)

-- each job has its remaining ticks, and they're few enough to count down from a deadline
pub record IsJobGraph (g : JobGraph) : Type 0 where
  pub size : length g.remaining ≡ length g.jobs
  pub few : (job : ℕ) → slice_index g.remaining job < 2 ^ 63
  pub few_jobs : length g.jobs ≤ 512
  pub ports : length g.feeders ≡ 1024

-- the latest tick at which a job may start: its deadline less its remaining ticks
abbrev pub latest_start_of : JobGraph → (job : ℕ) → ℤ
latest_start_of g job = pos (slice_index (map (λ (j : Job). j.deadline) g.jobs) job) -ℤ pos (slice_index g.remaining job)
