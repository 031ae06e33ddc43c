-- Which limit of a cycle a net passes first.
use Rattle.std.specs.Prelude.{◌≡◌, ℕ, ◌<◌, ◌≤◌}
use Rattle.graph.specs.declared.net.Net.{Net}
use Rattle.graph.specs.declared.job.GraphFault.{GraphFault}
use Rattle.graph.specs.declared.job.GraphFault.TheVariants.{CycleTooLong, TooManyJobs, TooManySensorWords, Memory}
use Rattle.graph.specs.Cycle.{IsCycle, IsFirstPast, job_count, sensor_words}

-- a cycle is short enough, and has too many jobs
pub record HasManyJobs (net : Net) (jobs : ℕ) : Type 0 where
  pub cycle : ℕ
  pub is_cycle : IsCycle net cycle
  pub ticks : cycle ≤ 65536
  pub jobs_are : jobs ≡ job_count net cycle
  pub past : 512 < jobs

-- a cycle is short enough, has few enough jobs, and too many sensor words
pub record HasManyWords (net : Net) (words : ℕ) : Type 0 where
  pub cycle : ℕ
  pub is_cycle : IsCycle net cycle
  pub ticks : cycle ≤ 65536
  pub jobs : job_count net cycle ≤ 512
  pub words_are : words ≡ sensor_words net cycle
  pub past : 4096 < words

-- the fault names the limit that is passed first, with the value that passes it
abbrev pub PassesLimit : Net → GraphFault → Type 0
PassesLimit net (CycleTooLong value) = IsFirstPast net value
PassesLimit net (TooManyJobs jobs) = HasManyJobs net jobs
PassesLimit net (TooManySensorWords words) = HasManyWords net words
PassesLimit net Memory = ⊥
