-- The graph of a net's jobs, and what keeps a net from having one.
use Rattle.std.specs.Prelude.{◌≡◌, ℕ, ◌<◌, List, length, slice_index}
use Rattle.graph.specs.declared.net.Net.{Net}
use Rattle.graph.specs.declared.job.GraphFault.{GraphFault}
use Rattle.graph.specs.declared.job.GraphFault.TheVariants.{CycleTooLong, TooManyJobs, TooManySensorWords, Memory}
use Rattle.graph.specs.Cycle.{IsFirstPast, IsWithinLimits, first_job}
use Rattle.graph.specs.Faults.{HasManyJobs, HasManyWords}
use Rattle.graph.specs.Order.{IsOrder}
use Rattle.graph.specs.Jobs.{jobs_of, IsProducer, IsRemaining}
use Rattle.graph.specs.JobGraph.{JobGraph}
use Rattle.graph.specs.Feeders.{feeder_of}
use Rattle.graph.specs.FeederTable.{feeder_in}

-- the graph of the net's jobs, for a length of each task
pub record IsGraphOf (net : Net) (lengths : List ℕ) (g : JobGraph) : Type 0 where
  -- the cycle is the net's, and within its limits
  pub limits : IsWithinLimits net g.cycle
  -- the jobs, by task and then by instance
  pub jobs : g.jobs ≡ jobs_of net g.cycle lengths (length net.tasks)
  -- each place has the least job whose producers all stand before it
  pub order : IsOrder (IsProducer net g.cycle) (length g.jobs) g.order
  -- the remaining ticks meet their equation, and no other list of as many numbers does
  pub size : length g.remaining ≡ length g.jobs
  pub remaining : IsRemaining net g.cycle g.jobs g.remaining
  pub only : (other : List ℕ) → length other ≡ length g.jobs → IsRemaining net g.cycle g.jobs other → other ≡ g.remaining
  -- each task has the number of its first job
  pub tasks : length g.first_jobs ≡ length net.tasks
  pub first_jobs : (task : ℕ) → task < length net.tasks → slice_index g.first_jobs task ≡ first_job net g.cycle task
  -- each port has what feeds it
  pub feeders : (task port : ℕ) → task < 64 → port < 16 → feeder_in g.feeders task port ≡ feeder_of net task port

-- the fault names the limit that is passed first, with the value that passes it; without memory no limit is passed
abbrev pub IsFaultOf : Net → GraphFault → Type 0
IsFaultOf net (CycleTooLong value) = IsFirstPast net value
IsFaultOf net (TooManyJobs jobs) = HasManyJobs net jobs
IsFaultOf net (TooManySensorWords words) = HasManyWords net words
IsFaultOf net Memory = (cycle : ℕ) × IsWithinLimits net cycle
