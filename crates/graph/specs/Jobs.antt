-- The jobs of a cycle: each task once for each of its periods.
use Rattle.std.specs.Prelude.{◌≡◌, ℕ, zero, suc, ◌+◌, ◌*◌, ◌<◌, ◌≤◌, ◌⊎◌, List, [], ◌∷◌, ◌++◌, length, map, slice_index}
use Rattle.graph.specs.declared.net.Net.{Net}
use Rattle.graph.specs.declared.job.Job.{Job}
use Rattle.graph.specs.Net.{period_of, deadline_of, instances, Feeds}
use Rattle.graph.specs.Cycle.{first_job}

-- the tick before which an instance of a task can't start: so many periods from the cycle's start
abbrev pub release_of : Net → (task instance : ℕ) → ℕ
release_of net task instance = instance * period_of net task

-- the tick by which it ends
abbrev pub due_of : Net → (task instance : ℕ) → ℕ
due_of net task instance = release_of net task instance + deadline_of net task

-- an instance of a task, with its release, its deadline and the task's length
abbrev pub job_of : Net → (lengths : List ℕ) → (task instance : ℕ) → Job
job_of net lengths task instance = record {
  task = task;
  instance = instance;
  release = release_of net task instance;
  deadline = due_of net task instance;
  length = slice_index lengths task;
}

-- the first n instances of a task
abbrev pub jobs_of_task : Net → (lengths : List ℕ) → (task n : ℕ) → List Job
jobs_of_task net lengths task zero = []
jobs_of_task net lengths task (suc n) = jobs_of_task net lengths task n ++ job_of net lengths task n ∷ []

-- the jobs of the first n tasks: by task, and then by instance
abbrev pub jobs_of : Net → (cycle : ℕ) → (lengths : List ℕ) → (n : ℕ) → List Job
jobs_of net cycle lengths zero = []
jobs_of net cycle lengths (suc n) = jobs_of net cycle lengths n ++ jobs_of_task net lengths n (instances net cycle n)

-- the number of a job
abbrev pub job_number : Net → (cycle task instance : ℕ) → ℕ
job_number net cycle task instance = first_job net cycle task + instance

-- the job numbered a is a producer of the job numbered b: an edge joins their tasks, and they're one instance
pub record IsProducer (net : Net) (cycle : ℕ) (a b : ℕ) : Type 0 where
  pub from : ℕ
  pub to : ℕ
  pub instance : ℕ
  pub edge : Feeds net from to
  pub in_cycle : instance < instances net cycle to
  pub from_is : a ≡ job_number net cycle from instance
  pub to_is : b ≡ job_number net cycle to instance

-- m is the greatest number that the list has for a successor of the job; 0 where it has none
pub record IsGreatestAfter (net : Net) (cycle : ℕ) (list : List ℕ) (job m : ℕ) : Type 0 where
  pub above : (next : ℕ) → IsProducer net cycle job next → slice_index list next ≤ m
  pub reached : (m ≡ 0) ⊎ ((next : ℕ) × IsProducer net cycle job next × (slice_index list next ≡ m))

-- each job's remaining ticks are its length and the greatest remaining of its successors
abbrev pub IsRemaining : Net → (cycle : ℕ) → (jobs : List Job) → (remaining : List ℕ) → Type 0
IsRemaining net cycle jobs remaining = (job : ℕ) → job < length jobs →
    (m : ℕ) × IsGreatestAfter net cycle remaining job m × (slice_index remaining job ≡ slice_index (map (λ (j : Job). j.length) jobs) job + m)
