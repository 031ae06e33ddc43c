-- What a net's graph says of its jobs.
use Rattle.std.proofs.Common.{◌≡◌, ℕ, ◌<◌, List, length, get_or, Some, ◌∙◌, ap, arith}
use Rattle.std.specs.Prelude.{slice_get}
use Rattle.std.proofs.lemmas.Option.{slice_get-get_or}
use Rattle.graph.specs.declared.net.Net.{Net}
use Rattle.graph.specs.declared.job.Job.{Job}
use Rattle.graph.specs.Net.{instances}
use Rattle.graph.specs.Jobs.{job_of, job_number}
use Rattle.graph.specs.Cycle.{job_count}
use Rattle.graph.specs.JobGraph.{JobGraph}
use Rattle.graph.specs.GraphOf.{IsGraphOf}
use Rattle.graph.proofs.Numbers.{is_job, job_at}
use Rattle.graph.proofs.JobLists.{job_there, length-jobs_of}

-- a graph has a number for each job of a cycle
pub graph_size : (net : Net) (lengths : List ℕ) (g : JobGraph) → IsGraphOf net lengths g → length g.jobs ≡ job_count net g.cycle
graph_size net lengths g h = ap length h.jobs ∙ length-jobs_of net g.cycle lengths (length net.tasks)

-- the number of a task's instance is one of the graph's
pub number_inside : (net : Net) (lengths : List ℕ) (g : JobGraph) → IsGraphOf net lengths g → (t i : ℕ) → t < length net.tasks → i < instances net g.cycle t → job_number net g.cycle t i < length g.jobs
number_inside net lengths g h t i low inside = omega (arith, graph_size net lengths g h, is_job net g.cycle (length net.tasks) t i low inside)

-- the job with the number of a task's instance is this instance
pub job_is : (net : Net) (lengths : List ℕ) (g : JobGraph) → IsGraphOf net lengths g → (t i : ℕ) → t < length net.tasks → i < instances net g.cycle t
    → slice_get g.jobs (job_number net g.cycle t i) ≡ Some (job_of net lengths t i)
job_is net lengths g h t i low inside =
    let d = job_of net lengths t i in
    slice_get-get_or g.jobs (job_number net g.cycle t i) d (number_inside net lengths g h t i low inside)
    ∙ ap (λ (js : List Job). Some (get_or js (job_number net g.cycle t i) d)) h.jobs
    ∙ ap (λ (j : Job). Some j) (job_there net g.cycle lengths (length net.tasks) t i d low inside)

-- each number of the graph is that of a task's instance
pub number_is : (net : Net) (lengths : List ℕ) (g : JobGraph) → IsGraphOf net lengths g → (number : ℕ) → number < length g.jobs
    → (t : ℕ) × (i : ℕ) × (t < length net.tasks) × (i < instances net g.cycle t) × (number ≡ job_number net g.cycle t i)
number_is net lengths g h number low = job_at net g.cycle (length net.tasks) number (omega (arith, low, graph_size net lengths g h))
