-- The units of jobs, and those of their tasks' first jobs.
use Rattle.std.proofs.Common.{◌≡◌, ℕ, ◌<◌, List, length, get_or, Some, sym, ◌∙◌, ap, subst, arith}
use Rattle.std.specs.Prelude.{slice_get}
use Rattle.std.proofs.lemmas.Option.{get_or_from_slice_get}
use Rattle.graph.specs.declared.job.Job.{Job}
use Rattle.graph.specs.declared.net.Net.{Net}
use Rattle.graph.specs.Cycle.{first_job}
use Rattle.graph.specs.Net.{instances}
use Rattle.graph.specs.Jobs.{job_of, job_number}
use Rattle.graph.specs.JobGraph.{JobGraph}
use Rattle.graph.specs.NetGraph.{IsNetGraph}
use Rattle.graph.proofs.NetGraphs.{number_inside, job_is, number_is}
use Rattle.tables.specs.declared.table.Tables.{Tables}
use Rattle.tables.specs.Named.{no_job, job_at, entry_at}
use Rattle.tables.specs.Progress.{IsOnUnit}
use Rattle.tables.specs.Rules.{HasUnits}

-- what stands at a place is what is read there
read_at : (jobs : List Job) (n : ℕ) (job : Job) → slice_get jobs n ≡ Some job → get_or jobs n no_job ≡ job
read_at jobs n job e = get_or_from_slice_get jobs n job no_job e

-- a job's task is one of the net's, and the task's first job is one of the graph's, of the same task
pub record HasFirst (net : Net) (g : JobGraph) (job : ℕ) : Type 0 where
  pub task : (job_at g job).task < length net.tasks
  pub inside : first_job net g.cycle (job_at g job).task < length g.jobs
  pub same : (job_at g (first_job net g.cycle (job_at g job).task)).task ≡ (job_at g job).task

first_of : (net : Net) (g : JobGraph) (job t i : ℕ) → IsNetGraph net g → t < length net.tasks → i < instances net g.cycle t → job ≡ job_number net g.cycle t i → HasFirst net g job
first_of net g job t i n low inside e =
    let here : job_at g job ≡ job_of net n.lengths t i = read_at g.jobs job (job_of net n.lengths t i) (ap (slice_get g.jobs) e ∙ job_is net n.lengths g n.is.graph t i low inside) in
    let task : (job_at g job).task ≡ t = ap (λ (j : Job). j.task) here in
    let some : 0 < instances net g.cycle t = omega arith in
    let first : job_number net g.cycle t 0 ≡ first_job net g.cycle t = omega arith in
    let there : job_at g (first_job net g.cycle t) ≡ job_of net n.lengths t 0 =
    read_at g.jobs (first_job net g.cycle t) (job_of net n.lengths t 0) (ap (slice_get g.jobs) (sym first) ∙ job_is net n.lengths g n.is.graph t 0 low some) in
    record {
      task = omega (arith, task);
      inside = subst (λ x. first_job net g.cycle x < length g.jobs) (sym task) (omega (arith, first, number_inside net n.lengths g n.is.graph t 0 low some));
      same = subst (λ x. (job_at g (first_job net g.cycle x)).task ≡ x) (sym task) (ap (λ (j : Job). j.task) there);
    }

-- each job has a first job of its task
pub has_first : (net : Net) (g : JobGraph) (job : ℕ) → IsNetGraph net g → job < length g.jobs → HasFirst net g job
has_first net g job n low =
    let h = number_is net n.lengths g n.is.graph job low in
    first_of net g job h.0 h.1 n h.2 h.3 h.4

-- where each job is on its task's first job's unit, all jobs of a task are on one
pub all_units : (net : Net) (g : JobGraph) (t : Tables) → IsNetGraph net g → ((job : ℕ) → job < length g.jobs → IsOnUnit net g t job) → HasUnits net g t
all_units net g t n each = record {
  allowed = λ job low. (each job low).allowed;
  same = λ job other low there e. (each job low).same ∙ ap (λ task. (entry_at t (first_job net g.cycle task)).unit) e ∙ sym (each other there).same;
}

-- and the other way round
pub on_unit : (net : Net) (g : JobGraph) (t : Tables) (job : ℕ) → IsNetGraph net g → HasUnits net g t → job < length g.jobs → IsOnUnit net g t job
on_unit net g t job n h low =
    let f = has_first net g job n low in
    record { allowed = h.allowed job low; same = h.same job (first_job net g.cycle (job_at g job).task) low f.inside (sym f.same) }
