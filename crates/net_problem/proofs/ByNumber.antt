-- The works of a net's jobs, by number.
use Rattle.std.proofs.Common.{◌≡◌, ℕ, zero, suc, ◌+◌, ◌<◌, ◌≤◌, inl, inr, List, [], ◌∷◌, ◌++◌, length, get_or, map, Some, None, refl, sym, ap, ◌∙◌, subst, arith, length-append}
use Rattle.std.specs.Prelude.{slice_get, slice_index}
use Rattle.std.proofs.Math.ListN.{get_or-append}
use Rattle.std.proofs.Math.Seq.{get_or-append_seam}
use Rattle.std.proofs.lemmas.Bool.{cases_eq}
use Rattle.std.proofs.lemmas.List.{get_or_past}
use Rattle.std.proofs.lemmas.Option.{get_or_from_slice_get}
use Rattle.graph.specs.declared.job.Job.{Job}
use Rattle.graph.specs.declared.net.Net.{Net}
use Rattle.graph.specs.JobGraph.{JobGraph}
use Rattle.graph.specs.Jobs.{job_of, job_number, release_of, due_of}
use Rattle.graph.specs.Net.{instances, units_of}
use Rattle.graph.specs.Feeders.{in_edges}
use Rattle.graph.specs.NetGraph.{IsNetGraph, IsNetGraphFor}
use Rattle.graph.proofs.NetGraphs.{graph_size, job_is, number_is}
use Rattle.tables.specs.Named.{no_job, job_at}
use Rattle.decisions.specs.declared.problem.Work.{Work}
use Rattle.decisions.specs.declared.problem.Problem.{Problem}
use Rattle.decisions.specs.Decision.{no_work, work_at}
use Rattle.decisions.specs.ProblemOf.{feed_of, work_of, works_of, problem_of}
use Rattle.net_problem.specs.Instance.{IsInstance}

pub works_length : (net : Net) (g : JobGraph) (n : ℕ) → length (works_of net g n) ≡ n
works_length net g zero = refl
works_length net g (suc n) = let h = works_length net g n in let a = length-append (works_of net g n) (work_of net g n ∷ []) in omega arith

works_at : (net : Net) (g : JobGraph) (n j : ℕ) → j < n → get_or (works_of net g n) j no_work ≡ work_of net g j
works_at net g zero j low = absurd (omega arith)
works_at net g (suc n) j low =
    let size = works_length net g n in
    elim (cases_eq j n) [
      | inl e ↦ (let at : length (works_of net g n) ≡ j = omega arith in
          subst (λ k. get_or (works_of net g (suc n)) k no_work ≡ work_of net g j) at (get_or-append_seam (works_of net g n) (work_of net g n) [] no_work ∙ ap (work_of net g) (sym e)))
      | inr ne ↦ get_or-append (works_of net g n) (work_of net g n ∷ []) no_work j (omega arith) ∙ works_at net g n j (omega arith)
    ]

-- a job's number is that of its task's instance
pub record IsJobOf (net : Net) (lengths : List ℕ) (g : JobGraph) (job : ℕ) : Type 0 where
  pub task : ℕ
  pub instance : ℕ
  pub there : IsInstance net g task instance
  pub number : job ≡ job_number net g.cycle task instance
  pub is : job_at g job ≡ job_of net lengths task instance

pub job_there : (net : Net) (lengths : List ℕ) (g : JobGraph) (job : ℕ) → IsNetGraphFor net lengths g → job < length g.jobs → IsJobOf net lengths g job
job_there net lengths g job h low =
    let n = number_is net lengths g h.graph job low in
    let i = job_is net lengths g h.graph n.0 n.1 n.2 n.3 in
    record {
      task = n.0;
      instance = n.1;
      there = record { task_is = n.2; inside = n.3 };
      number = n.4;
      is = get_or_from_slice_get g.jobs job (job_of net lengths n.0 n.1) no_job (ap (slice_get g.jobs) n.4 ∙ i);
    }

-- a job is an instance of its task
pub instance_at : (net : Net) (g : JobGraph) (job : ℕ) → IsNetGraph net g → job < length g.jobs → IsInstance net g (job_at g job).task (job_at g job).instance
instance_at net g job h low =
    let j = job_there net h.lengths g job h.is low in
    subst (λ (x : Job). IsInstance net g x.task x.instance) (sym j.is) j.there

-- the work of a task's instance
abbrev pub work_for : Net → (lengths : List ℕ) → JobGraph → (job task instance : ℕ) → Work
work_for net lengths g job task instance = record {
  task = task;
  instance = instance;
  release = release_of net task instance;
  deadline = due_of net task instance;
  length = slice_index lengths task;
  remaining = slice_index g.remaining job;
  units = units_of net task;
  feeds = map (feed_of net g instance) (in_edges net task);
}

pub work_is : (net : Net) (lengths : List ℕ) (g : JobGraph) (job : ℕ) → job < length g.jobs → (j : IsJobOf net lengths g job) → work_at (problem_of net g) job ≡ work_for net lengths g job j.task j.instance
work_is net lengths g job low j =
    works_at net g (length g.jobs) job low
    ∙ ap (λ (x : Job). let w : Work = record {
      task = x.task;
      instance = x.instance;
      release = x.release;
      deadline = x.deadline;
      length = x.length;
      remaining = slice_index g.remaining job;
      units = units_of net x.task;
      feeds = map (feed_of net g x.instance) (in_edges net x.task);
    } in w) j.is

-- jobs are few
pub number_few : (net : Net) (g : JobGraph) (number : ℕ) → IsNetGraph net g → number < length g.jobs → number < 512
number_few net g number h low = omega (arith, h.is.graph.limits.jobs, graph_size net h.lengths g h.is.graph)
