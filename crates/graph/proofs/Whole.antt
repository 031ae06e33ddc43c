-- The parts of a graph make the net's graph.
use Rattle.std.proofs.Common.{◌≡◌, ℕ, ◌*◌, ◌^◌, ◌<◌, ◌≤◌, inl, inr, List, length, get_or, Option, refl, sym, ◌∙◌, ap, subst, arith}
use Rattle.std.specs.Prelude.{All, map}
use Rattle.std.proofs.Math.ListN.{get_or-map}
use Rattle.std.proofs.lemmas.Bool.{cases_lt}
use Rattle.std.proofs.lemmas.List.{length-map, get_or_past, get_or_default}
use Rattle.graph.specs.declared.net.Net.{Net}
use Rattle.graph.specs.declared.job.Job.{Job}
use Rattle.graph.specs.Net.{Feeds}
use Rattle.graph.specs.declared.feeder.Feeder.{Feeder}
use Rattle.graph.specs.Feeders.{feeder_of}
use Rattle.graph.specs.FeederTable.{feeder_in}
use Rattle.graph.specs.Cycle.{IsWithinLimits, first_job, job_count}
use Rattle.graph.specs.Order.{IsOrder}
use Rattle.graph.specs.Jobs.{jobs_of, job_of, IsProducer}
use Rattle.graph.specs.Sound.{HasEntries}
use Rattle.graph.specs.TaskRemaining.{HasRemainingFrom}
use Rattle.graph.specs.JobGraph.{IsJobGraph}
use Rattle.graph.specs.GraphOf.{IsGraphOf}
use Rattle.graph.proofs.Numbers.{job_at}
use Rattle.graph.proofs.JobLists.{job_there, length-jobs_of}
use Rattle.graph.proofs.Remaining.{of_jobs, only_remaining, next_is_job}

-- the tasks of the jobs are the net's
pub tasks_of_jobs : (net : Net) (h : ℕ) (lengths : List ℕ) → All (λ (j : Job). j.task < length net.tasks) (jobs_of net h lengths (length net.tasks))
tasks_of_jobs net h lengths k d low =
    let w = job_at net h (length net.tasks) k (omega (arith, low, length-jobs_of net h lengths (length net.tasks))) in
    let is : get_or (jobs_of net h lengths (length net.tasks)) k d ≡ job_of net lengths w.0 w.1 = ap (λ i. get_or (jobs_of net h lengths (length net.tasks)) i d) w.4 ∙ job_there net h lengths (length net.tasks) w.0 w.1 d w.2 w.3 in
    subst (λ (j : Job). j.task < length net.tasks) (sym is) w.2

mapped_few : (jobs : List Job) (g : Job → ℕ) (b : ℕ) → ((j : Job) → g j ≤ b) → (k : ℕ) → get_or (map g jobs) k 0 ≤ b
mapped_few jobs g b all k = elim (cases_lt k (length (map g jobs))) [
  | inr past ↦ (let e = get_or_past (map g jobs) k 0 past in omega (arith, e))
  | inl low ↦ few jobs g b all k low
]
  where
    few : (jobs : List Job) (g : Job → ℕ) (b : ℕ) → ((j : Job) → g j ≤ b) → (k : ℕ) → k < length (map g jobs) → get_or (map g jobs) k 0 ≤ b
    few jobs g b all k low =
        let none : Job = record { task = 0; instance = 0; release = 0; deadline = 0; length = 0 } in
        let e : get_or (map g jobs) k 0 ≡ g (get_or jobs k none) = get_or_default (map g jobs) k 0 (g none) low ∙ get_or-map g jobs k none in
        let a = all (get_or jobs k none) in
        omega (arith, e, a)

-- the fields of a graph keep its invariant
pub is_job_graph : (net : Net) (lengths tasks list order remaining firsts : List ℕ) (feeders : List (Option Feeder)) (h : ℕ) (jobs : List Job) → length tasks ≤ 64 → HasRemainingFrom net lengths tasks list 0 →
    remaining ≡ map (λ (j : Job). get_or list j.task 0) jobs → jobs ≡ jobs_of net h lengths (length net.tasks) → job_count net h ≤ 512 → length feeders ≡ 1024
    → IsJobGraph (record { cycle = h; jobs = jobs; order = order; remaining = remaining; first_jobs = firsts; feeders = feeders })
is_job_graph net lengths tasks list order remaining firsts feeders h jobs small come e all few ports = record {
  size = ap length e ∙ length-map jobs (λ (j : Job). get_or list j.task 0);
  few = λ k.
      let bound = mapped_few jobs (λ (j : Job). get_or list j.task 0) (length tasks * 2 ^ 32) (λ j. (let a = come.few j.task in omega (arith, a))) k in
      let is : get_or remaining k 0 ≡ get_or (map (λ (j : Job). get_or list j.task 0) jobs) k 0 = ap (λ xs. get_or xs k 0) e in
      omega (arith, bound, is, small);
  few_jobs = omega (arith, ap length all, length-jobs_of net h lengths (length net.tasks), few);
  ports = ports;
}

-- the parts are the net's graph
pub is_graph : (net : Net) → HasEntries net → (lengths tasks list order remaining firsts : List ℕ) (feeders : List (Option Feeder)) (h : ℕ) (jobs : List Job) → IsWithinLimits net h → IsOrder (Feeds net) (length net.tasks) tasks →
    jobs ≡ jobs_of net h lengths (length net.tasks) → IsOrder (IsProducer net h) (job_count net h) order → HasRemainingFrom net lengths tasks list 0 →
    remaining ≡ map (λ (j : Job). get_or list j.task 0) jobs → length firsts ≡ length net.tasks → ((task : ℕ) → task < length net.tasks → get_or firsts task 0 ≡ first_job net h task) →
    ((task port : ℕ) → task < 64 → port < 16 → feeder_in feeders task port ≡ feeder_of net task port)
    → IsGraphOf net lengths (record { cycle = h; jobs = jobs; order = order; remaining = remaining; first_jobs = firsts; feeders = feeders })
is_graph net entries lengths tasks list order remaining firsts feeders h jobs limits first e named come f tasks_size firsts_are feeders_are =
    let all = jobs_of net h lengths (length net.tasks) in
    let rest = map (λ (j : Job). get_or list j.task 0) all in
    let rest_is : map (λ (j : Job). get_or list j.task 0) all ≡ remaining = ap (λ (js : List Job). map (λ (j : Job). get_or list j.task 0) js) (sym e) ∙ sym f in
    let size : length rest ≡ length all = length-map all (λ (j : Job). get_or list j.task 0) in
    let named' : IsOrder (IsProducer net h) (length all) order = subst (λ n. IsOrder (IsProducer net h) n order) (sym (length-jobs_of net h lengths (length net.tasks))) named in
    let is = of_jobs net entries h lengths tasks list first come in
    subst (λ (js : List Job). IsGraphOf net lengths (record { cycle = h; jobs = js; order = order; remaining = remaining; first_jobs = firsts; feeders = feeders })) (sym e)
    (subst (λ (r : List ℕ). IsGraphOf net lengths (record { cycle = h; jobs = all; order = order; remaining = r; first_jobs = firsts; feeders = feeders })) rest_is (record {
      limits = limits;
      jobs = refl;
      order = named';
      size = size;
      remaining = is;
      only = λ other n h'. only_remaining net h all order other rest named' (next_is_job net entries h lengths) n size h' is;
      tasks = tasks_size;
      first_jobs = firsts_are;
      feeders = feeders_are;
    }))
