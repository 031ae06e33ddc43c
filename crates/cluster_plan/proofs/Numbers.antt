-- A job of a graph is that of its task and its instance, and its entry in valid tables keeps its times.
use Rattle.std.proofs.Common.{◌≡◌, ℕ, ◌+◌, ◌*◌, ◌<◌, ◌≤◌, length, sym, ◌∙◌, ap, subst, arith}
use Rattle.std.specs.Prelude.{slice_index}
use Rattle.std.proofs.lemmas.List.Elements.{All-get_or}
use Rattle.std.proofs.lemmas.Option.{get_or_from_slice_get}
use Rattle.graph.specs.JobGraph.{JobGraph}
use Rattle.graph.specs.Jobs.{job_of, job_number, release_of, due_of}
use Rattle.graph.specs.Net.{instances, period_of, deadline_of, transaction_period, transaction_deadline}
use Rattle.graph.specs.NetGraph.{IsNetGraph}
use Rattle.graph.specs.declared.job.Job.{Job}
use Rattle.graph.specs.declared.net.Net.{Net}
use Rattle.graph.proofs.Entries.{transaction_at}
use Rattle.graph.proofs.NetGraphs.{number_inside, job_is, number_is}
use Rattle.tables.specs.Named.{no_job, job_at, entry_at}
use Rattle.tables.specs.Valid.{AreValid}
use Rattle.tables.specs.declared.rule.TableRule.TheVariants as rule
use Rattle.tables.specs.declared.table.Tables.{Tables}
use Rattle.cluster_plan.proofs.Ticks.{instance_ends, instance_inside}

module _ (net : Net) (g : JobGraph) (n : IsNetGraph net g) where
  -- the job of a task and an instance
  pub at_number : (task instance : ℕ) → task < length net.tasks → instance < instances net g.cycle task → job_at g (job_number net g.cycle task instance) ≡ job_of net n.lengths task instance
  at_number task instance low run =
      get_or_from_slice_get g.jobs (job_number net g.cycle task instance) (job_of net n.lengths task instance) no_job (job_is net n.lengths g n.is.graph task instance low run)

  pub inside : (task instance : ℕ) → task < length net.tasks → instance < instances net g.cycle task → job_number net g.cycle task instance < length g.jobs
  inside task instance low run = number_inside net n.lengths g n.is.graph task instance low run

  -- what each job is
  pub record IsOf (job : ℕ) : Type 0 where
    pub task : (job_at g job).task < length net.tasks
    pub instance : (job_at g job).instance < instances net g.cycle (job_at g job).task
    pub number : job_number net g.cycle (job_at g job).task (job_at g job).instance ≡ job
    pub is : job_at g job ≡ job_of net n.lengths (job_at g job).task (job_at g job).instance

  pub is_of : (job : ℕ) → job < length g.jobs → IsOf job
  is_of job low =
      let h = number_is net n.lengths g n.is.graph job low in
      let here : job_at g job ≡ job_of net n.lengths h.0 h.1 = ap (job_at g) h.4 ∙ at_number h.0 h.1 h.2 h.3 in
      let task : (job_at g job).task ≡ h.0 = ap (λ (j : Job). j.task) here in
      let instance : (job_at g job).instance ≡ h.1 = ap (λ (j : Job). j.instance) here in
      record {
        task = subst (λ x. x < length net.tasks) (sym task) h.2;
        instance = subst (λ x. (job_at g job).instance < instances net g.cycle x) (sym task) (subst (λ x. x < instances net g.cycle h.0) (sym instance) h.3);
        number = ap (λ x. job_number net g.cycle x (job_at g job).instance) task ∙ ap (job_number net g.cycle h.0) instance ∙ sym h.4;
        is = here ∙ ap (λ x. job_of net n.lengths x h.1) (sym task) ∙ ap (job_of net n.lengths (job_at g job).task) (sym instance);
      }

  -- a job has some ticks
  pub some_ticks : (job : ℕ) → job < length g.jobs → 1 ≤ (job_at g job).length
  some_ticks job low =
      let h = is_of job low in
      let e : (job_at g job).length ≡ slice_index n.lengths (job_at g job).task = ap (λ (j : Job). j.length) h.is in
      let some = All-get_or (λ x. 1 ≤ x) n.lengths (job_at g job).task 0 (omega (arith, h.task, n.is.count)) n.is.some in
      omega (arith, e, some)

  -- a task's deadline is at most its period
  pub soon : (task : ℕ) → task < length net.tasks → (1 ≤ period_of net task) × (deadline_of net task ≤ period_of net task)
  soon task low =
      let w = transaction_at net n.is.rules.entry_rules.entries task low in
      let period : period_of net task ≡ w.0.period = ap transaction_period w.1 in
      let deadline : deadline_of net task ≡ w.0.deadline = ap transaction_deadline w.1 in
      (omega (arith, period, w.2.some_period), omega (arith, period, deadline, w.2.deadline))

  module _ (t : Tables) (v : AreValid net g t) where
    pub ends_after : (job : ℕ) → job < length g.jobs → (entry_at t job).start < (entry_at t job).end
    ends_after job low = omega (arith, v rule.Lengths job low, some_ticks job low)

    -- a job ends within a period from its release
    pub ends_soon : (job : ℕ) → job < length g.jobs → (entry_at t job).end ≤ (job_at g job).instance * period_of net (job_at g job).task + period_of net (job_at g job).task
    ends_soon job low =
        let h = is_of job low in
        let e : (job_at g job).deadline ≡ due_of net (job_at g job).task (job_at g job).instance = ap (λ (j : Job). j.deadline) h.is in
        omega (arith, v rule.Deadlines job low, e, soon (job_at g job).task h.task)

    pub starts_late : (job : ℕ) → job < length g.jobs → (job_at g job).instance * period_of net (job_at g job).task ≤ (entry_at t job).start
    starts_late job low =
        let h = is_of job low in
        let e : (job_at g job).release ≡ release_of net (job_at g job).task (job_at g job).instance = ap (λ (j : Job). j.release) h.is in
        omega (arith, v rule.Releases job low, e)

    pub ends_within : (job : ℕ) → job < length g.jobs → (entry_at t job).end ≤ g.cycle
    ends_within job low =
        let h = is_of job low in
        omega (arith, ends_soon job low, instance_inside (job_at g job).instance g.cycle (period_of net (job_at g job).task) h.instance)

    -- the jobs of a task come one after another
    pub one_by_one : (task i k : ℕ) → task < length net.tasks → i < k → k < instances net g.cycle task
        → (entry_at t (job_number net g.cycle task i)).end ≤ (entry_at t (job_number net g.cycle task k)).start
    one_by_one task i k low less run =
        let first = at_number task i low (omega (arith, less, run)) in
        let last = at_number task k low run in
        let a : (entry_at t (job_number net g.cycle task i)).end ≤ i * period_of net task + period_of net task =
        subst (λ (j : Job). (entry_at t (job_number net g.cycle task i)).end ≤ j.instance * period_of net j.task + period_of net j.task) first
        (ends_soon (job_number net g.cycle task i) (inside task i low (omega (arith, less, run)))) in
        let b : k * period_of net task ≤ (entry_at t (job_number net g.cycle task k)).start =
        subst (λ (j : Job). j.instance * period_of net j.task ≤ (entry_at t (job_number net g.cycle task k)).start) last
        (starts_late (job_number net g.cycle task k) (inside task k low run)) in
        omega (arith, a, b, instance_ends i k (period_of net task) less)
