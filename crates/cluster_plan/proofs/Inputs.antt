-- What a job takes depends on edges that serve it, and what an edge carries depends on the job that gives its words.
use Rattle.std.proofs.Common.{◌≡◌, ℕ, ◌<◌, inl, inr, not, true, false, List, length, ℤ, Option, Some, None, refl, sym, ◌∙◌, ap, subst, arith}
use Rattle.std.specs.Prelude.{slice_get}
use Rattle.std.proofs.lemmas.Bool.{cases_eq, eq-eqb, ne_eqb}
use Rattle.std.proofs.lemmas.Option.{slice_get_within, get_or_from_slice_get}
use Rattle.graph.specs.Feeders.{EdgeFeeds, from_task_of, from_task_in}
use Rattle.graph.specs.JobGraph.{JobGraph}
use Rattle.graph.specs.Jobs.{job_number}
use Rattle.graph.specs.Net.{instances, period_of}
use Rattle.graph.specs.NetGraph.{IsNetGraph}
use Rattle.graph.specs.declared.net.Edge.{Edge}
use Rattle.graph.specs.declared.net.Net.{Net}
use Rattle.graph.proofs.Entries.{joined}
use Rattle.tables.specs.Named.{no_edge, job_at, entry_at, edge_at, message_at, producer_in, consumer_in}
use Rattle.tables.specs.Rules.{crosses, GetsInputs}
use Rattle.tables.specs.Valid.{AreValid, bus_of}
use Rattle.tables.specs.declared.rule.TableRule.TheVariants as rule
use Rattle.tables.specs.declared.table.JobEntry.{JobEntry}
use Rattle.tables.specs.declared.table.Tables.{Tables}
use Rattle.net_run.specs.NetRun.{Execution}
use Rattle.net_run.specs.Words.{edge_words}
use Rattle.net_run.proofs.Ports.{edge_feeds, feeds, inputs_same}
use Rattle.cluster_model.specs.Plan.{Plan}
use Rattle.cluster_model.specs.PlanOf.{plan_of}
use Rattle.cluster_model.specs.Sound.{maker, Serves}
use Rattle.cluster_model.specs.State.{Status, given}
use Rattle.cluster_model.specs.Tick.{fed}
use Rattle.cluster_plan.proofs.Messages.{message_there}
use Rattle.cluster_plan.proofs.Numbers.{inside, is_of}

carried_by : (net : Net) (o : Option Edge) (one other : ℕ → Option (List ℤ)) → one (from_task_in o) ≡ other (from_task_in o) → edge_words net one o ≡ edge_words net other o
carried_by net None one other e = refl
carried_by net (Some edge) one other e = ap (λ w. edge_words net (λ from. w) (Some edge)) e

module _ (net : Net) (g : JobGraph) (t : Tables) (words : List ℕ) (exec : Execution) (cost : ℕ → List ℤ → List ℤ → ℕ) where
  abbrev pub plan : Plan
  plan = plan_of net g t words exec cost

  pub carries : (edge instance : ℕ) (one other : ℕ → Status) → one (maker plan edge instance) ≡ other (maker plan edge instance) → fed plan one edge instance ≡ fed plan other edge instance
  carries edge instance one other e =
      carried_by net (slice_get net.edges edge) (λ task. given (one (job_number net g.cycle task instance))) (λ task. given (other (job_number net g.cycle task instance))) (ap given e)

  module _ (n : IsNetGraph net g) (v : AreValid net g t) (job : ℕ) (low : job < length g.jobs) where
    gets : GetsInputs net g (bus_of net g) t
    gets = v rule.Inputs

    module _ (port edge : ℕ) (f : EdgeFeeds net (job_at g job).task port edge) where
      edge_is : edge_at net edge ≡ f.edge
      edge_is = get_or_from_slice_get net.edges edge f.edge no_edge f.stands

      from : from_task_of net edge ≡ (edge_at net edge).from_task
      from = ap from_task_in f.stands ∙ ap (λ (x : Edge). x.from_task) (sym edge_is)

      stands : edge < length net.edges
      stands = slice_get_within net.edges edge f.edge f.stands

      producer : producer_in net g t edge (job_at g job).instance ≡ entry_at t (maker plan edge (job_at g job).instance)
      producer = ap (λ x. entry_at t (job_number net g.cycle x (job_at g job).instance)) (sym from)

      consumer : consumer_in net g t edge (job_at g job).instance ≡ entry_at t job
      consumer =
          ap (λ (x : Edge). entry_at t (job_number net g.cycle x.to_task (job_at g job).instance)) edge_is
          ∙ ap (λ x. entry_at t (job_number net g.cycle x (job_at g job).instance)) f.to_task
          ∙ ap (entry_at t) (is_of net g n job low).number

      joins : (f.edge.from_task < length net.tasks) × ((job_at g job).task < length net.tasks) × (period_of net f.edge.from_task ≡ period_of net (job_at g job).task)
      joins = joined net n.is.rules.entry_rules.entries f.edge.from_task (job_at g job).task (feeds net (job_at g job).task port edge f)

      from_low : (edge_at net edge).from_task < length net.tasks
      from_low = subst (λ (x : Edge). x.from_task < length net.tasks) (sym edge_is) joins.0

      runs : (job_at g job).instance < instances net g.cycle (edge_at net edge).from_task
      runs = subst (λ (x : Edge). (job_at g job).instance < instances net g.cycle x.from_task) (sym edge_is)
          (subst (λ period. (job_at g job).instance < Rattle.std.specs.Prelude.◌/◌ g.cycle period) (sym joins.2) (is_of net g n job low).instance)

      made : maker plan edge (job_at g job).instance < length g.jobs
      made = subst (λ x. job_number net g.cycle x (job_at g job).instance < length g.jobs) (sym from) (inside net g n (edge_at net edge).from_task (job_at g job).instance from_low runs)

      -- an edge to a port of the job serves it
      pub served : Serves plan job edge
      served = record {
        made = made;
        way = elim (cases_eq (entry_at t (maker plan edge (job_at g job).instance)).unit (entry_at t job).unit) [
          | inl same ↦ inl (
            same,
            (let c : crosses net g t edge (job_at g job).instance ≡ false =
                ap not (eq-eqb (producer_in net g t edge (job_at g job).instance).unit (consumer_in net g t edge (job_at g job).instance).unit
                (ap (λ (x : JobEntry). x.unit) producer ∙ same ∙ ap (λ (x : JobEntry). x.unit) (sym consumer))) in
                let h = gets.here edge (job_at g job).instance stands runs c in
                omega (arith, h, ap (λ (x : JobEntry). x.end) producer, ap (λ (x : JobEntry). x.start) consumer)),
          )
          | inr differ ↦ inr (
            differ,
            (let c : crosses net g t edge (job_at g job).instance ≡ true =
                ap not (ne_eqb (producer_in net g t edge (job_at g job).instance).unit (consumer_in net g t edge (job_at g job).instance).unit
                (λ e. differ (ap (λ (x : JobEntry). x.unit) (sym producer) ∙ e ∙ ap (λ (x : JobEntry). x.unit) consumer))) in
                let m = plan.message edge (job_at g job).instance in
                let w = message_there net g t gets.messages edge (job_at g job).instance stands runs c in
                let to : consumer_in net g t (message_at t m).edge (message_at t m).instance ≡ entry_at t job =
                ap (λ x. consumer_in net g t x (message_at t m).instance) w.1 ∙ ap (consumer_in net g t edge) w.2 ∙ consumer in
                record {
                  known = w.0;
                  edge_is = w.1;
                  instance_is = w.2;
                  receiver = ap (λ (x : JobEntry). x.unit) to;
                  usable = omega (arith, (gets.in_time m w.0).usable, ap (λ (x : JobEntry). x.start) to);
                }),
          )
        ];
      }

    pub serves : (line : List ℤ) (look other : ℕ → Option (List ℤ)) → ((edge : ℕ) → Serves plan job edge → look edge ≡ other edge) → plan.inputs line look job ≡ plan.inputs line other job
    serves line look other h =
        inputs_same net g.cycle line look other (job_at g job).instance (job_at g job).task
        (λ port edge inside e. h edge (served port edge (edge_feeds net (job_at g job).task port edge e)))
