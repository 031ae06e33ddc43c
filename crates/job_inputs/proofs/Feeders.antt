-- The ports of a job, and what feeds them.
use Rattle.std.proofs.Common.{◌≡◌, inl, inr, ℕ, zero, suc, ◌+◌, ◌<◌, ◌≤◌, length, take, List, ◌++◌, ℤ, Option, None, Some, refl, sym, ◌∙◌, ap, subst, arith}
use Rattle.std.specs.Prelude.{slice_get, slice_index, sum}
use Rattle.std.proofs.lemmas.Bool.{cases_lt}
use Rattle.std.proofs.lemmas.List.{take_all}
use Rattle.std.proofs.lemmas.List.Elements.{All-get_or}
use Rattle.std.proofs.lemmas.List.Sums.{sum_by_more}
use Rattle.std.proofs.lemmas.Option.{slice_get_within, get_or_from_slice_get}
use Rattle.graph.specs.Feeders.{EdgeFeeds, SensorFeeds, feeder_of}
use Rattle.graph.specs.JobGraph.{JobGraph}
use Rattle.graph.specs.Jobs.{job_number}
use Rattle.graph.specs.Net.{ins_of, width_of, instances, task_ins}
use Rattle.graph.specs.NetGraph.{IsNetGraph}
use Rattle.graph.specs.Rules.{IsEdge, IsWidth}
use Rattle.graph.specs.declared.feeder.Feeder.TheVariants as feeder
use Rattle.graph.specs.declared.net.Edge.{Edge}
use Rattle.graph.specs.declared.net.Net.{Net}
use Rattle.graph.specs.declared.net.Plug.{Plug}
use Rattle.graph.proofs.Entries.{few_ports, task_at, joined}
use Rattle.graph.proofs.Nets.{feeder_feeds, only_feeder}
use Rattle.tables.specs.Named.{no_edge, edge_at, job_at}
use Rattle.net_run.specs.Words.{with_words, brought, ports_to}
use Rattle.net_run.proofs.Ports.{feeds}
use Rattle.cluster_plan.proofs.Numbers.{is_of}
use Rattle.job_inputs.specs.Look.{width_at}

module _ (net : Net) (g : JobGraph) (n : IsNetGraph net g) (job : ℕ) (low : job < length g.jobs) where
  -- the limits of the job's task and its ports
  pub record Limits : Type 0 where
    pub task : (job_at g job).task < 64
    pub known : (job_at g job).task < length net.tasks
    pub ports : length (ins_of net (job_at g job).task) ≤ 16

  pub limits : Limits
  limits =
      let task = (is_of net g n job low).task in
      record { task = (let few = n.is.rules.entry_rules.counts.tasks in omega (arith, task, few)); known = task; ports = few_ports net n.is.rules.entry_rules.entries (job_at g job).task }

  -- some feeder feeds each port
  pub is_fed : (port : ℕ) → port < length (ins_of net (job_at g job).task) → feeder_of net (job_at g job).task port ≡ None → ⊥
  is_fed port inside none =
      let f = n.is.rules.entry_rules.fed (job_at g job).task port inside in
      let some = only_feeder net (job_at g job).task port f.0 f.1 in
      let clash : None ≡ Some f.0 = sym none ∙ some in cc

  -- a port's width is at most 16
  pub narrow : (port : ℕ) → port < length (ins_of net (job_at g job).task) → width_at net (job_at g job).task port ≤ 16
  narrow port inside =
      let w = task_at net n.is.rules.entry_rules.entries (job_at g job).task (is_of net g n job low).task in
      let is : ins_of net (job_at g job).task ≡ w.0.ins = ap task_ins w.1 in
      let all : IsWidth (slice_index w.0.ins port) = All-get_or IsWidth w.0.ins port 0 (omega (arith, inside, ap length is)) w.2.in_widths in
      omega (arith, ap (λ ws. slice_index ws port) is, all.1)

  module _ (port edge : ℕ) (fed : feeder_of net (job_at g job).task port ≡ Some (feeder.Edge edge)) where
    f : EdgeFeeds net (job_at g job).task port edge
    f = feeder_feeds net (job_at g job).task port (feeder.Edge edge) fed

    edge_is : edge_at net edge ≡ f.edge
    edge_is = get_or_from_slice_get net.edges edge f.edge no_edge f.stands

    pub stands : edge < length net.edges
    stands = slice_get_within net.edges edge f.edge f.stands

    pub runs : (job_at g job).instance < instances net g.cycle (edge_at net edge).from_task
    runs =
        let joins = joined net n.is.rules.entry_rules.entries f.edge.from_task (job_at g job).task (feeds net (job_at g job).task port edge f) in
        subst (λ (x : Edge). (job_at g job).instance < instances net g.cycle x.from_task) (sym edge_is)
        (subst (λ period. (job_at g job).instance < Rattle.std.specs.Prelude.◌/◌ g.cycle period) (sym joins.2) (is_of net g n job low).instance)

    pub goes_to : job_number net g.cycle (edge_at net edge).to_task (job_at g job).instance ≡ job
    goes_to =
        ap (λ (x : Edge). job_number net g.cycle x.to_task (job_at g job).instance) edge_is
        ∙ ap (λ x. job_number net g.cycle x (job_at g job).instance) f.to_task
        ∙ (is_of net g n job low).number

    pub as_wide : width_of net (edge_at net edge) ≡ width_at net (job_at g job).task port
    as_wide =
        let is : IsEdge net (edge_at net edge) = All-get_or (IsEdge net) net.edges edge no_edge stands n.is.rules.entry_rules.entries.edges in
        is.width
        ∙ ap (λ (x : Edge). width_at net x.to_task x.to_port) edge_is
        ∙ ap (λ x. width_at net x f.edge.to_port) f.to_task
        ∙ ap (width_at net (job_at g job).task) f.to_port

  module _ (port sensor : ℕ) (fed : feeder_of net (job_at g job).task port ≡ Some (feeder.Sensor sensor)) where
    s : SensorFeeds net (job_at g job).task port sensor
    s = feeder_feeds net (job_at g job).task port (feeder.Sensor sensor) fed

    same_plug : (plug : Plug) → slice_get net.sensors sensor ≡ Some plug → plug ≡ s.sensor
    same_plug plug e = let h : Some plug ≡ Some s.sensor = sym e ∙ s.stands in cc

    pub known_sensor : sensor < length net.sensors
    known_sensor = slice_get_within net.sensors sensor s.sensor s.stands

    pub sensor_runs : (plug : Plug) → slice_get net.sensors sensor ≡ Some plug → (job_at g job).instance < instances net g.cycle plug.task
    sensor_runs plug e = subst (λ task. (job_at g job).instance < instances net g.cycle task) (sym (ap (λ (x : Plug). x.task) (same_plug plug e) ∙ s.to_task)) (is_of net g n job low).instance

    pub sensor_wide : (words : List ℤ) → ((plug : Plug) → slice_get net.sensors sensor ≡ Some plug → length words ≡ width_at net plug.task plug.port) → length words ≡ width_at net (job_at g job).task port
    sensor_wide words h = h s.sensor s.stands ∙ ap (λ x. width_at net x s.sensor.port) s.to_task ∙ ap (width_at net (job_at g job).task) s.to_port

-- the sum of the widths with one port more
pub sums : (widths : List ℕ) (i : ℕ) → i < length widths → sum (take (i + 1) widths) ≡ sum (take i widths) + slice_index widths i
sums widths i low = sum_by_more (λ (x : ℕ). x) widths i 0 low

pub sum_all : (widths : List ℕ) (i : ℕ) → length widths ≤ i → sum (take i widths) ≡ sum widths
sum_all widths i le = ap sum (take_all i widths le)

module _ (net : Net) (cycle : ℕ) (line : List ℤ) (look : ℕ → Option (List ℤ)) (instance task : ℕ) where
  -- the words of the ports with one port more
  pub port_more : (i : ℕ) (before words : List ℤ) → ports_to net cycle line look instance task i ≡ Some before → brought net cycle line look instance (feeder_of net task i) ≡ Some words
      → ports_to net cycle line look instance task (i + 1) ≡ Some (before ++ words)
  port_more i before words e h =
      let z : i + 1 ≡ suc i = omega arith in
      ap (ports_to net cycle line look instance task) z
      ∙ ap (λ o. with_words o (λ before. with_words (brought net cycle line look instance (feeder_of net task i)) (λ words. Some (before ++ words)))) e
      ∙ ap (λ o. with_words o (λ (words : List ℤ). Some (before ++ words))) h

  lacks_here : (i : ℕ) (o : Option (List ℤ)) → brought net cycle line look instance (feeder_of net task i) ≡ None
      → with_words o (λ before. with_words (brought net cycle line look instance (feeder_of net task i)) (λ words. Some (before ++ words))) ≡ None
  lacks_here i None h = refl
  lacks_here i (Some before) h = ap (λ o. with_words o (λ (words : List ℤ). Some (before ++ words))) h

  -- where a port lacks its words, so do all ports together
  pub port_lacks : (i n : ℕ) → i < n → brought net cycle line look instance (feeder_of net task i) ≡ None → ports_to net cycle line look instance task n ≡ None
  port_lacks i zero low h = absurd (omega (arith, low))
  port_lacks i (suc n) low h = elim (cases_lt i n) [
    | inl less ↦ ap (λ o. with_words o (λ before. with_words (brought net cycle line look instance (feeder_of net task n)) (λ words. Some (before ++ words)))) (port_lacks i n less h)
    | inr last ↦ (let e : i ≡ n = omega (arith, low, last) in lacks_here n (ports_to net cycle line look instance task n) (subst (λ k. brought net cycle line look instance (feeder_of net task k) ≡ None) e h))
  ]
