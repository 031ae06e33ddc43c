-- What is to be placed for a net keeps the limits.
use Rattle.std.proofs.Common.{◌≡◌, ℕ, zero, suc, ◌+◌, ◌*◌, ◌/◌, ◌^◌, ◌<◌, ◌≤◌, ◌⊎◌, inl, inr, List, length, get_or, map, Option, Some, None, refl, sym, ap, ◌∙◌, subst, arith, length-append, mul-le-mul_right, ap₂}
use Rattle.std.specs.Prelude.{slice_get, slice_index, option_map, Contains}
use Rattle.std.proofs.lemmas.Bool.{cases_lt}
use Rattle.std.proofs.lemmas.List.{get_or-map, get_or_past, length-map}
use Rattle.std.proofs.lemmas.Option.{get_or_from_slice_get, slice_get-map, slice_get-get_or}
use Rattle.tdma.specs.Layout.{Layout, IsLayout, cycle_ticks}
use Rattle.graph.specs.declared.job.Job.{Job}
use Rattle.graph.specs.declared.net.Edge.{Edge}
use Rattle.graph.specs.declared.net.Net.{Net}
use Rattle.graph.specs.declared.net.Transaction.{Transaction}
use Rattle.graph.specs.declared.feeder.Feeder.{Feeder}
use Rattle.graph.specs.declared.feeder.Feeder.TheVariants as feeder
use Rattle.graph.specs.JobGraph.{JobGraph}
use Rattle.graph.specs.Jobs.{job_number, IsProducer, IsGreatestAfter}
use Rattle.graph.specs.Net.{instances, ins_of, period_of, deadline_of, transaction_period, transaction_deadline, units_of, task_units}
use Rattle.graph.specs.Order.{IsOrder}
use Rattle.graph.specs.Feeders.{feeder_of, in_edges, edge_in, edges_to_ports, IsFeeder}
use Rattle.graph.specs.NetGraph.{IsNetGraph, IsNetGraphFor}
use Rattle.graph.specs.Sound.{HasEntries}
use Rattle.graph.proofs.Entries.{All_at, transaction_at, task_at, few_ports, period_limits}
use Rattle.graph.proofs.Feeding.{port_there}
use Rattle.graph.proofs.Nets.{only_feeder, in_edges-are}
use Rattle.graph.proofs.NetGraphs.{graph_size}
use Rattle.graph.proofs.Listed.{place_of, before_place, one_place}
use Rattle.graph.proofs.Numbers.{one_job}
use Rattle.graph.proofs.Remaining.{next_is_job}
use Rattle.tables.specs.Named.{no_job, no_edge, job_at, edge_at}
use Rattle.tables.specs.Valid.{bus_of}
use Rattle.decisions.specs.declared.problem.Feed.{Feed}
use Rattle.decisions.specs.declared.problem.Work.{Work}
use Rattle.decisions.specs.declared.problem.Problem.{Problem}
use Rattle.decisions.specs.Decision.{no_work, work_at}
use Rattle.decisions.specs.ProblemOf.{feed_of, works_of, problem_of}
use Rattle.decisions.specs.IsProblem.{IsFedBy, IsWork, IsSource, HasRemaining, IsProblem}
use Rattle.net_problem.specs.Instance.{IsInstance, IsIntoTask}
use Rattle.net_problem.proofs.ByNumber.{works_length, IsJobOf, job_there, work_is, work_for}
use Rattle.net_problem.proofs.Sources.{IsJoin, few_width, feed_at, IsFrom, from_of, producer_of}

-- an instance ends within the cycle
due_within : (i p d h : ℕ) → 0 < p → d ≤ p → i < h / p → i * p + d ≤ h
due_within i p d h some le low = let a : (i + 1) * p ≤ (h / p) * p = mul-le-mul_right p (omega arith) in omega (arith, a)

one_or_none : (o : Option Feeder) → length (edge_in o) ≤ 1
one_or_none None = omega arith
one_or_none (Some (feeder.Edge n)) = omega arith
one_or_none (Some (feeder.Sensor n)) = omega arith

edge_few : (net : Net) (task n : ℕ) → length (edges_to_ports net task n) ≤ n
edge_few net task zero = omega arith
edge_few net task (suc n) = let h = edge_few net task n in let a = length-append (edges_to_ports net task n) (edge_in (feeder_of net task n)) in let b = one_or_none (feeder_of net task n) in omega arith

-- the numbers of a work
record IsWorkOf (l : Layout) (w : Work) : Type 0 where
  task : w.task < 64
  ticks : 1 ≤ w.length
  deadline : w.deadline ≤ cycle_ticks l
  units : w.units < 2 ^ l.units
  feeds : length w.feeds ≤ 16

is_work : (net : Net) (lengths : List ℕ) (g : JobGraph) (job : ℕ) → IsNetGraphFor net lengths g → cycle_ticks (bus_of net g) ≡ g.cycle → job < length g.jobs → IsWork (problem_of net g) job
is_work net lengths g job h c low =
    let entries = h.rules.entry_rules.entries in
    let j = job_there net lengths g job h low in
    let t = transaction_at net entries j.task j.there.task_is in
    let k = task_at net entries j.task j.there.task_is in
    let limits = period_limits net entries j.task j.there.task_is in
    let period : period_of net j.task ≡ t.0.period = ap transaction_period t.1 in
    let deadline : deadline_of net j.task ≡ t.0.deadline = ap transaction_deadline t.1 in
    let due = due_within j.instance (period_of net j.task) (deadline_of net j.task) g.cycle (omega (arith, limits.0)) (omega (arith, t.2.deadline)) j.there.inside in
    let mask : units_of net j.task ≡ k.0.units = ap task_units k.1 in
    let is = work_is net lengths g job low j in
    let one : 1 ≤ get_or lengths j.task 0 = h.some j.task 0 (omega (arith, h.count, j.there.task_is)) in
    let few = edge_few net j.task (length (ins_of net j.task)) in
    let ports = few_ports net entries j.task in
    let size : length (map (feed_of net g j.instance) (in_edges net j.task)) ≡ length (in_edges net j.task) = length-map (in_edges net j.task) (feed_of net g j.instance) in
    let w : IsWorkOf (bus_of net g) (work_at (problem_of net g) job) = subst (λ (x : Work). IsWorkOf (bus_of net g) x) (sym is) (record {
      task = omega (arith, j.there.task_is, h.rules.entry_rules.counts.tasks);
      ticks = one;
      deadline = omega (arith, due, c);
      units = omega (arith, mask, k.2.known_units);
      feeds = omega (arith, size, few, ports);
    }) in
    record { task = w.task; ticks = w.ticks; deadline = w.deadline; units = w.units; feeds = w.feeds }

is_source : (net : Net) (lengths : List ℕ) (g : JobGraph) (job producer : ℕ) → IsNetGraphFor net lengths g → job < length g.jobs → IsFedBy (problem_of net g) job producer → IsSource (problem_of net g) job producer
is_source net lengths g job producer h low f =
    let j = job_there net lengths g job h low in
    let s = from_of net lengths g job producer h low j f in
    let there : producer < length g.jobs = omega (arith, s.is, s.join.inside) in
    let p : IsJobOf net lengths g producer = job_there net lengths g producer h there in
    let same = one_job net g.cycle p.task s.join.edge.from_task p.instance j.instance p.there.inside s.join.from.inside (sym p.number ∙ s.is) in
    let a = work_is net lengths g job low j in
    let b = work_is net lengths g producer there p in
    let size = works_length net g (length g.jobs) in
    let period : period_of net p.task ≡ period_of net j.task = ap (period_of net) same.0 ∙ s.join.period in
    let deadline : deadline_of net p.task ≡ deadline_of net j.task = ap (deadline_of net) same.0 ∙ s.join.deadline in
    let release : p.instance * period_of net p.task ≡ j.instance * period_of net j.task = ap₂ (λ x y. x * y) same.1 period in
    record {
      is_job = omega arith;
      release = ap (λ (w : Work). w.release) b ∙ (release ∙ sym (ap (λ (w : Work). w.release) a));
      deadline = ap (λ (w : Work). w.deadline) b ∙ (ap₂ (λ x y. x + y) release deadline ∙ sym (ap (λ (w : Work). w.deadline) a));
    }

no_feeds : (pr : Problem) (job place : ℕ) (feed : Feed) → length pr.works ≤ job → slice_get (work_at pr job).feeds place ≡ Some feed → ⊥
no_feeds pr job place feed past h = let e : work_at pr job ≡ no_work = get_or_past pr.works job no_work past in let n : slice_get no_work.feeds place ≡ Some feed = subst (λ (w : Work). slice_get w.feeds place ≡ Some feed) e h in cc

is_words : (net : Net) (lengths : List ℕ) (g : JobGraph) (job place : ℕ) (feed : Feed) → IsNetGraphFor net lengths g → slice_get (work_at (problem_of net g) job).feeds place ≡ Some feed → feed.words ≤ 17
is_words net lengths g job place feed h e = elim (cases_lt job (length g.jobs)) [
  | inl low ↦ (
      let j = job_there net lengths g job h low in
      let f = feed_at net lengths g job place feed low j e in
      let w = few_width net h.rules.entry_rules.entries (edge_at net f.number) in
      omega (arith, ap (λ (x : Feed). x.words) f.is))
  | inr past ↦ absurd (let size = works_length net g (length g.jobs) in no_feeds (problem_of net g) job place feed (omega arith) e)
]

-- the place of a number in an order of all numbers below n
order_place : (xs : List ℕ) (n : ℕ) → ((x : ℕ) → x < n → Contains xs x) → (job : ℕ) → (job < n) ⊎ (n ≤ job) → ℕ
order_place xs n whole job (inl low) = (place_of xs job (whole job low)).0
order_place xs n whole job (inr past) = 0

record IsSpot (xs : List ℕ) (job k : ℕ) : Type 0 where
  below : k < length xs
  at : get_or xs k 0 ≡ job

order_spot : (xs : List ℕ) (n : ℕ) (whole : (x : ℕ) → x < n → Contains xs x) (job : ℕ) (c : (job < n) ⊎ (n ≤ job)) → job < n → IsSpot xs job (order_place xs n whole job c)
unfolding order_place
order_spot xs n whole job (inl low) h = record { below = (place_of xs job (whole job low)).1; at = (place_of xs job (whole job low)).2 }
order_spot xs n whole job (inr past) h = absurd (omega arith)

is_before : (B : ℕ → ℕ → Type 0) (n : ℕ) (xs : List ℕ) (job producer k i : ℕ) → IsOrder B n xs → B producer job → IsSpot xs job k → IsSpot xs producer i → i < k
is_before B n xs job producer k i o b s t =
    let c = (o.each k s.below).ready.all_before producer (subst (B producer) (sym s.at) b) in
    let p = before_place xs k producer c in
    let e : p.0 ≡ i = one_place B n xs o.each p.0 i p.2 t.below (p.3 ∙ sym t.at) in
    omega (arith, p.1)

-- a producer in the graph feeds its job
fed_by : (net : Net) (lengths : List ℕ) (g : JobGraph) (job next : ℕ) → IsNetGraphFor net lengths g → next < length g.jobs → IsProducer net g.cycle job next → IsFedBy (problem_of net g) next job
fed_by net lengths g job next h low p =
    let rules = h.rules.entry_rules in
    let j = job_there net lengths g next h low in
    let same = one_job net g.cycle j.task p.to j.instance p.instance j.there.inside p.in_cycle (sym j.number ∙ p.to_is) in
    let e = p.edge in
    let stands : slice_get net.edges e.0 ≡ Some e.1 = slice_get-get_or net.edges e.0 e.1 e.2 ∙ ap Some e.3 in
    let feeds : IsFeeder net p.to e.1.to_port (feeder.Edge e.0) = record { edge = e.1; stands = stands; to_task = e.4.1; to_port = refl } in
    let there = port_there net (feeder.Edge e.0) p.to e.1.to_port rules.entries feeds in
    let once = rules.fed p.to e.1.to_port there.1 in
    let is : feeder_of net p.to e.1.to_port ≡ Some (feeder.Edge e.0) = only_feeder net p.to e.1.to_port once.0 once.1 ∙ ap Some (sym (once.1.only (feeder.Edge e.0) feeds)) in
    let c = (in_edges-are net p.to e.0).1 (e.1.to_port, there.1, is) in
    let d = subst (λ t. Contains (in_edges net t) e.0) (sym same.0) c in
    let at : slice_get (in_edges net j.task) d.0 ≡ Some e.0 = slice_get-get_or (in_edges net j.task) d.0 e.0 d.1 ∙ ap Some d.2 in
    let feed = feed_of net g j.instance e.0 in
    let there_is : slice_get (map (feed_of net g j.instance) (in_edges net j.task)) d.0 ≡ Some feed = slice_get-map (feed_of net g j.instance) (in_edges net j.task) d.0 ∙ ap (option_map (feed_of net g j.instance)) at in
    let edge_is : edge_at net e.0 ≡ e.1 = get_or_from_slice_get net.edges e.0 e.1 no_edge stands in
    let from : (edge_at net e.0).from_task ≡ p.from = ap (λ (x : Edge). x.from_task) edge_is ∙ e.4.0 in
    record {
      place = d.0;
      feed = feed;
      stands = subst (λ fs. slice_get fs d.0 ≡ Some feed) (sym (ap (λ (w : Work). w.feeds) (work_is net lengths g next low j))) there_is;
      is = ap₂ (λ x i. job_number net g.cycle x i) from same.1 ∙ sym p.from_is;
    }

has_remaining : (net : Net) (lengths : List ℕ) (g : JobGraph) (job : ℕ) → IsNetGraphFor net lengths g → job < length g.jobs → HasRemaining (problem_of net g) job
has_remaining net lengths g job h low =
    let size = works_length net g (length g.jobs) in
    let r = h.graph.remaining job low in
    let j = job_there net lengths g job h low in
    let w = work_is net lengths g job low j in
    let n : get_or (map (λ (x : Job). x.length) g.jobs) job 0 ≡ (job_at g job).length = get_or-map (λ (x : Job). x.length) g.jobs job no_job 0 low in
    let m : (job_at g job).length ≡ slice_index lengths j.task = ap (λ (x : Job). x.length) j.is in
    let a : (work_at (problem_of net g) job).remaining ≡ slice_index g.remaining job = ap (λ (x : Work). x.remaining) w in
    let b : (work_at (problem_of net g) job).length ≡ slice_index lengths j.task = ap (λ (x : Work). x.length) w in
    record {
      after = r.0;
      is = omega (arith, r.2);
      above = λ next there f. (
          let t : next < length g.jobs = omega arith in
          let i = job_there net lengths g next h t in
          let s = from_of net lengths g next job h t i f in
          let e : (work_at (problem_of net g) next).remaining ≡ slice_index g.remaining next = ap (λ (x : Work). x.remaining) (work_is net lengths g next t i) in
          omega (arith, r.1.above next (producer_of net lengths g next job i s)));
      reached = elim r.1.reached [
        | inl z ↦ inl z
        | inr q ↦ (
            let t : q.0 < length g.jobs = omega (arith, next_is_job net h.rules.entry_rules.entries g.cycle lengths job q.0 q.1, ap length h.graph.jobs) in
            let i = job_there net lengths g q.0 h t in
            let e : (work_at (problem_of net g) q.0).remaining ≡ slice_index g.remaining q.0 = ap (λ (x : Work). x.remaining) (work_is net lengths g q.0 t i) in
            inr (q.0, omega arith, fed_by net lengths g job q.0 h t q.1, e ∙ q.2))
      ];
    }

pub is_problem : (net : Net) (lengths : List ℕ) (g : JobGraph) → IsNetGraphFor net lengths g → IsLayout (bus_of net g) → cycle_ticks (bus_of net g) ≡ g.cycle → IsProblem (problem_of net g)
is_problem net lengths g h lay c =
    let size = works_length net g (length g.jobs) in
    let n = length g.jobs in
    let o = h.graph.order in
    let place : ℕ → ℕ = λ job. order_place g.order n o.whole job (cases_lt job n) in
    record {
      few = omega (arith, h.graph.limits.jobs, graph_size net lengths g h.graph);
      layout = lay;
      cycle = omega (arith, h.graph.limits.ticks);
      works = λ job low. is_work net lengths g job h c (omega arith);
      words = λ job place feed e. is_words net lengths g job place feed h e;
      sources = λ job producer low f. is_source net lengths g job producer h (omega arith) f;
      place = place;
      placed = λ job low. (let s = order_spot g.order n o.whole job (cases_lt job n) (omega arith) in omega (arith, s.below, o.size));
      before = λ job producer low f. (
          let l : job < n = omega arith in
          let j = job_there net lengths g job h l in
          let s = from_of net lengths g job producer h l j f in
          let there : producer < n = omega (arith, s.is, s.join.inside) in
          is_before (IsProducer net g.cycle) n g.order job producer (place job) (place producer) o (producer_of net lengths g job producer j s)
          (order_spot g.order n o.whole job (cases_lt job n) l) (order_spot g.order n o.whole producer (cases_lt producer n) there));
      remaining = λ job low. has_remaining net lengths g job h (omega arith);
    }

-- the problem that is made of its parts
made : (net : Net) (g : JobGraph) (round : Layout) (edges : ℕ) (works : List Work) → round ≡ bus_of net g → edges ≡ length net.edges → works ≡ works_of net g (length g.jobs)
    → problem_of net g ≡ record { round = round; edges = edges; works = works }
made net g round edges works a b c = rw (a, b, c) refl

pub made_problem : (net : Net) (g : JobGraph) (round : Layout) (edges : ℕ) (works : List Work) → IsNetGraph net g → IsLayout round → cycle_ticks round ≡ g.cycle → round ≡ bus_of net g → edges ≡ length net.edges
    → works ≡ works_of net g (length g.jobs) → IsProblem (record { round = round; edges = edges; works = works })
made_problem net g round edges works h lay c a b e =
    subst IsProblem (made net g round edges works a b e)
    (is_problem net h.lengths g h.is (subst IsLayout a lay) (subst (λ x. cycle_ticks x ≡ g.cycle) a c))
