-- What feeds a job.
use Rattle.std.proofs.Common.{◌≡◌, ℕ, zero, suc, ◌+◌, ◌*◌, ◌/◌, ◌<◌, ◌≤◌, ◌⊎◌, inl, inr, List, [], ◌∷◌, ◌++◌, length, get_or, map, Option, Some, None, refl, sym, ap, ◌∙◌, subst, arith}
use Rattle.std.specs.Prelude.{slice_get, slice_index, option_map, Contains, All}
use Rattle.std.proofs.lemmas.Bool.{cases_lt}
use Rattle.std.proofs.lemmas.List.{get_or_past, map-append}
use Rattle.std.proofs.lemmas.Option.{get_or_from_slice_get, slice_get-map, slice_get_within, slice_get_cases, slice_get-get_or}
use Rattle.graph.specs.declared.net.Edge.{Edge}
use Rattle.graph.specs.declared.net.Net.{Net}
use Rattle.graph.specs.declared.feeder.Feeder.{Feeder}
use Rattle.graph.specs.declared.feeder.Feeder.TheVariants as feeder
use Rattle.graph.specs.JobGraph.{JobGraph}
use Rattle.graph.specs.Jobs.{job_of, job_number, IsProducer}
use Rattle.graph.specs.Net.{instances, ins_of, outs_of, width_of, period_of, deadline_of, transaction_of, transaction_deadline, task_outs, Feeds}
use Rattle.graph.specs.Feeders.{feeder_of, in_edges, edge_in, edges_to_ports}
use Rattle.graph.specs.Rules.{IsEdge, IsTask, IsWidth}
use Rattle.graph.specs.Sound.{HasEntries, IsFedOnce}
use Rattle.graph.specs.NetGraph.{IsNetGraphFor}
use Rattle.graph.proofs.Entries.{All_at, task_at, joined, few_ports}
use Rattle.graph.proofs.Feeding.{port_there}
use Rattle.graph.proofs.Nets.{feeder_feeds, only_feeder, in_edges-are}
use Rattle.graph.proofs.NetGraphs.{number_inside}
use Rattle.tables.specs.Named.{no_edge, edge_at}
use Rattle.decisions.specs.declared.problem.Feed.{Feed}
use Rattle.decisions.specs.declared.problem.Work.{Work}
use Rattle.decisions.specs.Decision.{work_at}
use Rattle.decisions.specs.ProblemOf.{feed_of, problem_of}
use Rattle.decisions.specs.IsProblem.{IsFedBy}
use Rattle.net_problem.specs.Instance.{IsInstance, IsIntoTask}
use Rattle.net_problem.proofs.ByNumber.{IsJobOf, job_there, work_is}

-- a port's feeder that is an edge goes to its task
pub into_task : (net : Net) (task port number : ℕ) → feeder_of net task port ≡ Some (feeder.Edge number) → IsIntoTask net task number
into_task net task port number h = let f = feeder_feeds net task port (feeder.Edge number) h in record { edge = f.edge; stands = f.stands; to = f.to_task }

pub in_edge : (net : Net) (task number : ℕ) → Contains (in_edges net task) number → IsIntoTask net task number
in_edge net task number h = let p = (in_edges-are net task number).0 h in into_task net task p.0 number p.2

-- an edge joins instances of one number
pub record IsJoin (net : Net) (g : JobGraph) (task instance number : ℕ) : Type 0 where
  pub edge : Edge
  pub at : edge_at net number ≡ edge
  pub feeds : Feeds net edge.from_task task
  pub from : IsInstance net g edge.from_task instance
  pub period : period_of net edge.from_task ≡ period_of net task
  pub deadline : deadline_of net edge.from_task ≡ deadline_of net task
  pub inside : job_number net g.cycle edge.from_task instance < length g.jobs

pub join_of : (net : Net) (lengths : List ℕ) (g : JobGraph) (task instance number : ℕ) → IsNetGraphFor net lengths g → IsInstance net g task instance → IsIntoTask net task number → IsJoin net g task instance number
join_of net lengths g task instance number h i e =
    let entries = h.rules.entry_rules.entries in
    let low = slice_get_within net.edges number e.edge e.stands in
    let at = get_or_from_slice_get net.edges number e.edge no_edge e.stands in
    let f : Feeds net e.edge.from_task task = (number, e.edge, low, get_or_from_slice_get net.edges number e.edge e.edge e.stands, (refl, e.to)) in
    let j = joined net entries e.edge.from_task task f in
    let is : IsEdge net e.edge = All_at (IsEdge net) net.edges number e.edge entries.edges e.stands in
    let same : transaction_of net e.edge.from_task ≡ transaction_of net task = is.transaction ∙ ap (transaction_of net) e.to in
    let n : instances net g.cycle task ≡ instances net g.cycle e.edge.from_task = ap (λ p. g.cycle / p) (sym j.2) in
    let inside : instance < instances net g.cycle e.edge.from_task = omega (arith, i.inside) in
    record {
      edge = e.edge;
      at = at;
      feeds = f;
      from = record { task_is = j.0; inside = inside };
      period = j.2;
      deadline = ap (λ x. transaction_deadline (slice_get net.transactions x)) same;
      inside = number_inside net lengths g h.graph e.edge.from_task instance j.0 inside;
    }

-- an out port is narrow
few_words : (widths : List ℕ) (port : ℕ) → All IsWidth widths → slice_index widths port ≤ 16
few_words widths port all = elim (cases_lt port (length widths)) [
  | inl low ↦ (all port 0 low).1
  | inr past ↦ (let e = get_or_past widths port 0 past in omega arith)
]

pub few_width : (net : Net) → HasEntries net → (edge : Edge) → width_of net edge ≤ 16
few_width net h edge = elim (slice_get_cases net.tasks edge.from_task).1 [
  | inl w ↦ (let is : outs_of net edge.from_task ≡ w.0.outs = ap task_outs w.2 in rw is (few_words w.0.outs edge.from_port (All_at (IsTask net) net.tasks edge.from_task w.0 h.tasks w.2).out_widths))
  | inr w ↦ (let is : outs_of net edge.from_task ≡ task_outs None = ap task_outs w.1 in rw is (few_words [] edge.from_port (λ i d low. absurd (omega arith))))
]

-- a feed of a job is an in edge of its task
pub record IsFeedOf (net : Net) (g : JobGraph) (task instance : ℕ) (feed : Feed) : Type 0 where
  pub number : ℕ
  pub in_edge_is : Contains (in_edges net task) number
  pub is : feed ≡ feed_of net g instance number

some_mapped : (net : Net) (g : JobGraph) (instance : ℕ) (o : Option ℕ) (feed : Feed) → option_map (feed_of net g instance) o ≡ Some feed → (number : ℕ) × (o ≡ Some number) × (feed ≡ feed_of net g instance number)
some_mapped net g instance None feed h = absurd (cc)
some_mapped net g instance (Some number) feed h = (number, refl, (let e : feed_of net g instance number ≡ feed = cc in sym e))

feed_is : (net : Net) (g : JobGraph) (task instance place : ℕ) (feed : Feed) → slice_get (map (feed_of net g instance) (in_edges net task)) place ≡ Some feed → IsFeedOf net g task instance feed
feed_is net g task instance place feed h =
    let m = some_mapped net g instance (slice_get (in_edges net task) place) feed (sym (slice_get-map (feed_of net g instance) (in_edges net task) place) ∙ h) in
    record { number = m.0; in_edge_is = (place, slice_get_within (in_edges net task) place m.0 m.1, get_or_from_slice_get (in_edges net task) place m.0 m.0 m.1); is = m.2 }

pub feed_at : (net : Net) (lengths : List ℕ) (g : JobGraph) (job place : ℕ) (feed : Feed) → job < length g.jobs → (j : IsJobOf net lengths g job) → slice_get (work_at (problem_of net g) job).feeds place ≡ Some feed → IsFeedOf net g j.task j.instance feed
feed_at net lengths g job place feed low j h =
    feed_is net g j.task j.instance place feed (subst (λ w. slice_get w place ≡ Some feed) (ap (λ (w : Work). w.feeds) (work_is net lengths g job low j)) h)

-- a job's producers, over an in edge of its task
pub record IsFrom (net : Net) (g : JobGraph) (task instance producer : ℕ) : Type 0 where
  pub number : ℕ
  pub join : IsJoin net g task instance number
  pub is : producer ≡ job_number net g.cycle join.edge.from_task instance

pub from_of : (net : Net) (lengths : List ℕ) (g : JobGraph) (job producer : ℕ) → IsNetGraphFor net lengths g → job < length g.jobs → (j : IsJobOf net lengths g job) → IsFedBy (problem_of net g) job producer → IsFrom net g j.task j.instance producer
from_of net lengths g job producer h low j f =
    let e = feed_at net lengths g job f.place f.feed low j f.stands in
    let i = join_of net lengths g j.task j.instance e.number h j.there (in_edge net j.task e.number e.in_edge_is) in
    record {
      number = e.number;
      join = i;
      is = sym f.is ∙ (ap (λ (x : Feed). x.producer) e.is ∙ ap (λ (x : Edge). job_number net g.cycle x.from_task j.instance) i.at);
    }

-- what feeds a job is a producer of it in the graph
pub producer_of : (net : Net) (lengths : List ℕ) (g : JobGraph) (job producer : ℕ) → (j : IsJobOf net lengths g job) → IsFrom net g j.task j.instance producer → IsProducer net g.cycle producer job
producer_of net lengths g job producer j f = record {
  from = f.join.edge.from_task;
  to = j.task;
  instance = j.instance;
  edge = f.join.feeds;
  in_cycle = j.there.inside;
  from_is = f.is;
  to_is = j.number;
}

-- one port more
pub more_feeds : (net : Net) (g : JobGraph) (task instance port next : ℕ) (old new : List Feed) → next ≡ port + 1 → old ≡ map (feed_of net g instance) (edges_to_ports net task port)
    → new ≡ old ++ map (feed_of net g instance) (edge_in (feeder_of net task port)) → new ≡ map (feed_of net g instance) (edges_to_ports net task next)
more_feeds net g task instance port next old new e a b =
    let i : suc port ≡ next = omega arith in
    subst (λ n. new ≡ map (feed_of net g instance) (edges_to_ports net task n)) i
    (b ∙ (ap (λ xs. xs ++ map (feed_of net g instance) (edge_in (feeder_of net task port))) a ∙ sym (map-append (feed_of net g instance) (edges_to_ports net task port) (edge_in (feeder_of net task port)))))
