-- Each job gets its inputs in time.
use Rattle.std.proofs.Common.{◌≡◌, ℕ, ◌<◌, ◌≤◌, List, length, map, Some, sym, ap, ◌∙◌, subst, arith}
use Rattle.std.specs.Prelude.{slice_get, option_map}
use Rattle.std.proofs.lemmas.Option.{slice_get-get_or, slice_get-map}
use Rattle.mars_base.specs.declared.shape.Side.TheVariants.{A}
use Rattle.tdma.specs.Layout.{slot_start_of, usable_of}
use Rattle.graph.specs.declared.net.Net.{Net}
use Rattle.graph.specs.JobGraph.{JobGraph}
use Rattle.graph.specs.Jobs.{job_number}
use Rattle.graph.specs.Net.{instances}
use Rattle.graph.specs.Feeders.{in_edges}
use Rattle.graph.specs.NetGraph.{IsNetGraphFor}
use Rattle.graph.proofs.Nets.{in_edges-are}
use Rattle.tables.specs.declared.table.JobEntry.{JobEntry}
use Rattle.tables.specs.declared.table.Message.{Message}
use Rattle.tables.specs.Named.{no_message, edge_at, message_at, producer_in, consumer_in}
use Rattle.tables.specs.Rules.{IsInTime, GetsInputs}
use Rattle.tables.specs.Valid.{bus_of}
use Rattle.decisions.specs.declared.problem.Work.{Work}
use Rattle.decisions.specs.Decision.{Decision, work_at}
use Rattle.decisions.specs.ProblemOf.{feed_of, problem_of}
use Rattle.decisions.specs.TablesOf.{entry_of}
use Rattle.net_problem.proofs.ByNumber.{work_is}
use Rattle.reached.proofs.Good.{good}
use Rattle.valid_lists.proofs.Along.{IsFull}
use Rattle.valid_lists.proofs.Entries.{net_tables, entry_is, is_on}
use Rattle.valid_lists.proofs.Keys.{instance_of, job_to, all_keys}
use Rattle.valid_lists.proofs.Known.{IsSentIn, sent_in, known}
use Rattle.valid_lists.proofs.Ports.{HasPort}

-- the feed of an edge stands among those of its task's instance
record IsFeedIn (net : Net) (g : JobGraph) (number instance : ℕ) : Type 0 where
  place : ℕ
  stands : slice_get (map (feed_of net g instance) (in_edges net (edge_at net number).to_task)) place ≡ Some (feed_of net g instance number)

feed_in : (net : Net) (g : JobGraph) (number instance : ℕ) → HasPort net number → IsFeedIn net g number instance
feed_in net g number instance p =
    let c = (in_edges-are net (edge_at net number).to_task number).1 ((edge_at net number).to_port, p.port, p.feeds) in
    let at : slice_get (in_edges net (edge_at net number).to_task) c.0 ≡ Some number = slice_get-get_or (in_edges net (edge_at net number).to_task) c.0 number c.1 ∙ ap Some c.2 in
    record { place = c.0; stands = slice_get-map (feed_of net g instance) (in_edges net (edge_at net number).to_task) c.0 ∙ ap (option_map (feed_of net g instance)) at }

-- a producer ends by its consumer's start
ready : (net : Net) (lengths : List ℕ) (g : JobGraph) (l : List Decision) (number instance : ℕ) → IsNetGraphFor net lengths g → IsFull (problem_of net g) l → number < length net.edges → instance < instances net g.cycle (edge_at net number).from_task
    → (producer_in net g (net_tables net g l) number instance).end ≤ (consumer_in net g (net_tables net g l) number instance).start
ready net lengths g l number instance h f low inside =
    let i = instance_of net lengths g number instance h low inside in
    let j = job_to net lengths g number instance h i.port (omega (arith, i.same)) in
    let p = is_on net g l (job_number net g.cycle (edge_at net number).to_task instance) f i.to in
    let feed = feed_in net g number instance i.port in
    let feeds : (work_at (problem_of net g) p.decision.job).feeds ≡ map (feed_of net g instance) (in_edges net (edge_at net number).to_task) =
    ap (λ k. (work_at (problem_of net g) k).feeds) p.job_is ∙ ap (λ (x : Work). x.feeds) (work_is net lengths g (job_number net g.cycle (edge_at net number).to_task instance) i.to j) in
    let ended = ((good (problem_of net g) l f.reached).kept p.decision p.in_list).fed feed.place (feed_of net g instance number) (subst (λ fs. slice_get fs feed.place ≡ Some (feed_of net g instance number)) (sym feeds) feed.stands) in
    let from : (producer_in net g (net_tables net g l) number instance).end ≡ ended.producer.end =
    ap (λ (x : JobEntry). x.end) (entry_is net g l (job_number net g.cycle (edge_at net number).from_task instance) i.from ∙ ap entry_of ended.placed) in
    let to : (consumer_in net g (net_tables net g l) number instance).start ≡ p.decision.start = ap (λ (x : JobEntry). x.start) p.entry in
    omega (arith, ended.ended)

-- a message is in time
in_time : (net : Net) (lengths : List ℕ) (g : JobGraph) (l : List Decision) (m : Message) → IsNetGraphFor net lengths g → IsFull (problem_of net g) l → IsSentIn (problem_of net g) l m → IsInTime net g (bus_of net g) (net_tables net g l) m
in_time net lengths g l m h f s =
    let k = known net lengths g l m h f s in
    let o = k.over in
    let unit : s.sent.unit ≡ m.unit = ap (λ (x : Message). x.unit) s.is in
    let round : s.sent.round ≡ m.round = ap (λ (x : Message). x.round) s.is in
    let end : (producer_in net g (net_tables net g l) m.edge m.instance).end ≡ o.producer.end = ap (λ (x : JobEntry). x.end) k.from in
    let start : (consumer_in net g (net_tables net g l) m.edge m.instance).start ≡ s.decision.start = ap (λ (x : JobEntry). x.start) k.to in
    let after : o.producer.end ≤ slot_start_of (bus_of net g) m.round m.unit A = subst (λ (x : Message). o.producer.end ≤ slot_start_of (bus_of net g) x.round x.unit A) s.is o.after in
    let usable : usable_of (bus_of net g) m.round m.unit ≤ s.decision.start = subst (λ (x : Message). usable_of (bus_of net g) x.round x.unit ≤ s.decision.start) s.is o.usable in
    record {
      unit = sym unit ∙ (o.unit ∙ sym (ap (λ (x : JobEntry). x.unit) k.from));
      round = subst (λ r. r < (bus_of net g).rounds) round o.round;
      after = omega arith;
      usable = omega arith;
    }

-- Rule 7
pub inputs : (net : Net) (lengths : List ℕ) (g : JobGraph) (l : List Decision) → IsNetGraphFor net lengths g → IsFull (problem_of net g) l → GetsInputs net g (bus_of net g) (net_tables net g l)
inputs net lengths g l h f = record {
  here = λ number instance low inside same. ready net lengths g l number instance h f low inside;
  messages = all_keys net lengths g l h f;
  in_time = λ i low. in_time net lengths g l (message_at (net_tables net g l) i) h f
      (sent_in (problem_of net g) l (problem_of net g).edges (message_at (net_tables net g l) i) (i, slice_get-get_or (net_tables net g l).messages i no_message low));
}
