-- What the messages of a list's tables name.
use Rattle.std.proofs.Common.{◌≡◌, ℕ, zero, suc, ◌+◌, ◌<◌, ◌≤◌, inl, inr, Bool, true, false, if◌then◌else◌, List, [], ◌∷◌, length, map, Option, Some, None, refl, sym, ap, ap₂, ◌∙◌, subst, arith}
use Rattle.std.specs.Prelude.{◌==◌, slice_get}
use Rattle.std.specs.List.{filter}
use Rattle.std.proofs.lemmas.Option.{get_or_from_slice_get}
use Rattle.graph.specs.declared.net.Edge.{Edge}
use Rattle.graph.specs.declared.net.Net.{Net}
use Rattle.graph.specs.JobGraph.{JobGraph}
use Rattle.graph.specs.Jobs.{job_number}
use Rattle.graph.specs.Net.{width_of}
use Rattle.graph.specs.NetGraph.{IsNetGraphFor}
use Rattle.tables.specs.declared.table.Message.{Message}
use Rattle.tables.specs.Named.{no_edge, edge_at, entry_at, producer_in, consumer_in, words_of}
use Rattle.decisions.specs.declared.placed.Sent.{Sent}
use Rattle.decisions.specs.declared.problem.Feed.{Feed}
use Rattle.decisions.specs.declared.problem.Problem.{Problem}
use Rattle.decisions.specs.declared.problem.Work.{Work}
use Rattle.decisions.specs.Decision.{Decision, work_at, decision_on}
use Rattle.decisions.specs.ProblemOf.{problem_of}
use Rattle.decisions.specs.TablesOf.{entry_of, sent_of, message_of, messages_to, messages_over, messages_of}
use Rattle.net_problem.proofs.ByNumber.{works_length, job_there, work_is}
use Rattle.net_problem.proofs.Sources.{feed_at, join_of, in_edge}
use Rattle.reached.proofs.Members.{In, in_cons, in_append, in_nothing}
use Rattle.reached.proofs.Good.{on_is}
use Rattle.valid_lists.proofs.Along.{IsFull}
use Rattle.valid_lists.proofs.Entries.{net_tables, entry_is}
use Rattle.valid_lists.proofs.Sending.{IsOver, all_over}

-- a message of a job's decision
pub record IsSentIn (pr : Problem) (l : List Decision) (m : Message) : Type 0 where
  pub job : ℕ
  pub is_job : job < length pr.works
  pub decision : Decision
  pub on : decision_on l job ≡ Some decision
  pub sent : Sent
  pub is_sent : In decision.sent sent
  pub is : message_of (work_at pr job).instance sent ≡ m

in_map : (f : Sent → Message) (ms : List Sent) (y : Message) → In (map f ms) y → (x : Sent) × In ms x × (f x ≡ y)
in_map f [] y i = absurd (in_nothing y i)
in_map f (m ∷ ms) y i = elim (in_cons (f m) (map f ms) y i) [
  | inl e ↦ (m, (0, refl), e)
  | inr j ↦ (let r = in_map f ms y j in (r.0, (suc r.1.0, r.1.1), r.2))
]

in_filter_by : (p : Sent → Bool) (m : Sent) (ms : List Sent) (x : Sent) (b : Bool) → (In (filter p ms) x → In ms x) → In (if b then m ∷ filter p ms else filter p ms) x → In (m ∷ ms) x
in_filter_by p m ms x true h i = elim (in_cons m (filter p ms) x i) [ inl e ↦ (0, ap Some e) | inr j ↦ (let r = h j in (suc r.0, r.1)) ]
in_filter_by p m ms x false h i = let r = h i in (suc r.0, r.1)

in_filter : (p : Sent → Bool) (ms : List Sent) (x : Sent) → In (filter p ms) x → In ms x
in_filter p [] x i = i
in_filter p (m ∷ ms) x i = in_filter_by p m ms x (p m) (in_filter p ms x) i

sent_by : (pr : Problem) (l : List Decision) (edge job : ℕ) (m : Message) (o : Option Decision) → job < length pr.works → decision_on l job ≡ o → In (map (message_of (work_at pr job).instance) (filter (λ (x : Sent). x.edge == edge) (sent_of o))) m → IsSentIn pr l m
sent_by pr l edge job m None low e i = absurd (in_nothing m i)
sent_by pr l edge job m (Some d) low e i =
    let r = in_map (message_of (work_at pr job).instance) (filter (λ (x : Sent). x.edge == edge) d.sent) m i in
    record { job = job; is_job = low; decision = d; on = e; sent = r.0; is_sent = in_filter (λ (x : Sent). x.edge == edge) d.sent r.0 r.1; is = r.2 }

sent_over : (pr : Problem) (l : List Decision) (edge n : ℕ) (m : Message) → n ≤ length pr.works → In (messages_over pr l edge n) m → IsSentIn pr l m
sent_over pr l edge zero m le i = absurd (in_nothing m i)
sent_over pr l edge (suc job) m le i = elim (in_append (messages_over pr l edge job) (messages_to pr l edge job) m i) [
  | inl a ↦ sent_over pr l edge job m (omega arith) a
  | inr b ↦ sent_by pr l edge job m (decision_on l job) (omega arith) refl b
]

pub sent_in : (pr : Problem) (l : List Decision) (n : ℕ) (m : Message) → In (messages_of pr l n) m → IsSentIn pr l m
sent_in pr l zero m i = absurd (in_nothing m i)
sent_in pr l (suc edge) m i = elim (in_append (messages_of pr l edge) (messages_over pr l edge (length pr.works)) m i) [
  | inl a ↦ sent_in pr l edge m a
  | inr b ↦ sent_over pr l edge (length pr.works) m (omega arith) b
]

-- the decisions on the two jobs that a message's edge joins, and its words
pub record IsKnown (net : Net) (g : JobGraph) (l : List Decision) (decision : Decision) (sent : Sent) (m : Message) : Type 0 where
  pub over : IsOver (problem_of net g) l (work_at (problem_of net g) decision.job).feeds decision.start sent
  pub from : producer_in net g (net_tables net g l) m.edge m.instance ≡ entry_of (Some over.producer)
  pub to : consumer_in net g (net_tables net g l) m.edge m.instance ≡ entry_of (Some decision)
  pub words : sent.words ≡ words_of net m

known_by : (net : Net) (lengths : List ℕ) (g : JobGraph) (l : List Decision) (job : ℕ) (d : Decision) (s : Sent) → IsNetGraphFor net lengths g → IsFull (problem_of net g) l → job < length g.jobs → decision_on l job ≡ Some d → In d.sent s
    → IsKnown net g l d s (message_of (work_at (problem_of net g) job).instance s)
known_by net lengths g l job d s h f low on i =
    let o = on_is l job d on in
    let over = all_over (problem_of net g) l f.reached d o.0 s i in
    let j = job_there net lengths g job h low in
    let stands = subst (λ k. slice_get (work_at (problem_of net g) k).feeds over.is_feed.0 ≡ Some over.feed) o.1 over.is_feed.1 in
    let n = feed_at net lengths g job over.is_feed.0 over.feed low j stands in
    let into = in_edge net j.task n.number n.in_edge_is in
    let join = join_of net lengths g j.task j.instance n.number h j.there into in
    let edge : s.edge ≡ n.number = over.edge ∙ ap (λ (x : Feed). x.edge) n.is in
    let instance : (work_at (problem_of net g) job).instance ≡ j.instance = ap (λ (x : Work). x.instance) (work_is net lengths g job low j) in
    let at : edge_at net n.number ≡ into.edge = get_or_from_slice_get net.edges n.number into.edge no_edge into.stands in
    let task : (edge_at net n.number).to_task ≡ j.task = ap (λ (x : Edge). x.to_task) at ∙ into.to in
    let producer : over.feed.producer ≡ job_number net g.cycle (edge_at net n.number).from_task j.instance = ap (λ (x : Feed). x.producer) n.is in
    let inside : job_number net g.cycle (edge_at net n.number).from_task j.instance < length g.jobs = subst (λ (x : Edge). job_number net g.cycle x.from_task j.instance < length g.jobs) (sym join.at) join.inside in
    let from : producer_in net g (net_tables net g l) n.number j.instance ≡ entry_of (Some over.producer) =
    entry_is net g l (job_number net g.cycle (edge_at net n.number).from_task j.instance) inside ∙ ap entry_of (ap (decision_on l) (sym producer) ∙ over.placed) in
    let to : consumer_in net g (net_tables net g l) n.number j.instance ≡ entry_of (Some d) =
    ap (entry_at (net_tables net g l)) (ap (λ t. job_number net g.cycle t j.instance) task ∙ sym j.number) ∙ (entry_is net g l job low ∙ ap entry_of on) in
    let words : over.feed.words ≡ 1 + width_of net (edge_at net n.number) = ap (λ (x : Feed). x.words) n.is in
    record {
      over = over;
      from = ap₂ (producer_in net g (net_tables net g l)) edge instance ∙ from;
      to = ap₂ (consumer_in net g (net_tables net g l)) edge instance ∙ to;
      words = over.words ∙ (words ∙ ap (λ k. 1 + width_of net (edge_at net k)) (sym edge));
    }

pub known : (net : Net) (lengths : List ℕ) (g : JobGraph) (l : List Decision) (m : Message) → IsNetGraphFor net lengths g → IsFull (problem_of net g) l → (s : IsSentIn (problem_of net g) l m) → IsKnown net g l s.decision s.sent m
known net lengths g l m h f s =
    let size = works_length net g (length g.jobs) in
    subst (IsKnown net g l s.decision s.sent) s.is (known_by net lengths g l s.job s.decision s.sent h f (omega (arith, s.is_job)) s.on s.is_sent)
