-- The messages of a list's tables are those of the edges and instances that cross units, in order.
use Rattle.std.proofs.Common.{◌≡◌, ℕ, zero, suc, ◌+◌, ◌-◌, ◌/◌, ◌<◌, ◌≤◌, ◌⊎◌, inl, inr, Bool, true, false, not, if◌then◌else◌, List, [], ◌∷◌, ◌++◌, length, map, Option, refl, sym, ap, ap₂, ◌∙◌, arith}
use Rattle.std.specs.Prelude.{◌==◌}
use Rattle.std.specs.List.{filter}
use Rattle.std.proofs.lemmas.List.{map-append, append-nil, append_assoc}
use Rattle.std.proofs.lemmas.Option.{get_or_from_slice_get}
use Rattle.graph.specs.declared.net.Net.{Net}
use Rattle.graph.specs.Cycle.{first_job}
use Rattle.graph.specs.JobGraph.{JobGraph}
use Rattle.graph.specs.Jobs.{job_of, job_number}
use Rattle.graph.specs.Net.{instances, Feeds}
use Rattle.graph.specs.Feeders.{in_edges}
use Rattle.graph.specs.NetGraph.{IsNetGraphFor}
use Rattle.graph.proofs.Entries.{joined}
use Rattle.graph.proofs.NetGraphs.{graph_size, number_inside, job_is}
use Rattle.graph.proofs.Numbers.{later_task}
use Rattle.tables.specs.declared.table.JobEntry.{JobEntry}
use Rattle.tables.specs.declared.table.Message.{Message}
use Rattle.tables.specs.Named.{no_job, edge_at, producer_in, consumer_in}
use Rattle.tables.specs.Rules.{keys_of, key_if, keys_of_edge, keys_of_edges}
use Rattle.tables.proofs.Stripping.{Rows, edge_rows, all_rows}
use Rattle.decisions.specs.declared.placed.Sent.{Sent}
use Rattle.decisions.specs.declared.problem.Work.{Work}
use Rattle.decisions.specs.Decision.{Decision, work_at, decision_on}
use Rattle.decisions.specs.ProblemOf.{feed_of, problem_of}
use Rattle.decisions.specs.TablesOf.{sent_of, message_of, messages_to, messages_over, messages_of}
use Rattle.net_problem.proofs.ByNumber.{works_length, IsJobOf, job_there, work_is}
use Rattle.valid_lists.proofs.Along.{IsFull}
use Rattle.valid_lists.proofs.Crossing.{edges_of, unit_in, crossing, all_crossing}
use Rattle.valid_lists.proofs.Entries.{net_tables, entry_is, IsOn, is_on}
use Rattle.valid_lists.proofs.Ports.{HasPort, port_of, picked, picked_to, picked_none}

-- edges with an instance
abbrev pub pairs : (instance : ℕ) → List ℕ → List (ℕ × ℕ)
pairs instance xs = map (λ x. (x, instance)) xs

keys_by : (instance number : ℕ) (m : Sent) (ms : List Sent) (b : Bool) → keys_of (map (message_of instance) (filter (λ (x : Sent). x.edge == number) ms)) ≡ pairs instance (picked number (edges_of ms))
    → keys_of (map (message_of instance) (if b then m ∷ filter (λ (x : Sent). x.edge == number) ms else filter (λ (x : Sent). x.edge == number) ms))
    ≡ pairs instance (if b then m.edge ∷ picked number (edges_of ms) else picked number (edges_of ms))
keys_by instance number m ms true h = ap (λ ks. (m.edge, instance) ∷ ks) h
keys_by instance number m ms false h = h

keys_sent : (instance number : ℕ) (ms : List Sent) → keys_of (map (message_of instance) (filter (λ (x : Sent). x.edge == number) ms)) ≡ pairs instance (picked number (edges_of ms))
keys_sent instance number [] = refl
keys_sent instance number (m ∷ ms) = keys_by instance number m ms (m.edge == number) (keys_sent instance number ms)

-- the keys of a job's messages over an edge
keys_to : (net : Net) (lengths : List ℕ) (g : JobGraph) (l : List Decision) (number job : ℕ) → IsFull (problem_of net g) l → job < length g.jobs → (j : IsJobOf net lengths g job) → (p : IsOn net g l job)
    → keys_of (messages_to (problem_of net g) l number job) ≡ pairs j.instance (picked number (crossing l p.decision.unit (map (feed_of net g j.instance) (in_edges net j.task))))
keys_to net lengths g l number job f low j p =
    let w = work_is net lengths g job low j in
    let sent : edges_of (sent_of (decision_on l job)) ≡ edges_of p.decision.sent = ap (λ (o : Option Decision). edges_of (sent_of o)) p.on in
    let cross = all_crossing (problem_of net g) l f.reached p.decision p.in_list in
    let feeds : (work_at (problem_of net g) p.decision.job).feeds ≡ map (feed_of net g j.instance) (in_edges net j.task) = ap (λ k. (work_at (problem_of net g) k).feeds) p.job_is ∙ ap (λ (x : Work). x.feeds) w in
    keys_sent (work_at (problem_of net g) job).instance number (sent_of (decision_on l job))
    ∙ (ap (λ i. pairs i (picked number (edges_of (sent_of (decision_on l job))))) (ap (λ (x : Work). x.instance) w)
    ∙ ap (λ xs. pairs j.instance (picked number xs)) (sent ∙ (cross ∙ ap (crossing l p.decision.unit) feeds)))

key_case : (instance number : ℕ) (b : Bool) → pairs instance (if b then [] else number ∷ []) ≡ (if not b then (number, instance) ∷ [] else [])
key_case instance number true = refl
key_case instance number false = refl

key_by : (a b c d instance number : ℕ) → c ≡ a → d ≡ b → pairs instance (if a == b then [] else number ∷ []) ≡ (if not (c == d) then (number, instance) ∷ [] else [])
key_by a b c d instance number e f = key_case instance number (a == b) ∙ ap₂ (λ x y. if not (x == y) then (number, instance) ∷ [] else []) (sym e) (sym f)

-- an edge and the instance of its tasks
pub record HasInstance (net : Net) (g : JobGraph) (number instance : ℕ) : Type 0 where
  pub port : HasPort net number
  pub same : instances net g.cycle (edge_at net number).to_task ≡ instances net g.cycle (edge_at net number).from_task
  pub from : job_number net g.cycle (edge_at net number).from_task instance < length g.jobs
  pub to : job_number net g.cycle (edge_at net number).to_task instance < length g.jobs

pub same_instances : (net : Net) (lengths : List ℕ) (g : JobGraph) (number : ℕ) → IsNetGraphFor net lengths g → number < length net.edges
    → (instances net g.cycle (edge_at net number).to_task ≡ instances net g.cycle (edge_at net number).from_task) × ((edge_at net number).from_task < length net.tasks)
same_instances net lengths g number h low =
    let p = port_of net lengths g number h low in
    let f : Feeds net (edge_at net number).from_task (edge_at net number).to_task = (number, edge_at net number, low, get_or_from_slice_get net.edges number (edge_at net number) (edge_at net number) p.stands, (refl, refl)) in
    let j = joined net h.rules.entry_rules.entries (edge_at net number).from_task (edge_at net number).to_task f in
    (ap (λ x. g.cycle / x) (sym j.2), j.0)

pub instance_of : (net : Net) (lengths : List ℕ) (g : JobGraph) (number instance : ℕ) → IsNetGraphFor net lengths g → number < length net.edges → instance < instances net g.cycle (edge_at net number).from_task → HasInstance net g number instance
instance_of net lengths g number instance h low inside =
    let p = port_of net lengths g number h low in
    let s = same_instances net lengths g number h low in
    record {
      port = p;
      same = s.0;
      from = number_inside net lengths g h.graph (edge_at net number).from_task instance s.1 inside;
      to = number_inside net lengths g h.graph (edge_at net number).to_task instance p.task (omega (arith, s.0));
    }

-- the job that an edge goes to in an instance
abbrev pub job_to : (net : Net) (lengths : List ℕ) (g : JobGraph) (number instance : ℕ) → IsNetGraphFor net lengths g → HasPort net number → instance < instances net g.cycle (edge_at net number).to_task
    → IsJobOf net lengths g (job_number net g.cycle (edge_at net number).to_task instance)
job_to net lengths g number instance h p inside = record {
  task = (edge_at net number).to_task;
  instance = instance;
  there = record { task_is = p.task; inside = inside };
  number = refl;
  is = get_or_from_slice_get g.jobs (job_number net g.cycle (edge_at net number).to_task instance) (job_of net lengths (edge_at net number).to_task instance) no_job
      (job_is net lengths g h.graph (edge_at net number).to_task instance p.task inside);
}

-- it has a message over the edge exactly where its unit and the producer's differ
key_here : (net : Net) (lengths : List ℕ) (g : JobGraph) (l : List Decision) (number instance : ℕ) → IsNetGraphFor net lengths g → IsFull (problem_of net g) l → number < length net.edges → instance < instances net g.cycle (edge_at net number).from_task
    → keys_of (messages_to (problem_of net g) l number (job_number net g.cycle (edge_at net number).to_task instance)) ≡ key_if net g (net_tables net g l) number instance
key_here net lengths g l number instance h f low inside =
    let i = instance_of net lengths g number instance h low inside in
    let j = job_to net lengths g number instance h i.port (omega (arith, i.same)) in
    let p = is_on net g l (job_number net g.cycle (edge_at net number).to_task instance) f i.to in
    let from : (producer_in net g (net_tables net g l) number instance).unit ≡ unit_in (decision_on l (job_number net g.cycle (edge_at net number).from_task instance)) =
    ap (λ (x : JobEntry). x.unit) (entry_is net g l (job_number net g.cycle (edge_at net number).from_task instance) i.from) in
    let to : (consumer_in net g (net_tables net g l) number instance).unit ≡ p.decision.unit = ap (λ (x : JobEntry). x.unit) p.entry in
    keys_to net lengths g l number (job_number net g.cycle (edge_at net number).to_task instance) f i.to j p
    ∙ (ap (pairs instance) (picked_to net g l p.decision.unit instance number (edge_at net number).to_task i.port refl)
    ∙ key_by (unit_in (decision_on l (job_number net g.cycle (edge_at net number).from_task instance))) p.decision.unit (producer_in net g (net_tables net g l) number instance).unit (consumer_in net g (net_tables net g l) number instance).unit
    instance number from to)

-- the jobs of an edge's task
abbrev first_to : Net → JobGraph → (number : ℕ) → ℕ
first_to net g number = first_job net g.cycle (edge_at net number).to_task

abbrev count_to : Net → JobGraph → (number : ℕ) → ℕ
count_to net g number = instances net g.cycle (edge_at net number).to_task

-- a job of another task has no message over the edge
key_none : (net : Net) (lengths : List ℕ) (g : JobGraph) (l : List Decision) (number job : ℕ) → IsNetGraphFor net lengths g → IsFull (problem_of net g) l → job < length g.jobs
    → (job < first_to net g number) ⊎ (first_to net g number + count_to net g number ≤ job) → keys_of (messages_to (problem_of net g) l number job) ≡ []
key_none net lengths g l number job h f low out =
    let j = job_there net lengths g job h low in
    let p = is_on net g l job f low in
    let other : (edge_at net number).to_task ≡ j.task → ⊥ = λ e. (
    let first : first_to net g number ≡ first_job net g.cycle j.task = ap (first_job net g.cycle) e in
    let count : count_to net g number ≡ instances net g.cycle j.task = ap (instances net g.cycle) e in
    elim out [ inl less ↦ omega (arith, j.number) | inr more ↦ omega (arith, j.number, j.there.inside) ]) in
    keys_to net lengths g l number job f low j p ∙ ap (pairs j.instance) (picked_none net g l p.decision.unit j.instance number j.task other)

-- rows one after another
abbrev below : (ℕ → List (ℕ × ℕ)) → (n : ℕ) → List (ℕ × ℕ)
below row zero = []
below row (suc n) = below row n ++ row n

below_all : (row : ℕ → List (ℕ × ℕ)) (all : ℕ → ℕ → List (ℕ × ℕ)) → Rows row all → (k left : ℕ) → below row (k + left) ≡ below row k ++ all k left
below_all row all r k zero = let e : k + zero ≡ k = omega arith in ap (below row) e ∙ (sym (append-nil (below row k)) ∙ ap (λ xs. below row k ++ xs) (sym (r.none k)))
below_all row all r k (suc left) =
    let e : k + suc left ≡ (k + 1) + left = omega arith in
    let s : k + 1 ≡ suc k = omega arith in
    ap (below row) e
    ∙ (below_all row all r (k + 1) left
    ∙ (ap (λ n. below row n ++ all (k + 1) left) s ∙ (append_assoc (below row k) (row k) (all (k + 1) left) ∙ ap (λ xs. below row k ++ xs) (sym (r.more k left)))))

all_below : (row : ℕ → List (ℕ × ℕ)) (all : ℕ → ℕ → List (ℕ × ℕ)) → Rows row all → (n : ℕ) → below row n ≡ all 0 n
all_below row all r n = let e : n ≡ 0 + n = omega arith in ap (below row) e ∙ below_all row all r 0 n

-- the keys of the messages over an edge
abbrev keys_over : Net → JobGraph → List Decision → (number n : ℕ) → List (ℕ × ℕ)
keys_over net g l number n = keys_of (messages_over (problem_of net g) l number n)

over_more : (net : Net) (g : JobGraph) (l : List Decision) (number n : ℕ) → keys_over net g l number (suc n) ≡ keys_over net g l number n ++ keys_of (messages_to (problem_of net g) l number n)
over_more net g l number n = map-append (λ (m : Message). (m.edge, m.instance)) (messages_over (problem_of net g) l number n) (messages_to (problem_of net g) l number n)

-- those to the jobs before the edge's task, to the task's first jobs, and to all these and some behind
over_before : (net : Net) (lengths : List ℕ) (g : JobGraph) (l : List Decision) (number n : ℕ) → IsNetGraphFor net lengths g → IsFull (problem_of net g) l → n ≤ first_to net g number → n ≤ length g.jobs → keys_over net g l number n ≡ []
over_before net lengths g l number zero h f le all = refl
over_before net lengths g l number (suc n) h f le all =
    over_more net g l number n ∙ ap₂ (λ xs ys. xs ++ ys) (over_before net lengths g l number n h f (omega arith) (omega arith)) (key_none net lengths g l number n h f (omega arith) (inl (omega arith)))

over_within : (net : Net) (lengths : List ℕ) (g : JobGraph) (l : List Decision) (number n : ℕ) → IsNetGraphFor net lengths g → IsFull (problem_of net g) l → number < length net.edges → n ≤ count_to net g number → first_to net g number + count_to net g number ≤ length g.jobs
    → keys_over net g l number (first_to net g number + n) ≡ below (key_if net g (net_tables net g l) number) n
over_within net lengths g l number zero h f low le all =
    let e : first_to net g number + zero ≡ first_to net g number = omega arith in
    ap (keys_over net g l number) e ∙ over_before net lengths g l number (first_to net g number) h f (omega arith) (omega arith)
over_within net lengths g l number (suc n) h f low le all =
    let e : first_to net g number + suc n ≡ suc (first_to net g number + n) = omega arith in
    let s = same_instances net lengths g number h low in
    ap (keys_over net g l number) e
    ∙ (over_more net g l number (first_to net g number + n)
    ∙ ap₂ (λ xs ys. xs ++ ys) (over_within net lengths g l number n h f low (omega arith) all) (key_here net lengths g l number n h f low (omega (arith, s.0))))

over_behind : (net : Net) (lengths : List ℕ) (g : JobGraph) (l : List Decision) (number n : ℕ) → IsNetGraphFor net lengths g → IsFull (problem_of net g) l → number < length net.edges → first_to net g number + count_to net g number + n ≤ length g.jobs
    → keys_over net g l number (first_to net g number + count_to net g number + n) ≡ below (key_if net g (net_tables net g l) number) (count_to net g number)
over_behind net lengths g l number zero h f low le =
    let e : first_to net g number + count_to net g number + zero ≡ first_to net g number + count_to net g number = omega arith in
    ap (keys_over net g l number) e ∙ over_within net lengths g l number (count_to net g number) h f low (omega arith) (omega arith)
over_behind net lengths g l number (suc n) h f low le =
    let e : first_to net g number + count_to net g number + suc n ≡ suc (first_to net g number + count_to net g number + n) = omega arith in
    ap (keys_over net g l number) e
    ∙ (over_more net g l number (first_to net g number + count_to net g number + n)
    ∙ (ap₂ (λ xs ys. xs ++ ys) (over_behind net lengths g l number n h f low (omega arith)) (key_none net lengths g l number (first_to net g number + count_to net g number + n) h f (omega arith) (inr (omega arith)))
    ∙ append-nil (below (key_if net g (net_tables net g l) number) (count_to net g number))))

keys_over-all : (net : Net) (lengths : List ℕ) (g : JobGraph) (l : List Decision) (number : ℕ) → IsNetGraphFor net lengths g → IsFull (problem_of net g) l → number < length net.edges
    → keys_over net g l number (length (problem_of net g).works) ≡ keys_of_edge net g (net_tables net g l) number 0 (instances net g.cycle (edge_at net number).from_task)
keys_over-all net lengths g l number h f low =
    let p = port_of net lengths g number h low in
    let s = same_instances net lengths g number h low in
    let size = works_length net g (length g.jobs) in
    let jobs = graph_size net lengths g h.graph in
    let last = later_task net g.cycle (edge_at net number).to_task (length net.tasks) p.task in
    let e : length (problem_of net g).works ≡ first_to net g number + count_to net g number + (length g.jobs - (first_to net g number + count_to net g number)) = omega arith in
    ap (keys_over net g l number) e
    ∙ (over_behind net lengths g l number (length g.jobs - (first_to net g number + count_to net g number)) h f low (omega arith)
    ∙ (ap (below (key_if net g (net_tables net g l) number)) s.0
    ∙ all_below (key_if net g (net_tables net g l) number) (keys_of_edge net g (net_tables net g l) number) (edge_rows net g (net_tables net g l) number) (instances net g.cycle (edge_at net number).from_task)))

-- the keys of an edge's instances
abbrev edge_keys : Net → JobGraph → List Decision → (number : ℕ) → List (ℕ × ℕ)
edge_keys net g l number = keys_of_edge net g (net_tables net g l) number 0 (instances net g.cycle (edge_at net number).from_task)

keys_below : (net : Net) (lengths : List ℕ) (g : JobGraph) (l : List Decision) (n : ℕ) → IsNetGraphFor net lengths g → IsFull (problem_of net g) l → n ≤ length net.edges → keys_of (messages_of (problem_of net g) l n) ≡ below (edge_keys net g l) n
keys_below net lengths g l zero h f le = refl
keys_below net lengths g l (suc n) h f le =
    map-append (λ (m : Message). (m.edge, m.instance)) (messages_of (problem_of net g) l n) (messages_over (problem_of net g) l n (length (problem_of net g).works))
    ∙ ap₂ (λ xs ys. xs ++ ys) (keys_below net lengths g l n h f (omega arith)) (keys_over-all net lengths g l n h f (omega arith))

-- all messages, in order
pub all_keys : (net : Net) (lengths : List ℕ) (g : JobGraph) (l : List Decision) → IsNetGraphFor net lengths g → IsFull (problem_of net g) l → keys_of (net_tables net g l).messages ≡ keys_of_edges net g (net_tables net g l) 0 (length net.edges)
all_keys net lengths g l h f =
    keys_below net lengths g l (length net.edges) h f (omega arith)
    ∙ all_below (edge_keys net g l) (keys_of_edges net g (net_tables net g l)) (all_rows net g (net_tables net g l)) (length net.edges)
