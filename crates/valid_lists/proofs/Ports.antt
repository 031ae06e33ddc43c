-- An edge feeds one port of one task, so a job gets at most one message over it.
use Rattle.std.proofs.Common.{◌≡◌, ℕ, zero, suc, ◌<◌, inl, inr, Bool, true, false, if◌then◌else◌, List, [], ◌∷◌, ◌++◌, length, map, Option, Some, None, refl, sym, ap, ap₂, ◌∙◌, subst, arith}
use Rattle.std.specs.Prelude.{◌==◌, slice_get}
use Rattle.std.specs.List.{filter}
use Rattle.std.proofs.lemmas.Bool.{cases_eq}
use Rattle.std.proofs.lemmas.List.{map-append, append-nil, append_assoc}
use Rattle.std.proofs.lemmas.List.Elements.{filter-append}
use Rattle.std.proofs.lemmas.Option.{slice_get-get_or, get_or_from_slice_get}
use Rattle.graph.specs.declared.net.Edge.{Edge}
use Rattle.graph.specs.declared.net.Net.{Net}
use Rattle.graph.specs.declared.feeder.Feeder.{Feeder}
use Rattle.graph.specs.declared.feeder.Feeder.TheVariants as feeder
use Rattle.graph.specs.JobGraph.{JobGraph}
use Rattle.graph.specs.Net.{ins_of}
use Rattle.graph.specs.Feeders.{feeder_of, in_edges, edge_in, edges_to_ports, IsFeeder}
use Rattle.graph.specs.NetGraph.{IsNetGraphFor}
use Rattle.graph.proofs.Feeding.{port_there}
use Rattle.graph.proofs.Nets.{feeder_feeds, only_feeder}
use Rattle.tables.specs.Named.{no_edge, edge_at}
use Rattle.decisions.specs.declared.problem.Feed.{Feed}
use Rattle.decisions.specs.Decision.{Decision, decision_on}
use Rattle.decisions.specs.ProblemOf.{feed_of}
use Rattle.valid_lists.proofs.Crossing.{unit_in, crossing_one, crossing}
use Rattle.valid_lists.proofs.Units.{same_test, other_test}

-- the port that an edge feeds
pub record HasPort (net : Net) (number : ℕ) : Type 0 where
  pub stands : slice_get net.edges number ≡ Some (edge_at net number)
  pub feeds : feeder_of net (edge_at net number).to_task (edge_at net number).to_port ≡ Some (feeder.Edge number)
  pub task : (edge_at net number).to_task < length net.tasks
  pub port : (edge_at net number).to_port < length (ins_of net (edge_at net number).to_task)

pub port_of : (net : Net) (lengths : List ℕ) (g : JobGraph) (number : ℕ) → IsNetGraphFor net lengths g → number < length net.edges → HasPort net number
port_of net lengths g number h low =
    let rules = h.rules.entry_rules in
    let stands : slice_get net.edges number ≡ Some (edge_at net number) = slice_get-get_or net.edges number no_edge low in
    let feeds : IsFeeder net (edge_at net number).to_task (edge_at net number).to_port (feeder.Edge number) = record { edge = edge_at net number; stands = stands; to_task = refl; to_port = refl } in
    let there = port_there net (feeder.Edge number) (edge_at net number).to_task (edge_at net number).to_port rules.entries feeds in
    let once = rules.fed (edge_at net number).to_task (edge_at net number).to_port there.1 in
    record {
      stands = stands;
      feeds = only_feeder net (edge_at net number).to_task (edge_at net number).to_port once.0 once.1 ∙ ap Some (sym (once.1.only (feeder.Edge number) feeds));
      task = there.0;
      port = there.1;
    }

-- where it feeds a port it is that one
pub port_is : (net : Net) (number task port : ℕ) → feeder_of net task port ≡ Some (feeder.Edge number) → ((edge_at net number).to_task ≡ task) × ((edge_at net number).to_port ≡ port)
port_is net number task port h =
    let f = feeder_feeds net task port (feeder.Edge number) h in
    let at : edge_at net number ≡ f.edge = get_or_from_slice_get net.edges number f.edge no_edge f.stands in
    (ap (λ (e : Edge). e.to_task) at ∙ f.to_task, ap (λ (e : Edge). e.to_port) at ∙ f.to_port)

-- the entries that are the number
abbrev pub picked : (number : ℕ) → List ℕ → List ℕ
picked number xs = filter (λ x. x == number) xs

crossing-append : (l : List Decision) (unit : ℕ) (fs gs : List Feed) → crossing l unit (fs ++ gs) ≡ crossing l unit fs ++ crossing l unit gs
crossing-append l unit [] gs = refl
crossing-append l unit (f ∷ fs) gs =
    ap (λ xs. crossing_one l unit f ++ xs) (crossing-append l unit fs gs) ∙ sym (append_assoc (crossing_one l unit f) (crossing l unit fs) (crossing l unit gs))

picked_one : (number : ℕ) (b : Bool) → picked number ((if b then [] else number ∷ []) ++ []) ≡ (if b then [] else number ∷ [])
picked_one number true = refl
picked_one number false = rw (same_test number number refl) refl

picked_other : (number edge : ℕ) (b : Bool) → (edge ≡ number → ⊥) → picked number ((if b then [] else edge ∷ []) ++ []) ≡ []
picked_other number edge true ne = refl
picked_other number edge false ne = rw (other_test edge number ne) refl

module _ (net : Net) (g : JobGraph) (l : List Decision) (unit instance number task : ℕ) where
  -- the edge among those of some feeders that cross
  abbrev row : Option Feeder → List ℕ
  row o = picked number (crossing l unit (map (feed_of net g instance) (edge_in o)))

  -- and among those of the first n ports
  abbrev rows : ℕ → List ℕ
  rows n = picked number (crossing l unit (map (feed_of net g instance) (edges_to_ports net task n)))

  row_none : (o : Option Feeder) → (o ≡ Some (feeder.Edge number) → ⊥) → row o ≡ []
  row_none None ne = refl
  row_none (Some (feeder.Sensor k)) ne = refl
  row_none (Some (feeder.Edge k)) ne = picked_other number k (unit_in (decision_on l (feed_of net g instance k).producer) == unit) (λ e. ne (ap (λ x. Some (feeder.Edge x)) e))

  row_one : (o : Option Feeder) → o ≡ Some (feeder.Edge number) → row o ≡ crossing_one l unit (feed_of net g instance number)
  row_one o e = ap row e ∙ picked_one number (unit_in (decision_on l (feed_of net g instance number).producer) == unit)

  rows_more : (n : ℕ) → rows (suc n) ≡ rows n ++ row (feeder_of net task n)
  rows_more n =
      ap (λ fs. picked number (crossing l unit fs)) (map-append (feed_of net g instance) (edges_to_ports net task n) (edge_in (feeder_of net task n)))
      ∙ (ap (picked number) (crossing-append l unit (map (feed_of net g instance) (edges_to_ports net task n)) (map (feed_of net g instance) (edge_in (feeder_of net task n))))
      ∙ filter-append (λ x. x == number) (crossing l unit (map (feed_of net g instance) (edges_to_ports net task n))) (crossing l unit (map (feed_of net g instance) (edge_in (feeder_of net task n)))))

  rows_none : (n : ℕ) → ((p : ℕ) → p < n → feeder_of net task p ≡ Some (feeder.Edge number) → ⊥) → rows n ≡ []
  rows_none zero ne = refl
  rows_none (suc n) ne = rows_more n ∙ ap₂ (λ xs ys. xs ++ ys) (rows_none n (λ p low h. ne p (omega arith) h)) (row_none (feeder_of net task n) (λ h. ne n (omega arith) h))

  rows_one : (n q : ℕ) → q < n → feeder_of net task q ≡ Some (feeder.Edge number) → ((p : ℕ) → feeder_of net task p ≡ Some (feeder.Edge number) → p ≡ q) → rows n ≡ crossing_one l unit (feed_of net g instance number)
  rows_one zero q low e only = absurd (omega arith)
  rows_one (suc n) q low e only = elim (cases_eq q n) [
    | inl s ↦ rows_more n ∙ ap₂ (λ xs ys. xs ++ ys) (rows_none n (λ p less h. absurd (let i = only p h in omega arith))) (row_one (feeder_of net task n) (ap (feeder_of net task) (sym s) ∙ e))
    | inr ne ↦ rows_more n ∙ (ap₂ (λ xs ys. xs ++ ys) (rows_one n q (omega arith) e only) (row_none (feeder_of net task n) (λ h. ne (sym (only n h)))) ∙ append-nil (crossing_one l unit (feed_of net g instance number)))
  ]

-- of the feeds of its task's instance, those over the edge that cross
pub picked_to : (net : Net) (g : JobGraph) (l : List Decision) (unit instance number task : ℕ) → HasPort net number → (edge_at net number).to_task ≡ task
    → picked number (crossing l unit (map (feed_of net g instance) (in_edges net task))) ≡ crossing_one l unit (feed_of net g instance number)
picked_to net g l unit instance number task p e =
    subst (λ t. picked number (crossing l unit (map (feed_of net g instance) (in_edges net t))) ≡ crossing_one l unit (feed_of net g instance number)) e
    (rows_one net g l unit instance number (edge_at net number).to_task (length (ins_of net (edge_at net number).to_task)) (edge_at net number).to_port p.port p.feeds
    (λ q h. sym (port_is net number (edge_at net number).to_task q h).1))

-- of the feeds of another task none
pub picked_none : (net : Net) (g : JobGraph) (l : List Decision) (unit instance number task : ℕ) → ((edge_at net number).to_task ≡ task → ⊥)
    → picked number (crossing l unit (map (feed_of net g instance) (in_edges net task))) ≡ []
picked_none net g l unit instance number task ne = rows_none net g l unit instance number task (length (ins_of net task)) (λ p low h. ne (port_is net number task p h).0)
