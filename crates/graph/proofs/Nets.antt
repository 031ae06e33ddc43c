-- What the functions of a net say: the feeder of a port, the producers of a task, an edge's width, and the units of a task.
use Rattle.std.proofs.Common.{◌≡◌, ◌↔◌, ℕ, zero, suc, ◌<◌, ◌≤◌, inl, inr, ◌==◌, ◌&&◌, Bool, true, false, cond, nat_lt, List, [], ◌∷◌, length, map, get_or, Option, Some, None, refl, sym, ◌∙◌, ap, subst, arith}
use Rattle.std.specs.Prelude.{slice_get, position, Contains}
use Rattle.std.proofs.lemmas.Bool.{cases_eq, true≢false}
use Rattle.std.specs.List.{position_or_len}
use Rattle.std.proofs.lemmas.List.Sums.{fails_before_first}
use Rattle.std.proofs.lemmas.Bool.Decides.{nat_tests}
use Rattle.std.proofs.lemmas.List.Elements.{Contains-append_left, Contains-append_right, Contains-append_cases}
use Rattle.std.proofs.lemmas.List.Quantifiers.{position-Some}
use Rattle.std.proofs.lemmas.Option.{slice_get_within, slice_get-get_or, get_or_from_slice_get}
use Rattle.graph.specs.declared.net.Net.{Net}
use Rattle.graph.specs.declared.net.Edge.{Edge}
use Rattle.graph.specs.declared.net.Plug.{Plug}
use Rattle.graph.specs.declared.feeder.Feeder.{Feeder}
use Rattle.graph.specs.declared.feeder.Feeder.TheVariants as feeder
use Rattle.graph.specs.Net.{ins_of, Feeds}
use Rattle.graph.specs.Sound.{HasEntries, IsFedOnce}
use Rattle.graph.specs.Feeders.{IsFeeder, IsOnlyFeeder, edge_to, sensor_to, edge_or_sensor, feeder_of, edge_in, edges_to_ports, in_edges, from_task_of, from_task_in, producers_of}
use Rattle.graph.specs.FeederTable.{feeder_in, IsFeederTable}
use Rattle.graph.proofs.Feeding.{port_there}

-- what stands at the first passing place
pub found_at : {X : Type 0} (test : X → Bool) (xs : List X) (i : ℕ) → position test xs ≡ Some i → (x : X) × (slice_get xs i ≡ Some x) × (test x ≡ true)
found_at test [] i e = let h : None ≡ Some i = e in cc
found_at {X} test (x ∷ xs) i e =
    let w = position-Some test (x ∷ xs) i x e in
    (get_or (x ∷ xs) i x, slice_get-get_or (x ∷ xs) i x w.0, w.1)

-- nothing passes where there is no passing place
pub found_not : {X : Type 0} (test : X → Bool) (xs : List X) (i : ℕ) (x : X) → position test xs ≡ None → slice_get xs i ≡ Some x → test x ≡ true → ⊥
found_not test xs i x e at t =
    let stop = past (position_or_len test xs) (length xs) (nat_lt (position_or_len test xs) (length xs)) refl e in
    let low : i < position_or_len test xs = omega (arith, stop, slice_get_within xs i x at) in
    true≢false (sym t ∙ ap test (sym (get_or_from_slice_get xs i x x at)) ∙ fails_before_first test xs i x low)
  where
    past : (m n : ℕ) (b : Bool) → nat_lt m n ≡ b → cond b (Some m) None ≡ None → n ≤ m
    past m n true t h = cc
    past m n false t h = grind (arith, nat_tests)

both : (a b c d : ℕ) → ((a == b) && (c == d)) ≡ true → (a ≡ b) × (c ≡ d)
both a b c d e = (grind (arith, nat_tests), grind (arith, nat_tests))

joint : (a b c d : ℕ) → a ≡ b → c ≡ d → ((a == b) && (c == d)) ≡ true
joint a b c d e f = grind (arith, nat_tests)

-- what `feeder_of` answers feeds the port
pub feeder_feeds : (net : Net) (t p : ℕ) (f : Feeder) → feeder_of net t p ≡ Some f → IsFeeder net t p f
feeder_feeds net t p f e = by (edge_to net t p) (sensor_to net t p) refl refl e
  where
    of_edge : (n : ℕ) → edge_to net t p ≡ Some n → IsFeeder net t p (feeder.Edge n)
    of_edge n is =
        let w = found_at (λ (x : Edge). (x.to_task == t) && (x.to_port == p)) net.edges n is in
        let at = both w.0.to_task t w.0.to_port p w.2 in
        record { edge = w.0; stands = w.1; to_task = at.0; to_port = at.1 }

    of_sensor : (n : ℕ) → sensor_to net t p ≡ Some n → IsFeeder net t p (feeder.Sensor n)
    of_sensor n is =
        let w = found_at (λ (x : Plug). (x.task == t) && (x.port == p)) net.sensors n is in
        let at = both w.0.task t w.0.port p w.2 in
        record { sensor = w.0; stands = w.1; to_task = at.0; to_port = at.1 }

    by : (edge sensor : Option ℕ) → edge_to net t p ≡ edge → sensor_to net t p ≡ sensor → edge_or_sensor edge sensor ≡ Some f → IsFeeder net t p f
    by (Some n) sensor is is' h = let eq : feeder.Edge n ≡ f = cc in subst (IsFeeder net t p) eq (of_edge n is)
    by None (Some n) is is' h = let eq : feeder.Sensor n ≡ f = cc in subst (IsFeeder net t p) eq (of_sensor n is')
    by None None is is' h = let no : None ≡ Some f = h in cc

-- where it answers None nothing feeds the port
pub feeder_none : (net : Net) (t p : ℕ) (f : Feeder) → feeder_of net t p ≡ None → IsFeeder net t p f → ⊥
feeder_none net t p f e h = by (edge_to net t p) (sensor_to net t p) refl refl e
  where
    nothing : (f : Feeder) → edge_to net t p ≡ None → sensor_to net t p ≡ None → IsFeeder net t p f → ⊥
    nothing (feeder.Edge n) a b h = found_not (λ (x : Edge). (x.to_task == t) && (x.to_port == p)) net.edges n h.edge a h.stands (joint h.edge.to_task t h.edge.to_port p h.to_task h.to_port)
    nothing (feeder.Sensor n) a b h = found_not (λ (x : Plug). (x.task == t) && (x.port == p)) net.sensors n h.sensor b h.stands (joint h.sensor.task t h.sensor.port p h.to_task h.to_port)

    by : (edge sensor : Option ℕ) → edge_to net t p ≡ edge → sensor_to net t p ≡ sensor → edge_or_sensor edge sensor ≡ None → ⊥
    by (Some n) sensor is is' bad = cc
    by None (Some n) is is' bad = cc
    by None None is is' same = nothing f is is' h

-- the one feeder of a port is the one that `feeder_of` answers
pub only_feeder : (net : Net) (t p : ℕ) (f : Feeder) → IsOnlyFeeder net t p f → feeder_of net t p ≡ Some f
only_feeder net t p f h = by (feeder_of net t p) refl
  where
    by : (o : Option Feeder) → feeder_of net t p ≡ o → feeder_of net t p ≡ Some f
    by None is = absurd (feeder_none net t p f is h.feeds)
    by (Some g) is = is ∙ ap (λ (x : Feeder). Some x) (h.only g (feeder_feeds net t p g is))

-- a table of feeders has for each port what `feeder_of` answers
pub table_feeder : (net : Net) (table : List (Option Feeder)) → IsFeederTable net table → (t p : ℕ) → t < 64 → p < 16 → feeder_in table t p ≡ feeder_of net t p
table_feeder net table h t p low low' = by (feeder_of net t p) (feeder_in table t p) refl refl
  where
    by : (o e : Option Feeder) → feeder_of net t p ≡ o → feeder_in table t p ≡ e → feeder_in table t p ≡ feeder_of net t p
    by (Some f) e is is' = (h.each t p f low low').1 (feeder_feeds net t p f is) ∙ sym is
    by None None is is' = is' ∙ sym is
    by None (Some g) is is' = absurd (feeder_none net t p g is ((h.each t p g low low').0 is'))

one_edge : (o : Option Feeder) (k : ℕ) → Contains (edge_in o) k → o ≡ Some (feeder.Edge k)
one_edge None k w = absurd (let low : w.0 < 0 = w.1 in omega (arith, low))
one_edge (Some (feeder.Sensor n)) k w = absurd (let low : w.0 < 0 = w.1 in omega (arith, low))
one_edge (Some (feeder.Edge n)) k w = at w.0 w.1 w.2
  where
    at : (i : ℕ) → i < 1 → get_or (n ∷ []) i k ≡ k → Some (feeder.Edge n) ≡ Some (feeder.Edge k)
    at zero low e = ap (λ x. Some (feeder.Edge x)) e
    at (suc i) low e = absurd (omega (arith, low))

-- an edge to one of the first ports
ports_to : (net : Net) (t n k : ℕ) → Contains (edges_to_ports net t n) k → (p : ℕ) × (p < n) × (feeder_of net t p ≡ Some (feeder.Edge k))
ports_to net t zero k w = absurd (let low : w.0 < 0 = w.1 in omega (arith, low))
ports_to net t (suc n) k w = elim (Contains-append_cases (edges_to_ports net t n) (edge_in (feeder_of net t n)) k w) [
  | inl before ↦ (let r = ports_to net t n k before in (r.0, omega (arith, r.1), r.2))
  | inr here ↦ (n, omega arith, one_edge (feeder_of net t n) k here)
]

to_ports : (net : Net) (t n p k : ℕ) → p < n → feeder_of net t p ≡ Some (feeder.Edge k) → Contains (edges_to_ports net t n) k
to_ports net t zero p k low e = absurd (omega (arith, low))
to_ports net t (suc n) p k low e = elim (cases_eq p n) [
  | inl same ↦ Contains-append_right (edges_to_ports net t n) (edge_in (feeder_of net t n)) k (subst (λ o. Contains (edge_in o) k) (sym e ∙ ap (feeder_of net t) same) (0, omega arith, refl))
  | inr other ↦ Contains-append_left (edges_to_ports net t n) (edge_in (feeder_of net t n)) k (to_ports net t n p k (omega (arith, low, other)) e)
]

-- the in edges of a task are exactly the edges that feed its in ports
pub in_edges-are : (net : Net) (t k : ℕ) → Contains (in_edges net t) k ↔ ((p : ℕ) × (p < length (ins_of net t)) × (feeder_of net t p ≡ Some (feeder.Edge k)))
in_edges-are net t k = (ports_to net t (length (ins_of net t)) k, λ w. to_ports net t (length (ins_of net t)) w.0 k w.1 w.2)

mapped : (f : ℕ → ℕ) (xs : List ℕ) (y : ℕ) → Contains (map f xs) y → (x : ℕ) × Contains xs x × (f x ≡ y)
mapped f [] y w = absurd (let low : w.0 < 0 = w.1 in omega (arith, low))
mapped f (x ∷ xs) y w = at (mapped f xs y) w.0 w.1 w.2
  where
    at : (Contains (map f xs) y → (x : ℕ) × Contains xs x × (f x ≡ y)) → (i : ℕ) → i < length (map f (x ∷ xs)) → get_or (map f (x ∷ xs)) i y ≡ y → (z : ℕ) × Contains (x ∷ xs) z × (f z ≡ y)
    at rest zero low e = (x, (0, omega arith, refl), e)
    at rest (suc i) low e = let r = rest (i, omega (arith, low), e) in (r.0, (suc r.1.0, omega (arith, r.1.1), r.1.2), r.2)

mapping : (f : ℕ → ℕ) (xs : List ℕ) (x : ℕ) → Contains xs x → Contains (map f xs) (f x)
mapping f [] x w = absurd (let low : w.0 < 0 = w.1 in omega (arith, low))
mapping f (z ∷ xs) x w = at (mapping f xs x) w.0 w.1 w.2
  where
    at : (Contains xs x → Contains (map f xs) (f x)) → (i : ℕ) → i < length (z ∷ xs) → get_or (z ∷ xs) i x ≡ x → Contains (map f (z ∷ xs)) (f x)
    at rest zero low e = (0, omega arith, ap f e)
    at rest (suc i) low e = let r = rest (i, omega (arith, low), e) in (suc r.0, omega (arith, r.1), r.2)

-- the producers of a task are exactly the tasks that feed it
pub producers_of-are : (net : Net) → HasEntries net → IsFedOnce net → (p t : ℕ) → Contains (producers_of net t) p ↔ Feeds net p t
producers_of-are net entries once p t = (
  λ w.
      let m = mapped (from_task_of net) (in_edges net t) p w in
      let port = (in_edges-are net t m.0).0 m.1 in
      let h = feeder_feeds net t port.0 (feeder.Edge m.0) port.2 in
      let from : from_task_of net m.0 ≡ h.edge.from_task = ap from_task_in h.stands in
      (m.0, h.edge, slice_get_within net.edges m.0 h.edge h.stands, get_or_from_slice_get net.edges m.0 h.edge h.edge h.stands, (sym from ∙ m.2, h.to_task)),
  λ f.
      let at : slice_get net.edges f.0 ≡ Some f.1 = slice_get-get_or net.edges f.0 f.1 f.2 ∙ ap (λ (x : Edge). Some x) f.3 in
      let feeds : IsFeeder net t f.1.to_port (feeder.Edge f.0) = record { edge = f.1; stands = at; to_task = f.4.1; to_port = refl } in
      let inside = (port_there net (feeder.Edge f.0) t f.1.to_port entries feeds).1 in
      let one = once t f.1.to_port inside in
      let is : feeder_of net t f.1.to_port ≡ Some (feeder.Edge f.0) = only_feeder net t f.1.to_port one.0 one.1 ∙ ap (λ (x : Feeder). Some x) (sym (one.1.only (feeder.Edge f.0) feeds)) in
      let from : from_task_of net f.0 ≡ p = ap from_task_in at ∙ f.4.0 in
      subst (Contains (producers_of net t)) from (mapping (from_task_of net) (in_edges net t) f.0 ((in_edges-are net t f.0).1 (f.1.to_port, inside, is))),
)
