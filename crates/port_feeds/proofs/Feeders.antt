-- What is fed never, once or more, by counts and by feeders.
use Rattle.std.proofs.Common.{◌≡◌, ℕ, ◌+◌, ◌≤◌, ◌⊎◌, inl, inr, min, ◌==◌, ◌&&◌, true, Option, Some, None, ap, arith}
use Rattle.std.specs.Prelude.{slice_get, count_by}
use Rattle.std.proofs.lemmas.Bool.Decides.{nat_tests}
use Rattle.graph.specs.declared.net.Net.{Net}
use Rattle.graph.specs.declared.net.Edge.{Edge}
use Rattle.graph.specs.declared.net.Plug.{Plug}
use Rattle.graph.specs.declared.feeder.Feeder.{Feeder}
use Rattle.graph.specs.declared.feeder.Feeder.TheVariants as feeder
use Rattle.graph.specs.Feeders.{IsFeeder, IsOnlyFeeder}
use Rattle.port_feeds.specs.Feeds.{goes_to, plugs, feeds_of, IsNeverFed, IsFedTwice, IsFedTimes, IsLeastTask}
use Rattle.port_feeds.proofs.Counts.{one_counted, some_counted, only_place}

-- the least task of one fact is that of an equal one
least_same : (P Q : ℕ → Type 0) (r : Option ℕ) → ((i : ℕ) → P i → Q i) → ((i : ℕ) → Q i → P i) → IsLeastTask P r → IsLeastTask Q r
least_same P Q None there back h = λ i q. h i (back i q)
least_same P Q (Some i) there back h = (there i h.0, λ j q. h.1 j (back j q))

none_of : (n : ℕ) → min 2 n ≡ 0 → n ≡ 0
none_of n e = omega (arith, e)

two_of : (n : ℕ) → min 2 n ≡ 2 → 2 ≤ n
two_of n e = omega (arith, e)

of_none : (n : ℕ) → n ≡ 0 → min 2 n ≡ 0
of_none n e = omega (arith, e)

of_two : (n : ℕ) → 2 ≤ n → min 2 n ≡ 2
of_two n e = omega (arith, e)

pub never_fed : (net : Net) (r : Option ℕ) → IsLeastTask (IsFedTimes net 0) r → IsLeastTask (IsNeverFed net) r
never_fed net r h = least_same (IsFedTimes net 0) (IsNeverFed net) r (λ t w. (w.0, w.1, none_of (feeds_of net t w.0) w.2)) (λ t w. (w.0, w.1, of_none (feeds_of net t w.0) w.2)) h

pub fed_twice : (net : Net) (r : Option ℕ) → IsLeastTask (IsFedTimes net 2) r → IsLeastTask (IsFedTwice net) r
fed_twice net r h = least_same (IsFedTimes net 2) (IsFedTwice net) r (λ t w. (w.0, w.1, two_of (feeds_of net t w.0) w.2)) (λ t w. (w.0, w.1, of_two (feeds_of net t w.0) w.2)) h

both : (a b c d : ℕ) → ((a == b) && (c == d)) ≡ true → (a ≡ b) × (c ≡ d)
both a b c d e = (grind (arith, nat_tests), grind (arith, nat_tests))

joint : (a b c d : ℕ) → a ≡ b → c ≡ d → ((a == b) && (c == d)) ≡ true
joint a b c d e f = grind (arith, nat_tests)

split : (m n : ℕ) → m + n ≡ 1 → ((m ≡ 1) × (n ≡ 0)) ⊎ ((m ≡ 0) × (n ≡ 1))
split m n e = grind arith

module _ (net : Net) (t p : ℕ) where
  edge_goes : (n : ℕ) → (f : IsFeeder net t p (feeder.Edge n)) → goes_to t p f.edge ≡ true
  edge_goes n f = joint f.edge.to_task t f.edge.to_port p f.to_task f.to_port

  sensor_plugs : (n : ℕ) → (f : IsFeeder net t p (feeder.Sensor n)) → plugs t p f.sensor ≡ true
  sensor_plugs n f = joint f.sensor.task t f.sensor.port p f.to_task f.to_port

  abbrev Edges : ℕ
  Edges = count_by (goes_to t p) net.edges

  abbrev Sensors : ℕ
  Sensors = count_by (plugs t p) net.sensors

  only_edge : (i : ℕ) (e : Edge) → Edges ≡ 1 → Sensors ≡ 0 → slice_get net.edges i ≡ Some e → goes_to t p e ≡ true → (g : Feeder) → IsFeeder net t p g → g ≡ feeder.Edge i
  only_edge i e one none at goes (feeder.Edge n) f = ap (λ (k : ℕ). feeder.Edge k) (only_place (goes_to t p) net.edges i n e f.edge one at goes f.stands (edge_goes n f))
  only_edge i e one none at goes (feeder.Sensor n) f = absurd (omega (arith, none, one_counted (plugs t p) net.sensors n f.sensor f.stands (sensor_plugs n f)))

  only_sensor : (i : ℕ) (s : Plug) → Edges ≡ 0 → Sensors ≡ 1 → slice_get net.sensors i ≡ Some s → plugs t p s ≡ true → (g : Feeder) → IsFeeder net t p g → g ≡ feeder.Sensor i
  only_sensor i s none one at goes (feeder.Sensor n) f = ap (λ (k : ℕ). feeder.Sensor k) (only_place (plugs t p) net.sensors i n s f.sensor one at goes f.stands (sensor_plugs n f))
  only_sensor i s none one at goes (feeder.Edge n) f = absurd (omega (arith, none, one_counted (goes_to t p) net.edges n f.edge f.stands (edge_goes n f)))

  by_counts : ((Edges ≡ 1) × (Sensors ≡ 0)) ⊎ ((Edges ≡ 0) × (Sensors ≡ 1)) → (f : Feeder) × IsOnlyFeeder net t p f
  by_counts (inl w) =
      let (i, e, at, goes) = some_counted (goes_to t p) net.edges (omega (arith, w.0)) in
      let ends = both e.to_task t e.to_port p goes in
      (feeder.Edge i, record { feeds = record { edge = e; stands = at; to_task = ends.0; to_port = ends.1 }; only = only_edge i e w.0 w.1 at goes })
  by_counts (inr w) =
      let (i, s, at, goes) = some_counted (plugs t p) net.sensors (omega (arith, w.1)) in
      let ends = both s.task t s.port p goes in
      (feeder.Sensor i, record { feeds = record { sensor = s; stands = at; to_task = ends.0; to_port = ends.1 }; only = only_sensor i s w.0 w.1 at goes })

  -- a port that is fed once has one feeder alone
  pub one_feeder : feeds_of net t p ≡ 1 → (f : Feeder) × IsOnlyFeeder net t p f
  one_feeder once = by_counts (split Edges Sensors once)
