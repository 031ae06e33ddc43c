-- The table of what feeds each in port.
use Rattle.std.proofs.Common.{◌≡◌, ◌≢◌, ◌↔◌, ℕ, ◌+◌, ◌*◌, ◌<◌, ◌⊎◌, inl, inr, Bool, true, false, List, length, get_or, set, replicate, Option, Some, None, refl, sym, ◌∙◌, ap, subst, arith}
use Rattle.std.specs.Prelude.{slice_get, is_some}
use Rattle.std.proofs.lemmas.Bool.{cases_eq, false≢true}
use Rattle.std.proofs.lemmas.List.{get_or-set_same, get_or-set_other, get_or-replicate, length-set, length-replicate}
use Rattle.std.proofs.lemmas.Option.{slice_get_within, slice_get-get_or}
use Rattle.graph.specs.declared.net.Net.{Net}
use Rattle.graph.specs.declared.net.Edge.{Edge}
use Rattle.graph.specs.declared.net.Plug.{Plug}
use Rattle.graph.specs.declared.feeder.Feeder.{Feeder}
use Rattle.graph.specs.declared.feeder.Feeder.TheVariants as feeder
use Rattle.graph.specs.Net.{ins_of}
use Rattle.graph.specs.Rules.{IsEdge, IsSensor}
use Rattle.graph.specs.Sound.{HasCounts, HasEntries, IsFedOnce}
use Rattle.graph.specs.Feeders.{IsFeeder, IsOnlyFeeder}
use Rattle.graph.specs.FeederTable.{place_of, feeder_in, IsBefore, IsTable, IsFeederTable}
use Rattle.graph.proofs.Entries.{All_at, ports_in, few_ports}

-- a feeder feeds one port
one_port : (net : Net) (f : Feeder) (t p t' p' : ℕ) → IsFeeder net t p f → IsFeeder net t' p' f → (t ≡ t') × (p ≡ p')
one_port net (feeder.Edge n) t p t' p' h k =
    let e : Some h.edge ≡ Some k.edge = sym h.stands ∙ k.stands in
    let same : h.edge ≡ k.edge = cc in
    (sym h.to_task ∙ ap (λ (x : Edge). x.to_task) same ∙ k.to_task, sym h.to_port ∙ ap (λ (x : Edge). x.to_port) same ∙ k.to_port)
one_port net (feeder.Sensor n) t p t' p' h k =
    let e : Some h.sensor ≡ Some k.sensor = sym h.stands ∙ k.stands in
    let same : h.sensor ≡ k.sensor = cc in
    (sym h.to_task ∙ ap (λ (x : Plug). x.task) same ∙ k.to_task, sym h.to_port ∙ ap (λ (x : Plug). x.port) same ∙ k.to_port)

-- a feeder's port is one of the net's
pub port_there : (net : Net) (f : Feeder) (t p : ℕ) → HasEntries net → IsFeeder net t p f → (t < length net.tasks) × (p < length (ins_of net t))
port_there net (feeder.Edge n) t p entries h =
    let is : IsEdge net h.edge = All_at (IsEdge net) net.edges n h.edge entries.edges h.stands in
    (subst (λ x. x < length net.tasks) h.to_task is.to_task, subst (λ x. p < length (ins_of net x)) h.to_task (subst (λ x. x < length (ins_of net h.edge.to_task)) h.to_port is.to_port))
port_there net (feeder.Sensor n) t p entries h =
    let is : IsSensor net h.sensor = All_at (IsSensor net) net.sensors n h.sensor entries.sensors h.stands in
    (subst (λ x. x < length net.tasks) h.to_task is.task, subst (λ x. p < length (ins_of net x)) h.to_task (subst (λ x. x < length (ins_of net h.sensor.task)) h.to_port is.port))

-- a feeder's port is one of the table's
pub port_low : (net : Net) (f : Feeder) (t p : ℕ) → HasCounts net → HasEntries net → IsFeeder net t p f → (t < 64) × (p < 16)
port_low net f t p counts entries h =
    let w = port_there net f t p entries h in
    (omega (arith, w.0, counts.tasks), omega (arith, w.1, few_ports net entries t))

place_apart : (t p t' p' : ℕ) → p < 16 → p' < 16 → t * 16 + p ≡ t' * 16 + p' → (t ≡ t') × (p ≡ p')
place_apart t p t' p' low low' e = (omega (arith, low, low', e), omega (arith, low, low', e))

place_inside : (t p : ℕ) → t < 64 → p < 16 → t * 16 + p < 1024
place_inside t p low low' = omega (arith, low, low')

-- nothing is noted in an empty table
pub table_start : (net : Net) → IsTable net (replicate 1024 None) (IsBefore 0 0)
table_start net = record {
  size = length-replicate {A = Option Feeder} 1024 None;
  each = λ t p f low low'. (
    λ e. (let none : get_or (replicate 1024 None) (t * 16 + p) None ≡ None = get_or-replicate 1024 (t * 16 + p) None None (place_inside t p low low') in let no : None ≡ Some f = sym none ∙ e in cc),
    λ h. absurd (nothing_yet f h.1),
  );
}
  where
    nothing_yet : (f : Feeder) → IsBefore 0 0 f → ⊥
    nothing_yet (feeder.Edge n) h = omega (arith, h)
    nothing_yet (feeder.Sensor n) h = omega (arith, h)

-- one feeder more is noted, in a port that had none
pub table_more : (net : Net) (table : List (Option Feeder)) (Noted After : Feeder → Type 0) (t p : ℕ) (f : Feeder) → IsTable net table Noted → IsFeeder net t p f → t < 64 → p < 16
    → feeder_in table t p ≡ None → ((g : Feeder) → After g → Noted g ⊎ (g ≡ f)) → ((g : Feeder) → Noted g → After g) → After f
    → IsTable net (set table (place_of t p) (Some f)) After
table_more net table Noted After t p f old feeds low low' free back on last = record {
  size = length-set table (t * 16 + p) (Some f) ∙ old.size;
  each = λ t' p' g a b. elim (cases_eq (t' * 16 + p') (t * 16 + p)) [
    | inl same ↦
        let one = place_apart t' p' t p b low' same in
        let now : get_or (set table (t * 16 + p) (Some f)) (t' * 16 + p') None ≡ Some f =
        ap (λ i. get_or (set table (t * 16 + p) (Some f)) i None) same ∙ get_or-set_same table (t * 16 + p) (Some f) None (omega (arith, place_inside t p low low', old.size)) in
        let here : IsFeeder net t' p' f = subst (λ x. IsFeeder net x p' f) (sym one.0) (subst (λ x. IsFeeder net t x f) (sym one.1) feeds) in (
          λ e. (let is : Some f ≡ Some g = sym now ∙ e in let eq : f ≡ g = cc in (subst (IsFeeder net t' p') eq here, subst After eq last)),
          λ h. elim (back g h.1) [
            | inl noted ↦ absurd (empty g (subst (λ x. IsFeeder net x p g) one.0 (subst (λ x. IsFeeder net t' x g) one.1 h.0)) noted)
            | inr eq ↦ now ∙ ap (λ (x : Feeder). Some x) (sym eq)
          ],
        )
    | inr other ↦
        let now : get_or (set table (t * 16 + p) (Some f)) (t' * 16 + p') None ≡ get_or table (t' * 16 + p') None = get_or-set_other table (t * 16 + p) (t' * 16 + p') (Some f) None other in (
          λ e. (let w = (old.each t' p' g a b).0 (sym now ∙ e) in (w.0, on g w.1)),
          λ h. elim (back g h.1) [
            | inl noted ↦ now ∙ (old.each t' p' g a b).1 (h.0, noted)
            | inr eq ↦ absurd (apart t' p' other (subst (IsFeeder net t' p') eq h.0))
          ],
        )
  ];
}
  where
    empty : (g : Feeder) → IsFeeder net t p g → Noted g → ⊥
    empty g h noted = let e : None ≡ Some g = sym free ∙ (old.each t p g low low').1 (h, noted) in cc

    apart : (t' p' : ℕ) → t' * 16 + p' ≢ t * 16 + p → IsFeeder net t' p' f → ⊥
    apart t' p' other h = let w = one_port net f t' p' t p h feeds in other (let a = w.0 in let b = w.1 in omega (arith, a, b))

-- what stands in the port is another feeder, so the port isn't fed once
pub fed_twice : (net : Net) (table : List (Option Feeder)) (Noted : Feeder → Type 0) (t p : ℕ) (f : Feeder) → HasCounts net → HasEntries net → IsTable net table Noted → IsFeeder net t p f
    → (Noted f → ⊥) → is_some (feeder_in table t p) ≡ true → IsFedOnce net → ⊥
fed_twice net table Noted t p f counts entries old feeds new e once = by (feeder_in table t p) refl e
  where
    by : (o : Option Feeder) → feeder_in table t p ≡ o → is_some o ≡ true → ⊥
    by None is bad = absurd (false≢true bad)
    by (Some g) is good =
        let low = port_low net f t p counts entries feeds in
        let w = (old.each t p g low.0 low.1).0 is in
        let only = once t p (port_there net f t p entries feeds).1 in
        new (subst Noted (only.1.only g w.0 ∙ sym (only.1.only f feeds)) w.1)

pub is_free : (o : Option Feeder) (b : Bool) → b ≡ is_some o → b ≡ false → o ≡ None
is_free None b e h = refl
is_free (Some f) b e h = absurd (false≢true (sym h ∙ e))

-- one edge more is below the next number
pub edge_back : (e s : ℕ) (g : Feeder) → IsBefore (e + 1) s g → IsBefore e s g ⊎ (g ≡ feeder.Edge e)
edge_back e s (feeder.Edge n) h = elim (cases_eq n e) [ inl same ↦ inr (ap (λ x. feeder.Edge x) same) | inr other ↦ inl (omega (arith, h, other)) ]
edge_back e s (feeder.Sensor n) h = inl h

pub edge_on : (e s : ℕ) (g : Feeder) → IsBefore e s g → IsBefore (e + 1) s g
edge_on e s (feeder.Edge n) h = omega (arith, h)
edge_on e s (feeder.Sensor n) h = h

pub sensor_back : (e s : ℕ) (g : Feeder) → IsBefore e (s + 1) g → IsBefore e s g ⊎ (g ≡ feeder.Sensor s)
sensor_back e s (feeder.Edge n) h = inl h
sensor_back e s (feeder.Sensor n) h = elim (cases_eq n s) [ inl same ↦ inr (ap (λ x. feeder.Sensor x) same) | inr other ↦ inl (omega (arith, h, other)) ]

pub sensor_on : (e s : ℕ) (g : Feeder) → IsBefore e s g → IsBefore e (s + 1) g
sensor_on e s (feeder.Edge n) h = h
sensor_on e s (feeder.Sensor n) h = omega (arith, h)

-- with all edges and sensors noted, the table has what feeds each port
pub table_end : (net : Net) (table : List (Option Feeder)) → IsTable net table (IsBefore (length net.edges) (length net.sensors)) → IsFeederTable net table
table_end net table h = record {
  size = h.size;
  each = λ t p f low low'. (λ e. ((h.each t p f low low').0 e).0, λ feeds. (h.each t p f low low').1 (feeds, below t p f feeds));
}
  where
    below : (t p : ℕ) (f : Feeder) → IsFeeder net t p f → IsBefore (length net.edges) (length net.sensors) f
    below t p (feeder.Edge n) w = slice_get_within net.edges n w.edge w.stands
    below t p (feeder.Sensor n) w = slice_get_within net.sensors n w.sensor w.stands

-- each port of the table is filled, exactly where each in port is fed once
pub filled_once : (net : Net) (table : List (Option Feeder)) → HasCounts net → HasEntries net → IsFeederTable net table
    → ((task port : ℕ) → port < length (ins_of net task) → is_some (feeder_in table task port) ≡ true) ↔ IsFedOnce net
filled_once net table counts entries h = (
  λ filled t p inside. by t p inside (feeder_in table t p) refl (filled t p inside),
  λ once t p inside. (let w = once t p inside in let low = low_port t p inside in subst (λ o. is_some o ≡ true) (sym ((h.each t p w.0 low.0 low.1).1 w.1.feeds)) refl),
)
  where
    low_port : (t p : ℕ) → p < length (ins_of net t) → (t < 64) × (p < 16)
    low_port t p inside = (omega (arith, ports_in net t p inside, counts.tasks), omega (arith, inside, few_ports net entries t))

    by : (t p : ℕ) → p < length (ins_of net t) → (o : Option Feeder) → feeder_in table t p ≡ o → is_some o ≡ true → (f : Feeder) × IsOnlyFeeder net t p f
    by t p inside None is bad = absurd (false≢true bad)
    by t p inside (Some f) is good =
        let low = low_port t p inside in (
          f,
          record {
            feeds = (h.each t p f low.0 low.1).0 is;
            only = λ other feeds. (let e : Some f ≡ Some other = sym is ∙ (h.each t p other low.0 low.1).1 feeds in cc);
          },
        )

-- the edge of a number feeds the port that it goes to
pub edge_feeder : (net : Net) (edges : List Edge) (n i : ℕ) (d : Edge) → edges ≡ net.edges → i ≡ n → n < length edges
    → IsFeeder net (get_or edges i d).to_task (get_or edges i d).to_port (feeder.Edge n)
edge_feeder net edges n i d same is low = record {
  edge = get_or edges i d;
  stands = ap (λ (es : List Edge). slice_get es n) (sym same) ∙ slice_get-get_or edges n d low ∙ ap (λ k. Some (get_or edges k d)) (sym is);
  to_task = refl;
  to_port = refl;
}

-- the sensor of a number feeds its port
pub sensor_feeder : (net : Net) (sensors : List Plug) (n i : ℕ) (s : Plug) → sensors ≡ net.sensors → i ≡ n → n < length sensors → s ≡ get_or sensors i s
    → IsFeeder net s.task s.port (feeder.Sensor n)
sensor_feeder net sensors n i s same is low at = record {
  sensor = s;
  stands = ap (λ (es : List Plug). slice_get es n) (sym same) ∙ slice_get-get_or sensors n s low ∙ ap (λ k. Some (get_or sensors k s)) (sym is) ∙ ap (λ (x : Plug). Some x) (sym at);
  to_task = refl;
  to_port = refl;
}
