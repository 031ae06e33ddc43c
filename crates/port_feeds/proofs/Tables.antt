-- The table of how often each in port is fed.
use Rattle.std.proofs.Common.{◌≡◌, ℕ, ◌+◌, ◌*◌, ◌<◌, inl, inr, min, ◌==◌, ◌&&◌, Bool, true, false, List, length, take, get_or, set, replicate, Some, refl, sym, ◌∙◌, ap, arith}
use Rattle.std.specs.Prelude.{slice_get, count_by}
use Rattle.std.proofs.lemmas.Bool.{cases_eq}
use Rattle.std.proofs.lemmas.Bool.Decides.{nat_tests}
use Rattle.std.proofs.lemmas.List.{get_or-set_same, get_or-set_other, get_or-replicate, length-set, length-replicate, take_all}
use Rattle.std.proofs.lemmas.List.Sums.{count_by_more_yes, count_by_more_no}
use Rattle.std.proofs.lemmas.Option.{slice_get_within, get_or_from_slice_get}
use Rattle.graph.specs.declared.net.Net.{Net}
use Rattle.graph.specs.declared.net.Edge.{Edge}
use Rattle.graph.specs.declared.net.Plug.{Plug}
use Rattle.graph.specs.Net.{ins_of}
use Rattle.graph.specs.FeederTable.{place_of}
use Rattle.graph.proofs.Entries.{All_at, ports_in}
use Rattle.port_feeds.specs.Feeds.{goes_to, plugs, feeds_among, feeds_of, IsCounted}
use Rattle.port_feeds.specs.Placed.{HasPlaces}

-- a port of the net has a place in the table
pub port_low : (net : Net) → HasPlaces net → (task port : ℕ) → port < length (ins_of net task) → (task < 64) × (port < 16)
port_low net h task port lt = (omega (arith, ports_in net task port lt, h.few.tasks), omega (arith, lt, h.few.ports task))

pub edge_low : (net : Net) → HasPlaces net → (i : ℕ) (e : Edge) → slice_get net.edges i ≡ Some e → (e.to_task < 64) × (e.to_port < 16)
edge_low net h i e at = port_low net h e.to_task e.to_port (All_at (λ (x : Edge). x.to_port < length (ins_of net x.to_task)) net.edges i e h.edges at)

pub sensor_low : (net : Net) → HasPlaces net → (i : ℕ) (s : Plug) → slice_get net.sensors i ≡ Some s → (s.task < 64) × (s.port < 16)
sensor_low net h i s at = port_low net h s.task s.port (All_at (λ (x : Plug). x.port < length (ins_of net x.task)) net.sensors i s h.sensors at)

place_inside : (t p : ℕ) → t < 64 → p < 16 → t * 16 + p < 1024
place_inside t p low low' = omega (arith, low, low')

-- nothing is counted in a table of 0
pub counted_start : (net : Net) → IsCounted net 0 0 (replicate 1024 0)
counted_start net = record {
  size = length-replicate {A = ℕ} 1024 0;
  each = λ t p low low'. get_or-replicate 1024 (t * 16 + p) 0 0 (place_inside t p low low');
}

min_more : (n : ℕ) → min 2 (min 2 n + 1) ≡ min 2 (n + 1)
min_more n = omega arith

-- one count more at a place
more_at : (table : List ℕ) (before after : ℕ → ℕ → ℕ) (t p : ℕ) → length table ≡ 1024 → t < 64 → p < 16
    → ((t' p' : ℕ) → t' < 64 → p' < 16 → get_or table (place_of t' p') 0 ≡ min 2 (before t' p'))
    → after t p ≡ before t p + 1 → ((t' p' : ℕ) → (t' ≡ t → p' ≡ p → ⊥) → after t' p' ≡ before t' p')
    → (t' p' : ℕ) → t' < 64 → p' < 16 → get_or (set table (place_of t p) (min 2 (get_or table (place_of t p) 0 + 1))) (place_of t' p') 0 ≡ min 2 (after t' p')
more_at table before after t p size low low' old here others t' p' a b = elim (cases_eq (t' * 16 + p') (t * 16 + p)) [
  | inl same ↦
      let first : t' ≡ t = omega (arith, same, low', b) in
      let second : p' ≡ p = omega (arith, same, low', b) in
      let new = min 2 (get_or table (place_of t p) 0 + 1) in
      ap (λ k. get_or (set table (place_of t p) new) k 0) same
      ∙ get_or-set_same table (t * 16 + p) new 0 (omega (arith, place_inside t p low low', size))
      ∙ ap (λ n. min 2 (n + 1)) (old t p low low') ∙ min_more (before t p) ∙ ap (min 2) (sym here)
      ∙ ap (λ x. min 2 (after x p)) (sym first) ∙ ap (λ x. min 2 (after t' x)) (sym second)
  | inr apart ↦
      get_or-set_other table (t * 16 + p) (t' * 16 + p') (min 2 (get_or table (place_of t p) 0 + 1)) 0 apart
      ∙ old t' p' a b ∙ ap (min 2) (sym (others t' p' (λ x y. apart (ap (λ n. n * 16 + p') x ∙ ap (λ n. t * 16 + n) y))))
]

both : (a b c d : ℕ) → ((a == b) && (c == d)) ≡ true → (a ≡ b) × (c ≡ d)
both a b c d e = (grind (arith, nat_tests), grind (arith, nat_tests))

itself : (a b : ℕ) → ((a == a) && (b == b)) ≡ true
itself a b = grind (arith, nat_tests)

apart_test : (a b c d : ℕ) → (a ≡ b → c ≡ d → ⊥) → ((b == a) && (d == c)) ≡ false
apart_test a b c d h = by ((b == a) && (d == c)) refl
  where
    by : (v : Bool) → ((b == a) && (d == c)) ≡ v → v ≡ false
    by true e = let w = both b a d c e in absurd (h (sym w.0) (sym w.1))
    by false e = refl

-- one edge more is counted
pub counted_edge : (net : Net) (table : List ℕ) (n : ℕ) (e : Edge) → IsCounted net n 0 table → slice_get net.edges n ≡ Some e → e.to_task < 64 → e.to_port < 16
    → IsCounted net (n + 1) 0 (set table (place_of e.to_task e.to_port) (min 2 (get_or table (place_of e.to_task e.to_port) 0 + 1)))
counted_edge net table n e h at low low' =
    let lt = slice_get_within net.edges n e at in
    let is : get_or net.edges n e ≡ e = get_or_from_slice_get net.edges n e e at in
    record {
      size = length-set table (place_of e.to_task e.to_port) (min 2 (get_or table (place_of e.to_task e.to_port) 0 + 1)) ∙ h.size;
      each = more_at table (feeds_among net n 0) (feeds_among net (n + 1) 0) e.to_task e.to_port h.size low low' h.each
          (let yes = count_by_more_yes (goes_to e.to_task e.to_port) net.edges n e lt (ap (goes_to e.to_task e.to_port) is ∙ itself e.to_task e.to_port) in omega (arith, yes))
          (λ t p other. (let no = count_by_more_no (goes_to t p) net.edges n e lt (ap (goes_to t p) is ∙ apart_test t e.to_task p e.to_port other) in omega (arith, no)));
    }

-- one sensor more is counted
pub counted_sensor : (net : Net) (table : List ℕ) (edges n : ℕ) (s : Plug) → IsCounted net edges n table → slice_get net.sensors n ≡ Some s → s.task < 64 → s.port < 16
    → IsCounted net edges (n + 1) (set table (place_of s.task s.port) (min 2 (get_or table (place_of s.task s.port) 0 + 1)))
counted_sensor net table edges n s h at low low' =
    let lt = slice_get_within net.sensors n s at in
    let is : get_or net.sensors n s ≡ s = get_or_from_slice_get net.sensors n s s at in
    record {
      size = length-set table (place_of s.task s.port) (min 2 (get_or table (place_of s.task s.port) 0 + 1)) ∙ h.size;
      each = more_at table (feeds_among net edges n) (feeds_among net edges (n + 1)) s.task s.port h.size low low' h.each
          (let yes = count_by_more_yes (plugs s.task s.port) net.sensors n s lt (ap (plugs s.task s.port) is ∙ itself s.task s.port) in omega (arith, yes))
          (λ t p other. (let no = count_by_more_no (plugs t p) net.sensors n s lt (ap (plugs t p) is ∙ apart_test t s.task p s.port other) in omega (arith, no)));
    }

-- what a whole table says
pub counted_all : (net : Net) (table : List ℕ) → IsCounted net (length net.edges) (length net.sensors) table → (t p : ℕ) → t < 64 → p < 16 → get_or table (place_of t p) 0 ≡ min 2 (feeds_of net t p)
counted_all net table h t p low low' =
    h.each t p low low'
    ∙ ap (λ (l : List Edge). min 2 (count_by (goes_to t p) l + count_by (plugs t p) (take (length net.sensors) net.sensors))) (take_all (length net.edges) net.edges (omega arith))
    ∙ ap (λ (l : List Plug). min 2 (count_by (goes_to t p) net.edges + count_by (plugs t p) l)) (take_all (length net.sensors) net.sensors (omega arith))
