-- What a part of the code does to the counters. `sc` is one more than the counter of the innermost scope or
-- sequence around it, or 0; base and top bound the counters of its routine.
use Rattle.std.proofs.Common.{◌≡◌, ◌≢◌, ◌⊎◌, ⊎_elim, ℕ, zero, suc, ◌+◌, ◌<◌, ◌≤◌, List, length, Some, None, Bool, refl, ap, ◌∙◌, arith, get_or-set_other, get_or-set_same}
use Rattle.std.specs.Prelude.{slice_get, slice_index, slice_set, if◌then◌else◌}
use Rattle.std.proofs.lemmas.Bool.{lt-ltb, le-ltb}
use Rattle.std.proofs.lemmas.Option.{slice_get-get_or}
use Rattle.std.proofs.Math.ListN.{length-set}
use Rattle.mars_base.specs.Store.{count_up}

-- the count of the innermost scope
abbrev pub scope_count : ℕ → List ℕ → ℕ
scope_count zero ks = 0
scope_count (suc c) ks = slice_index ks c

-- the scope is of the routine whose counters begin at base
abbrev pub IsOwn : ℕ → ℕ → Type 0
IsOwn base sc = (sc ≡ 0) ⊎ (base < sc)

-- the routine's counters below lo stay, but for the scope's, which is m then, and so do those from top on
pub record Keeps (base top sc lo : ℕ) (ks ls : List ℕ) (m : ℕ) : Type 0 where
  pub len : length ls ≡ length ks
  pub same : (i : ℕ) → base ≤ i → i < lo → suc i ≢ sc → slice_index ls i ≡ slice_index ks i
  pub above : (i : ℕ) → top ≤ i → slice_index ls i ≡ slice_index ks i
  pub count : scope_count sc ls ≡ m

-- a call keeps all counters from base on
pub record KeepsFrom (base : ℕ) (ks ls : List ℕ) : Type 0 where
  pub len : length ls ≡ length ks
  pub same : (i : ℕ) → base ≤ i → slice_index ls i ≡ slice_index ks i

-- a counter that there is
pub counter_there : (ks : List ℕ) (c : ℕ) → c < length ks → slice_get ks c ≡ Some (slice_index ks c)
counter_there ks c lt = slice_get-get_or ks c 0 lt

-- nothing is changed
pub keeps_all : (base top sc lo : ℕ) (ks : List ℕ) (m : ℕ) → scope_count sc ks ≡ m → Keeps base top sc lo ks ks m
keeps_all base top sc lo ks m e = record { len = refl; same = λ i b h n. refl; above = λ i h. refl; count = e }

-- one part after another
pub keeps_then : (base top sc lo mid : ℕ) (ks ls ms : List ℕ) (m n : ℕ) → lo ≤ mid → Keeps base top sc lo ks ls m → Keeps base top sc mid ls ms n → Keeps base top sc lo ks ms n
keeps_then base top sc lo mid ks ls ms m n le a b = record {
  len = b.len ∙ a.len;
  same = λ i g h ne. b.same i g (omega (arith, le, h)) ne ∙ a.same i g h ne;
  above = λ i h. b.above i h ∙ a.above i h;
  count = b.count;
}

-- what keeps more keeps less
pub keeps_less : (base top sc lo mid : ℕ) (ks ls : List ℕ) (m : ℕ) → lo ≤ mid → Keeps base top sc mid ks ls m → Keeps base top sc lo ks ls m
keeps_less base top sc lo mid ks ls m le a = record {
  len = a.len;
  same = λ i g h ne. a.same i g (omega (arith, le, h)) ne;
  above = a.above;
  count = a.count;
}

-- another counter stays
other : (ks : List ℕ) (i c v : ℕ) → i ≢ c → slice_index (slice_set ks c v) i ≡ slice_index ks i
other ks i c v ne = get_or-set_other ks c i v 0 ne

-- a counter of its own, at lo, is set
pub keeps_set : (base top sc lo : ℕ) (ks : List ℕ) (v m : ℕ) → sc ≤ lo → lo < top → scope_count sc ks ≡ m → Keeps base top sc lo ks (slice_set ks lo v) m
keeps_set base top sc lo ks v m le lt e = record {
  len = length-set ks lo v;
  same = λ i g h ne. let n : i ≢ lo = omega arith in other ks i lo v n;
  above = λ i h. let n : i ≢ lo = omega arith in other ks i lo v n;
  count = scope sc le e;
}
  where
    scope : (c : ℕ) → c ≤ lo → scope_count c ks ≡ m → scope_count c (slice_set ks lo v) ≡ m
    scope zero le e = e
    scope (suc c) le e = let n : c ≢ lo = omega arith in other ks c lo v n ∙ e

-- the scope's counter is set
pub keeps_count : (base top c lo : ℕ) (ks : List ℕ) (v : ℕ) → c < length ks → c < top → Keeps base top (suc c) lo ks (slice_set ks c v) v
keeps_count base top c lo ks v le lt = record {
  len = length-set ks c v;
  same = λ i g h ne. other ks i c v (λ e. ne (ap suc e));
  above = λ i h. let n : i ≢ c = omega arith in other ks i c v n;
  count = get_or-set_same ks c v 0 le;
}

-- the scope's count, where the routine's counters below lo stay
count_same : (base lo sc : ℕ) (ks ls : List ℕ) → IsOwn base sc → sc ≤ lo → ((i : ℕ) → base ≤ i → i < lo → slice_index ls i ≡ slice_index ks i) → scope_count sc ls ≡ scope_count sc ks
count_same base lo zero ks ls w le f = refl
count_same base lo (suc c) ks ls w le f = ⊎_elim (λ e. absurd (let x : ⊥ = omega (arith, e) in x)) (λ lt. f c (omega arith) (omega arith)) w

-- a scope or a sequence of its own, at lo, is left
pub keeps_scope : (base top sc lo : ℕ) (ks ls : List ℕ) (m n : ℕ) → IsOwn base sc → sc ≤ lo → lo < top → scope_count sc ks ≡ m → Keeps base top (suc lo) (suc lo) (slice_set ks lo 0) ls n → Keeps base top sc lo ks ls m
keeps_scope base top sc lo ks ls m n w le lt e a = record {
  len = a.len ∙ length-set ks lo 0;
  same = λ i g h ne. below i g h;
  above = λ i h. let n : i ≢ lo = omega arith in a.above i h ∙ other ks i lo 0 n;
  count = count_same base lo sc ks ls w le below ∙ e;
}
  where
    below : (i : ℕ) → base ≤ i → i < lo → slice_index ls i ≡ slice_index ks i
    below i g h =
        let n : i ≢ lo = omega arith in
        let ne : suc i ≢ suc lo = omega arith in
        a.same i g (omega arith) ne ∙ other ks i lo 0 n

-- a part with no scope around it, in a scope or sequence
pub keeps_none : (base top sc lo : ℕ) (ks ls : List ℕ) (m n : ℕ) → IsOwn base sc → sc ≤ lo → scope_count sc ks ≡ m → Keeps base top 0 lo ks ls n → Keeps base top sc lo ks ls m
keeps_none base top sc lo ks ls m n w le e a = record {
  len = a.len;
  same = λ i g h ne. a.same i g h (λ z. absurd (let x : ⊥ = omega (arith, z) in x));
  above = a.above;
  count = count_same base lo sc ks ls w le (λ i g h. a.same i g h (λ z. absurd (let x : ⊥ = omega (arith, z) in x))) ∙ e;
}

-- a call, which keeps all counters of the routine
pub keeps_call : (base top sc lo : ℕ) (ks ls : List ℕ) (m : ℕ) → IsOwn base sc → sc ≤ lo → base ≤ top → scope_count sc ks ≡ m → KeepsFrom base ks ls → Keeps base top sc lo ks ls m
keeps_call base top sc lo ks ls m w le bt e a = record {
  len = a.len;
  same = λ i g h ne. a.same i g;
  above = λ i h. a.same i (omega arith);
  count = count_same base lo sc ks ls w le (λ i g h. a.same i g) ∙ e;
}

-- a count below its bound goes up
pub up_below : (v n : ℕ) → v < n → count_up v n ≡ Some (v + 1)
up_below v n h = ap (λ (b : Bool). if b then Some (v + 1) else None) (lt-ltb v n h)

-- and one at its bound does not
pub up_full : (v n : ℕ) → n ≤ v → count_up v n ≡ None
up_full v n h = ap (λ (b : Bool). if b then Some (v + 1) else None) (le-ltb v n h)
