-- Keys one after another.
use Rattle.std.proofs.Common.{◌≡◌, ℕ, suc, ◌+◌, ◌-◌, ◌<◌, ◌≤◌, Bool, true, false, cond, List, [], ◌∷◌, ◌++◌, Option, None, Some, refl, sym, ap, ap₂, ◌∙◌, subst, arith, ◌↔◌}
use Rattle.std.proofs.lemmas.Bool.Decides.{nat_tests}
use Rattle.std.specs.Prelude.{◌==◌, ◌&&◌}
use Rattle.graph.specs.declared.net.Net.{Net}
use Rattle.graph.specs.JobGraph.{JobGraph}
use Rattle.graph.specs.Net.{instances}
use Rattle.tables.specs.declared.table.Tables.{Tables}
use Rattle.tables.specs.Keys.{strip}
use Rattle.tables.specs.Named.{edge_at}
use Rattle.tables.specs.declared.table.Message.{Message}
use Rattle.tables.specs.Rules.{key_if, keys_of, keys_of_edge, keys_of_edges}

-- some keys, and then others
strip_some : (ks ls xs rest : List (ℕ × ℕ)) → Some rest ≡ strip ks xs → strip (ks ++ ls) xs ≡ strip ls rest
unfolding strip
strip_some [] ls xs rest e = let same : rest ≡ xs = cc in ap (strip ls) (sym same)
strip_some (k ∷ ks) ls [] rest e = absurd cc
strip_some (k ∷ ks) ls (x ∷ xs) rest e = cases ((k.0 == x.0) && (k.1 == x.1)) (λ f. strip_some ks ls xs rest f) e where
  cases : (b : Bool) → (Some rest ≡ strip ks xs → strip (ks ++ ls) xs ≡ strip ls rest) → Some rest ≡ cond b (strip ks xs) None → cond b (strip (ks ++ ls) xs) None ≡ strip ls rest
  cases true go f = go f
  cases false go f = absurd cc

strip_none : (ks ls xs : List (ℕ × ℕ)) → None ≡ strip ks xs → strip (ks ++ ls) xs ≡ None
unfolding strip
strip_none [] ls xs e = absurd cc
strip_none (k ∷ ks) ls [] e = refl
strip_none (k ∷ ks) ls (x ∷ xs) e = cases ((k.0 == x.0) && (k.1 == x.1)) (λ f. strip_none ks ls xs f) e where
  cases : (b : Bool) → (None ≡ strip ks xs → strip (ks ++ ls) xs ≡ None) → None ≡ cond b (strip ks xs) None → cond b (strip (ks ++ ls) xs) None ≡ None
  cases true go f = go f
  cases false go f = refl

-- the same for any rows of keys
pub record Rows (row : ℕ → List (ℕ × ℕ)) (all : ℕ → ℕ → List (ℕ × ℕ)) : Type 0 where
  pub none : (k : ℕ) → all k 0 ≡ []
  pub more : (k left : ℕ) → all k (suc left) ≡ row k ++ all (k + 1) left

pub goes : (row : ℕ → List (ℕ × ℕ)) (all : ℕ → ℕ → List (ℕ × ℕ)) → Rows row all → (k n : ℕ) (xs rest : List (ℕ × ℕ)) (total : Option (List (ℕ × ℕ))) → k < n → Some rest ≡ strip (row k) xs
    → strip (all k (n - k)) xs ≡ total → strip (all (k + 1) (n - (k + 1))) rest ≡ total
goes row all rows k n xs rest total lt e so_far =
    let m : n - k ≡ suc (n - (k + 1)) = omega arith in
    let one : strip (all k (n - k)) xs ≡ strip (all (k + 1) (n - (k + 1))) rest = rw (m, rows.more k (n - (k + 1))) (strip_some (row k) (all (k + 1) (n - (k + 1))) xs rest e) in
    sym one ∙ so_far

pub lacks : (row : ℕ → List (ℕ × ℕ)) (all : ℕ → ℕ → List (ℕ × ℕ)) → Rows row all → (k n : ℕ) (xs : List (ℕ × ℕ)) (total : Option (List (ℕ × ℕ))) → k < n → None ≡ strip (row k) xs
    → strip (all k (n - k)) xs ≡ total → None ≡ total
lacks row all rows k n xs total lt e so_far =
    let m : n - k ≡ suc (n - (k + 1)) = omega arith in
    let one : strip (all k (n - k)) xs ≡ None = rw (m, rows.more k (n - (k + 1))) (strip_none (row k) (all (k + 1) (n - (k + 1))) xs e) in
    sym one ∙ so_far

pub done : (row : ℕ → List (ℕ × ℕ)) (all : ℕ → ℕ → List (ℕ × ℕ)) → Rows row all → (k n : ℕ) (xs : List (ℕ × ℕ)) (total : Option (List (ℕ × ℕ))) → n ≤ k
    → strip (all k (n - k)) xs ≡ total → Some xs ≡ total
unfolding strip
done row all rows k n xs total le so_far =
    let m : n - k ≡ 0 = omega arith in
    let one : strip (all k (n - k)) xs ≡ Some xs = rw (m, rows.none k) refl in
    sym one ∙ so_far

pub edge_rows : (net : Net) (g : JobGraph) (t : Tables) (edge : ℕ) → Rows (key_if net g t edge) (keys_of_edge net g t edge)
edge_rows net g t edge = record { none = λ k. refl; more = λ k left. refl }

pub all_rows : (net : Net) (g : JobGraph) (t : Tables) → Rows (λ edge. keys_of_edge net g t edge 0 (instances net g.cycle (edge_at net edge).from_task)) (keys_of_edges net g t)
all_rows net g t = record { none = λ k. refl; more = λ k left. refl }

-- nothing is left exactly where the list is these keys
pub strip_all : (ks xs : List (ℕ × ℕ)) → strip ks xs ≡ Some [] → xs ≡ ks
unfolding strip
strip_all [] xs e = let h : xs ≡ [] = cc in h
strip_all (k ∷ ks) [] e = absurd cc
strip_all (k ∷ ks) (x ∷ xs) e = same ((k.0 == x.0) && (k.1 == x.1)) refl (λ f. strip_all ks xs f) e where
  same : (b : Bool) → (k.0 == x.0) && (k.1 == x.1) ≡ b → (strip ks xs ≡ Some [] → xs ≡ ks) → cond b (strip ks xs) None ≡ Some [] → x ∷ xs ≡ k ∷ ks
  same true test go f = let h : xs ≡ ks = go f in let a : x.0 ≡ k.0 = grind (arith, nat_tests) in let b : x.1 ≡ k.1 = grind (arith, nat_tests) in let one : x ≡ k = ap₂ (λ (u v : ℕ). (u, v)) a b in ap₂ (λ (y : ℕ × ℕ) (ys : List (ℕ × ℕ)). y ∷ ys) one h
  same false test go f = absurd cc

pub strip_self : (ks : List (ℕ × ℕ)) → strip ks ks ≡ Some []
unfolding strip
strip_self [] = refl
strip_self (k ∷ ks) = let test : (k.0 == k.0) && (k.1 == k.1) ≡ true = grind (arith, nat_tests) in rw test (strip_self ks)

none_left : (rest : List Message) → keys_of rest ≡ [] → rest ≡ []
none_left [] e = refl
none_left (m ∷ rest) e = absurd cc

-- no message is left exactly where the messages are those of these keys
pub all_there : (ks : List (ℕ × ℕ)) (messages rest : List Message) → Some (keys_of rest) ≡ strip ks (keys_of messages) → (rest ≡ []) ↔ (keys_of messages ≡ ks)
all_there ks messages rest e = (
  λ none. strip_all ks (keys_of messages) (sym e ∙ ap (λ (ms : List Message). Some (keys_of ms)) none),
  λ same. none_left rest (let s : strip ks (keys_of messages) ≡ Some [] = subst (λ (xs : List (ℕ × ℕ)). strip ks xs ≡ Some []) (sym same) (strip_self ks) in let h : Some (keys_of rest) ≡ Some [] = e ∙ s in cc),
)

-- where one of them lacks, they aren't
pub one_lacks : (ks : List (ℕ × ℕ)) (messages : List Message) → None ≡ strip ks (keys_of messages) → keys_of messages ≡ ks → ⊥
one_lacks ks messages e same = let s : strip ks (keys_of messages) ≡ Some [] = subst (λ (xs : List (ℕ × ℕ)). strip ks xs ≡ Some []) (sym same) (strip_self ks) in absurd (cc (e, s))
