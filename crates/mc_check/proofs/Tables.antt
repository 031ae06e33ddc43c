-- The code's tables of names are the plain ones.
use Rattle.std.proofs.Common.{◌≡◌, ℕ, Bool, true, false, cond, List, [], ◌∷◌, ◌++◌, map, Option, Some, None, Bor, refl, ap, sym, ◌∙◌}
use Rattle.std.specs.Prelude.{bytes_eq}
use Rattle.std.specs.Map.{lookup}
use Rattle.indexmap.specs.IndexMap.{insert_entry}
use Rattle.mc_tree.specs.Symbols.{Table, look, declare, is_some}

abbrev pub seen : {V : Type 0} → List (Bor (List ℕ) × V) → Table V
seen es = map (λ e. (e.0.now, e.1)) es

pub look-seen : {V : Type 0} (x : List ℕ) (es : List (Bor (List ℕ) × V)) → lookup (λ k. bytes_eq x k.now) es ≡ look x (seen es)
look-seen x [] = refl
look-seen x (e ∷ es) = ap (cond (bytes_eq x e.0.now) (Some e.1)) (look-seen x es)

-- a name that is there is no new one
pub declare-taken : {V : Type 0} (x : List ℕ) (v : V) (t : Table V) → is_some (look x t) ≡ true → declare x v t ≡ t
declare-taken x v [] h = cc
declare-taken {V} x v (e ∷ es) h = by (bytes_eq x e.0) h (declare-taken x v es)
  where
    by : (b : Bool) → is_some (cond b (Some e.1) (look x es)) ≡ true → (is_some (look x es) ≡ true → declare x v es ≡ es) → cond b (e ∷ es) (e ∷ declare x v es) ≡ e ∷ es
    by true h more = refl
    by false h more = ap (λ (l : Table V). e ∷ l) (more h)

pub declare-seen : {V : Type 0} (k : Bor (List ℕ)) (v : V) (es : List (Bor (List ℕ) × V)) → look k.now (seen es) ≡ None
    → seen (insert_entry (λ a b. bytes_eq a.now b.now) es k v) ≡ declare k.now v (seen es)
declare-seen k v [] h = refl
declare-seen {V} k v (e ∷ es) h = by (bytes_eq k.now e.0.now) h (declare-seen k v es)
  where
    by : (b : Bool) → cond b (Some e.1) (look k.now (seen es)) ≡ None
        → (look k.now (seen es) ≡ None → seen (insert_entry (λ a b. bytes_eq a.now b.now) es k v) ≡ declare k.now v (seen es))
        → seen (cond b ((e.0, v) ∷ es) (e ∷ insert_entry (λ a b. bytes_eq a.now b.now) es k v)) ≡ cond b (seen (e ∷ es)) ((e.0.now, e.1) ∷ declare k.now v (seen es))
    by true h more = let c : Some e.1 ≡ None = h in cc
    by false h more = ap (λ (l : Table V). (e.0.now, e.1) ∷ l) (more h)
