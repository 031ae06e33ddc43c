-- Names of a section differ exactly where none repeats an earlier one.
use Rattle.std.proofs.Common.{◌≡◌, ◌↔◌, ℕ, Bool, true, false, List, [], ◌∷◌, map, Option, Some, None, inl, inr, refl}
use Rattle.std.specs.Prelude.{IsTrue, is_some, not}
use Rattle.std.proofs.lemmas.Bool.{false≢true}
use Rattle.distinct_names.specs.Repeats.{Repeats, IsFirstRepeat}
use Rattle.distinct_names.proofs.Names.{apart_from_rest, repeat_in_rest}
use Rattle.graph.specs.Name.{Differ}

-- names of which none repeats an earlier one differ
pub differ_if : {X : Type 0} (f : X → List ℕ) (xs : List X) → ((i : ℕ) → Repeats (map f xs) i → ⊥) → Differ f xs
differ_if f [] none = tt
differ_if f (x ∷ xs) none = let w = apart_from_rest f x xs none in (w.0, differ_if f xs w.1)

repeat_not : {X : Type 0} (f : X → List ℕ) (xs : List X) (i : ℕ) → Repeats (map f xs) i → Differ f xs → ⊥
repeat_not f [] i r d = let e : None ≡ Some r.name = r.stands in cc
repeat_not f (x ∷ xs) i r d = elim (repeat_in_rest f x xs i r) [ inl w ↦ d.0 w | inr k ↦ repeat_not f xs k.0 k.1 d.1 ]

-- no first repeat, exactly where the names differ
pub differ_answer : {X : Type 0} (f : X → List ℕ) (xs : List X) (r : Option ℕ) (b : Bool) → IsFirstRepeat (map f xs) r → is_some r ≡ not b → IsTrue b ↔ Differ f xs
differ_answer f xs None true h e = (λ t. differ_if f xs h, λ d. refl)
differ_answer f xs None false h e = cc
differ_answer f xs (Some i) true h e = cc
differ_answer f xs (Some i) false h e = (λ t. absurd (false≢true t), λ d. absurd (repeat_not f xs i h.0 d))
