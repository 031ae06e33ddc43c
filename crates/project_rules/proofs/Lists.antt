-- Lists by what stands at their places, and lists seen through a function.
use Rattle.std.proofs.Common.{◌≡◌, ℕ, zero, suc, ◌<◌, List, [], ◌∷◌, length, map, get_or, Some, option_map, inl, inr, refl, ap, ◌∙◌, arith}
use Rattle.std.specs.Prelude.{slice_get, All}
use Rattle.std.proofs.lemmas.Option.{slice_get-get_or, slice_get-map, slice_get_cases}

-- what holds of what stands at each place holds of all
pub all_standing : {X : Type 0} (P : X → Type 0) (xs : List X) → ((i : ℕ) (x : X) → slice_get xs i ≡ Some x → P x) → All P xs
all_standing P xs h = λ k d lt. h k (get_or xs k d) (slice_get-get_or xs k d lt)

-- something stands at each place
pub standing : {X : Type 0} (xs : List X) (i : ℕ) → i < length xs → (x : X) × (slice_get xs i ≡ Some x)
standing xs i lt = elim (slice_get_cases xs i).1 [ inl w ↦ (w.0, w.2) | inr w ↦ absurd (omega (arith, lt, w.0)) ]

pub mapped : {A B : Type 0} (f : A → B) (xs : List A) (i : ℕ) (x : A) → slice_get xs i ≡ Some x → slice_get (map f xs) i ≡ Some (f x)
mapped f xs i x at = slice_get-map f xs i ∙ ap (option_map f) at

pub map_twice : {A B C : Type 0} (f : A → B) (g : B → C) (xs : List A) → map g (map f xs) ≡ map (λ x. g (f x)) xs
map_twice f g [] = refl
map_twice {A} {B} {C} f g (x ∷ xs) = ap (λ (l : List C). g (f x) ∷ l) (map_twice f g xs)

pub from_map : {A B : Type 0} (f : A → B) (xs : List A) (i : ℕ) (y : B) → slice_get (map f xs) i ≡ Some y → (x : A) × (slice_get xs i ≡ Some x) × (f x ≡ y)
from_map f [] i y e = cc
from_map f (x ∷ xs) zero y e = (x, refl, let h : f x ≡ y = cc in h)
from_map f (x ∷ xs) (suc i) y e = from_map f xs i y e
