-- Entries with the same names as others have their form, and differ, as those do.
use Rattle.std.proofs.Common.{◌≡◌, ℕ, List, [], ◌∷◌, map, Some, option_map, sym, ◌∙◌, ap, subst}
use Rattle.std.specs.Prelude.{slice_get, Any}
use Rattle.std.proofs.lemmas.Option.{slice_get_within, slice_get-get_or, slice_get-map, get_or_from_slice_get}
use Rattle.mars_base.specs.Name.{IsName}
use Rattle.graph.specs.Name.{Differ, AreNames}
use Rattle.graph.proofs.Entries.{All_at}
use Rattle.project_rules.proofs.Lists.{all_standing, from_map}

-- where the names are the same, each entry has its fellow
fellow : {A B : Type 0} (f : A → List ℕ) (g : B → List ℕ) (xs : List A) (ys : List B) → map g ys ≡ map f xs → (i : ℕ) (y : B) → slice_get ys i ≡ Some y → (x : A) × (slice_get xs i ≡ Some x) × (f x ≡ g y)
fellow f g xs ys same i y at =
    let here : slice_get (map f xs) i ≡ Some (g y) = ap (λ (l : List (List ℕ)). slice_get l i) (sym same) ∙ slice_get-map g ys i ∙ ap (option_map g) at in
    from_map f xs i (g y) here

differ_as : {A B : Type 0} (f : A → List ℕ) (g : B → List ℕ) (xs : List A) (ys : List B) → map g ys ≡ map f xs → Differ f xs → Differ g ys
differ_as f g xs [] same d = tt
differ_as f g [] (y ∷ ys) same d = let e : g y ∷ map g ys ≡ [] = same in cc
differ_as {A} {B} f g (x ∷ xs) (y ∷ ys) same d =
    let e : g y ∷ map g ys ≡ f x ∷ map f xs = same in
    let head : g y ≡ f x = cc in
    let tail : map g ys ≡ map f xs = cc in
    (apart head tail, differ_as f g xs ys tail d.1)
  where
    apart : g y ≡ f x → map g ys ≡ map f xs → Any (λ (z : B). g z ≡ g y) ys → ⊥
    apart head tail (k, z, lt, at, is) =
        let there : slice_get ys k ≡ Some z = slice_get-get_or ys k z lt ∙ ap (λ (w : B). Some w) at in
        let (w, stands, named) = fellow f g xs ys tail k z there in
        d.0 (k, w, slice_get_within xs k w stands, get_or_from_slice_get xs k w w stands, named ∙ is ∙ head)

pub names_as : {A B : Type 0} (f : A → List ℕ) (g : B → List ℕ) (xs : List A) (ys : List B) → map g ys ≡ map f xs → AreNames f xs → AreNames g ys
names_as {A} {B} f g xs ys same names = record {
  form = all_standing (λ (y : B). IsName (g y)) ys (λ i y at. (let (x, stands, named) = fellow f g xs ys same i y at in subst IsName named (All_at (λ (z : A). IsName (f z)) xs i x names.form stands)));
  differ = differ_as f g xs ys same names.differ;
}
