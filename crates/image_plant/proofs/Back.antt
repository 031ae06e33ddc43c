-- Lists whose entries come back.
use Rattle.std.proofs.Common.{◌≡◌, List, [], ◌∷◌, map, All, refl, ◌∙◌, ap}
use Rattle.std.proofs.lemmas.List.Elements.{All-cons, All-head, All-nil, All-tail}

-- a list comes back where each of its entries does
pub map_back : {A B : Type 0} (f : A → B) (g : B → A) (xs : List A) → All (λ x. g (f x) ≡ x) xs → map g (map f xs) ≡ xs
map_back f g [] all = refl
map_back {A = A} f g (x ∷ xs) all =
    ap (λ (y : A). y ∷ map g (map f xs)) (All-head (λ y. g (f y) ≡ y) x xs all)
    ∙ ap (λ (ys : List A). x ∷ ys) (map_back f g xs (All-tail (λ y. g (f y) ≡ y) x xs all))

-- what holds of each entry of a mapped list holds of what it is made of
pub All-unmap : {A B : Type 0} (P : B → Type 0) (f : A → B) (xs : List A) → All P (map f xs) → All (λ x. P (f x)) xs
All-unmap P f [] all = All-nil (λ y. P (f y))
All-unmap P f (x ∷ xs) all = All-cons (λ y. P (f y)) x xs (All-head P (f x) (map f xs) all) (All-unmap P f xs (All-tail P (f x) (map f xs) all))
