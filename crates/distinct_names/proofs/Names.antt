-- Names that stand twice.
use Rattle.std.proofs.Common.{◌≡◌, ℕ, zero, suc, ◌+◌, ◌<◌, ◌≤◌, ◌⊎◌, inl, inr, Bool, true, false, not, ◌||◌, List, [], ◌∷◌, ◌++◌, length, map, take, get_or, Some, None, option_map, Bor, refl, ap, sym, subst, ◌∙◌, arith}
use Rattle.std.specs.Prelude.{slice_get, bytes_eq, Any}
use Rattle.std.specs.List.{list_any}
use Rattle.std.proofs.lemmas.List.{take_more}
use Rattle.std.proofs.lemmas.Option.{slice_get_within, slice_get-get_or, slice_get-map, get_or_from_slice_get}
use Rattle.std.proofs.lemmas.Map.Keys.{any_passes_from_place}
use Rattle.std.proofs.lemmas.Slice.Eq.{bytes_eq-Decides}
use Rattle.distinct_names.specs.Repeats.{Repeats, IsFirstRepeat}

-- a test over a list that is seen through a function
any_map : {A B : Type 0} (f : A → B) (test : B → Bool) (xs : List A) → list_any (λ x. test (f x)) xs ≡ list_any test (map f xs)
any_map f test [] = refl
any_map f test (x ∷ xs) = ap (λ b. test (f x) || b) (any_map f test xs)

-- where a test passes
pub any_place : {K : Type 0} (test : K → Bool) (ks : List K) → list_any test ks ≡ true → (i : ℕ) × (k : K) × (slice_get ks i ≡ Some k) × (test k ≡ true)
any_place test [] e = cc
any_place {K} test (k ∷ ks) e = by (test k) refl e (any_place test ks)
  where
    by : (b : Bool) → test k ≡ b → (b || list_any test ks) ≡ true
        → (list_any test ks ≡ true → (i : ℕ) × (x : K) × (slice_get ks i ≡ Some x) × (test x ≡ true))
        → (i : ℕ) × (x : K) × (slice_get (k ∷ ks) i ≡ Some x) × (test x ≡ true)
    by true t h more = (0, k, refl, t)
    by false t h more = let (i, x, at, p) = more h in (suc i, x, at, p)

take_get : {K : Type 0} (xs : List K) (n i : ℕ) (x : K) → slice_get (take n xs) i ≡ Some x → (i < n) × (slice_get xs i ≡ Some x)
take_get xs zero i x e = let h : None ≡ Some x = e in cc
take_get [] (suc n) i x e = let h : None ≡ Some x = e in cc
take_get (y ∷ xs) (suc n) zero x e = (omega arith, e)
take_get (y ∷ xs) (suc n) (suc i) x e = let (lt, at) = take_get xs n i x e in (omega arith, at)

get_take : {K : Type 0} (xs : List K) (n i : ℕ) (x : K) → i < n → slice_get xs i ≡ Some x → slice_get (take n xs) i ≡ Some x
get_take xs zero i x lt e = absurd (omega arith)
get_take [] (suc n) i x lt e = e
get_take (y ∷ xs) (suc n) zero x lt e = e
get_take (y ∷ xs) (suc n) (suc i) x lt e = get_take xs n i x (omega arith) e

pub same_bytes : (x y : List ℕ) → bytes_eq x y ≡ true → x ≡ y
same_bytes x y e = grind (arith, bytes_eq-Decides x y)

itself : (x : List ℕ) → bytes_eq x x ≡ true
itself x = grind (arith, bytes_eq-Decides x x)

pub repeat_here : (names : List (List ℕ)) (i : ℕ) (name : List ℕ) → slice_get names i ≡ Some name → list_any (bytes_eq name) (take i names) ≡ true → Repeats names i
repeat_here names i name at e =
    let (j, k, there, same) = any_place (bytes_eq name) (take i names) e in
    let (lt, old) = take_get names i j k there in
    record { name = name; stands = at; earlier = j; before = lt; same = old ∙ ap (λ (x : List ℕ). Some x) (sym (same_bytes name k same)) }

pub no_repeat_here : (names : List (List ℕ)) (i : ℕ) (name : List ℕ) → slice_get names i ≡ Some name → list_any (bytes_eq name) (take i names) ≡ false → Repeats names i → ⊥
no_repeat_here names i name at e r =
    let one : Some r.name ≡ Some name = sym r.stands ∙ at in
    let same : r.name ≡ name = cc in
    let there : slice_get (take i names) r.earlier ≡ Some name = get_take names i r.earlier name r.before (r.same ∙ one) in
    let yes : list_any (bytes_eq name) (take i names) ≡ true = any_passes_from_place (bytes_eq name) (take i names) r.earlier name there (itself name) in
    cc

-- what `note` looks through
pub seen_names : (keys : List (Bor (List ℕ))) (names : List (List ℕ)) (i : ℕ) (name : List ℕ) → map (λ (k : Bor (List ℕ)). k.now) keys ≡ take i names
    → list_any (λ (k : Bor (List ℕ)). bytes_eq name k.now) keys ≡ list_any (bytes_eq name) (take i names)
seen_names keys names i name seen = any_map (λ (k : Bor (List ℕ)). k.now) (bytes_eq name) keys ∙ ap (list_any (bytes_eq name)) seen

-- one more name is new
pub fresh_more : (names : List (List ℕ)) (i : ℕ) → ((j : ℕ) → j < i → Repeats names j → ⊥) → (Repeats names i → ⊥) → (j : ℕ) → j < i + 1 → Repeats names j → ⊥
fresh_more names i old here j lt r = elim (below_or j lt) [ inl h ↦ old j h r | inr e ↦ here (subst (Repeats names) e r) ]
  where
    below_or : (j : ℕ) → j < i + 1 → (j < i) ⊎ (j ≡ i)
    below_or j lt = grind arith

pub names_more : (names : List (List ℕ)) (i : ℕ) (name : List ℕ) (old new : List (List ℕ)) → slice_get names i ≡ Some name → old ≡ take i names → new ≡ old ++ name ∷ [] → new ≡ take (i + 1) names
names_more names i name old new at so more =
    let lt : i < length names = slice_get_within names i name at in
    more ∙ ap (λ (l : List (List ℕ)). l ++ name ∷ []) so ∙ sym (take_more names i name lt ∙ ap (λ (x : List ℕ). take i names ++ x ∷ []) (get_or_from_slice_get names i name name at))

pub first_at : (names : List (List ℕ)) (i : ℕ) → ((j : ℕ) → j < i → Repeats names j → ⊥) → Repeats names i → IsFirstRepeat names (Some i)
first_at names i old here = (here, λ j r. elim (lt_or_le j i) [ inl lt ↦ absurd (old j lt r) | inr le ↦ le ])
  where
    lt_or_le : (j i : ℕ) → (j < i) ⊎ (i ≤ j)
    lt_or_le j i = grind arith

pub none_at : (names : List (List ℕ)) (n : ℕ) → length names ≤ n → ((j : ℕ) → j < n → Repeats names j → ⊥) → IsFirstRepeat names None
none_at names n le old = λ j r. old j (omega (arith, slice_get_within names j r.name r.stands)) r

pub name_at : {X : Type 0} (f : X → List ℕ) (xs : List X) (i : ℕ) (x : X) (name : List ℕ) → i < length xs → x ≡ get_or xs i x → name ≡ f x → slice_get (map f xs) i ≡ Some name
name_at {X} f xs i x name lt is named =
    slice_get-map f xs i ∙ ap (option_map f) (slice_get-get_or xs i x lt) ∙ ap (λ (y : X). Some (f y)) (sym is) ∙ ap (λ (n : List ℕ). Some n) (sym named)

-- what the answer of `note` says of its test
pub from_not : (a b : Bool) → a ≡ not b → a ≡ true → b ≡ false
from_not a true e h = cc
from_not a false e h = refl

pub from_not_false : (a b : Bool) → a ≡ not b → a ≡ false → b ≡ true
from_not_false a true e h = refl
from_not_false a false e h = cc

-- names of which none repeats an earlier one: each differs from all after it
pub apart_from_rest : {X : Type 0} (f : X → List ℕ) (x : X) (xs : List X) → ((i : ℕ) → Repeats (map f (x ∷ xs)) i → ⊥)
    → (Any (λ (y : X). f y ≡ f x) xs → ⊥) × ((i : ℕ) → Repeats (map f xs) i → ⊥)
apart_from_rest {X} f x xs none = (
  λ w. none (suc w.0) (record { name = f x; stands = at w.0 w.1 w.2 w.3 w.4; earlier = 0; before = omega arith; same = refl }),
  λ i r. none (suc i) (record { name = r.name; stands = r.stands; earlier = suc r.earlier; before = omega (arith, r.before); same = r.same }),
)
  where
    at : (k : ℕ) (y : X) → k < length xs → get_or xs k y ≡ y → f y ≡ f x → slice_get (map f xs) k ≡ Some (f x)
    at k y lt is same = slice_get-map f xs k ∙ ap (option_map f) (slice_get-get_or xs k y lt) ∙ ap (λ (z : X). Some (f z)) is ∙ ap (λ (n : List ℕ). Some n) same

-- a name that stands before: it's the first's, or it repeats one of the rest
pub repeat_in_rest : {X : Type 0} (f : X → List ℕ) (x : X) (xs : List X) (i : ℕ) → Repeats (map f (x ∷ xs)) i
    → (Any (λ (y : X). f y ≡ f x) xs) ⊎ ((k : ℕ) × Repeats (map f xs) k)
repeat_in_rest {X} f x xs zero r = absurd (omega (arith, r.before))
repeat_in_rest {X} f x xs (suc i) r = by r.earlier r.before r.same
  where
    there : (names : List X) (k : ℕ) (n : List ℕ) → slice_get (map f names) k ≡ Some n → (y : X) × (slice_get names k ≡ Some y) × (f y ≡ n)
    there [] k n e = let h : None ≡ Some n = e in cc
    there (y ∷ ys) zero n e = let h : Some (f y) ≡ Some n = e in (y, refl, cc)
    there (y ∷ ys) (suc k) n e = there ys k n e

    by : (j : ℕ) → j < suc i → slice_get (map f (x ∷ xs)) j ≡ Some r.name → (Any (λ (y : X). f y ≡ f x) xs) ⊎ ((k : ℕ) × Repeats (map f xs) k)
    by zero lt same =
        let (y, at, is) = there xs i r.name r.stands in
        let first : Some (f x) ≡ Some r.name = same in
        let one : f y ≡ f x = cc in
        inl (i, y, slice_get_within xs i y at, get_or_from_slice_get xs i y y at, one)
    by (suc j) lt same = inr (i, record { name = r.name; stands = r.stands; earlier = j; before = omega (arith, lt); same = same })
