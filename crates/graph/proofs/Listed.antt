-- Which of the numbers below n stand in a list, and how many don't.
use Rattle.std.proofs.Common.{◌≡◌, ℕ, zero, suc, ◌+◌, ◌<◌, ◌≤◌, ◌⊎◌, inl, inr, Bool, true, false, ◌||◌, nat_eq, List, [], ◌∷◌, ◌++◌, length, take, get_or, refl, sym, ◌∙◌, ap, ap₂, subst, arith, length-append}
use Rattle.std.specs.Prelude.{Contains}
use Rattle.std.proofs.lemmas.Bool.{cases_eq, cases_Bool, cases_lt, eq-eqb, ne_eqb, eqb-true, or_cases, false≢true, true≢false}
use Rattle.std.proofs.Math.Seq.{take-append_seam}
use Rattle.std.proofs.lemmas.List.{get_or-take, length-take, length-take-le, take_more, take-append-le, get_or_default, get_or_push, get_or_append_left, take_all}
use Rattle.graph.specs.Order.{IsNext, IsInOrder}

-- x stands in the list
has : ℕ → List ℕ → Bool
has x [] = false
has x (y ∷ ys) = nat_eq y x || has x ys

contains_tail : (y : ℕ) (ys : List ℕ) (x : ℕ) → Contains ys x → Contains (y ∷ ys) x
contains_tail y ys x h = (suc h.0, omega (arith, h.1), h.2)

has_true : (x : ℕ) (xs : List ℕ) → has x xs ≡ true → Contains xs x
unfolding has
has_true x [] e = absurd (false≢true e)
has_true x (y ∷ ys) e = elim (or_cases (nat_eq y x) (has x ys) e) [
  | inl h ↦ (zero, omega arith, eqb-true y x h)
  | inr h ↦ contains_tail y ys x (has_true x ys h)
]

has_at : (xs : List ℕ) (k x : ℕ) → k < length xs → get_or xs k x ≡ x → has x xs ≡ true
unfolding has
has_at [] k x low e = absurd (omega arith)
has_at (y ∷ ys) zero x low e = rw (eq-eqb y x e) refl
has_at (y ∷ ys) (suc k) x low e = rw (has_at ys k x (omega arith) e) (or_true (nat_eq y x))
  where
    or_true : (b : Bool) → (b || true) ≡ true
    or_true true = refl
    or_true false = refl

has_false : (x : ℕ) (xs : List ℕ) → has x xs ≡ false → Contains xs x → ⊥
has_false x xs e h = true≢false (sym (has_at xs h.0 x h.1 h.2) ∙ e)

-- a number stands in a list or not
pub stands : (xs : List ℕ) (x : ℕ) → Contains xs x ⊎ (Contains xs x → ⊥)
stands xs x = elim (cases_Bool (has x xs)) [ inl e ↦ inl (has_true x xs e) | inr e ↦ inr (has_false x xs e) ]

has_push : (x : ℕ) (xs : List ℕ) (y : ℕ) → has x (xs ++ y ∷ []) ≡ (has x xs || nat_eq y x)
unfolding has
has_push x [] y = or_false (nat_eq y x)
  where
    or_false : (b : Bool) → (b || false) ≡ b
    or_false true = refl
    or_false false = refl
has_push x (z ∷ zs) y = rw (has_push x zs y) (or_assoc (nat_eq z x) (has x zs) (nat_eq y x))
  where
    or_assoc : (a b c : Bool) → (a || (b || c)) ≡ ((a || b) || c)
    or_assoc true b c = refl
    or_assoc false b c = refl

-- one for a number that doesn't stand in the list
absent : Bool → ℕ
absent true = 0
absent false = 1

-- how many of the numbers below n don't stand in the list
missing : ℕ → List ℕ → ℕ
missing zero xs = 0
missing (suc n) xs = missing n xs + absent (has n xs)

missing_none : (n : ℕ) → missing n [] ≡ n
unfolding missing has absent
missing_none zero = refl
missing_none (suc n) = let h = missing_none n in omega (arith, h)

missing_past : (n : ℕ) (xs : List ℕ) (y : ℕ) → n ≤ y → missing n (xs ++ y ∷ []) ≡ missing n xs
unfolding missing absent
missing_past zero xs y h = refl
missing_past (suc n) xs y h =
    let same : has n (xs ++ y ∷ []) ≡ has n xs = has_push n xs y ∙ other (has n xs) (nat_eq y n) (ne_eqb y n (λ e. omega (arith, e, h))) in
    ap₂ (λ a b. a + absent b) (missing_past n xs y (omega (arith, h))) same
  where
    other : (a b : Bool) → b ≡ false → (a || b) ≡ a
    other true b e = refl
    other false b e = e

missing_push : (n : ℕ) (xs : List ℕ) (y : ℕ) → y < n → (Contains xs y → ⊥) → missing n (xs ++ y ∷ []) + 1 ≡ missing n xs
unfolding missing absent
missing_push zero xs y low new = absurd (omega (arith, low))
missing_push (suc n) xs y low new = elim (cases_eq y n) [
  | inl e ↦
      let now : has n (xs ++ y ∷ []) ≡ true = has_push n xs y ∙ with_true (has n xs) (nat_eq y n) (eq-eqb y n e) in
      let before : has n xs ≡ false = fresh n (subst (λ z. Contains xs z → ⊥) e new) in
      let past = missing_past n xs y (omega (arith, e)) in
      rw (now, before) (omega (arith, past))
  | inr e ↦
      let same : has n (xs ++ y ∷ []) ≡ has n xs = has_push n xs y ∙ other (has n xs) (nat_eq y n) (ne_eqb y n e) in
      let less = missing_push n xs y (omega (arith, low, e)) new in
      rw same (omega (arith, less))
]
  where
    with_true : (a b : Bool) → b ≡ true → (a || b) ≡ true
    with_true true b e = refl
    with_true false b e = e

    other : (a b : Bool) → b ≡ false → (a || b) ≡ a
    other true b e = refl
    other false b e = e

    fresh : (z : ℕ) → (Contains xs z → ⊥) → has z xs ≡ false
    fresh z h = elim (cases_Bool (has z xs)) [ inl e ↦ absurd (h (has_true z xs e)) | inr e ↦ e ]

missing_zero : (n : ℕ) (xs : List ℕ) → missing n xs ≡ 0 → (x : ℕ) → x < n → Contains xs x
unfolding missing absent
missing_zero zero xs e x low = absurd (omega (arith, low))
missing_zero (suc n) xs e x low = elim (cases_Bool (has n xs)) [
  | inl h ↦ elim (cases_eq x n) [
    | inl s ↦ subst (Contains xs) (sym s) (has_true n xs h)
    | inr s ↦ missing_zero n xs (omega (arith, e)) x (omega (arith, low, s))
  ]
  | inr h ↦ absurd (let one : absent (has n xs) ≡ 1 = ap absent h in omega (arith, e, one))
]

-- some number that doesn't stand in the list
missing_some : (n : ℕ) (xs : List ℕ) → 0 < missing n xs → (x : ℕ) × (x < n) × (Contains xs x → ⊥)
unfolding missing absent
missing_some zero xs h = absurd (omega (arith, h))
missing_some (suc n) xs h = elim (cases_Bool (has n xs)) [
  | inl e ↦ (let w = missing_some n xs (let none : absent (has n xs) ≡ 0 = ap absent e in omega (arith, h, none)) in (w.0, omega (arith, w.1), w.2))
  | inr e ↦ (n, omega arith, has_false n xs e)
]

missing_all : (n : ℕ) (xs : List ℕ) → ((x : ℕ) → x < n → Contains xs x) → missing n xs ≡ 0
unfolding missing absent
missing_all zero xs h = refl
missing_all (suc n) xs h =
    let less = missing_all n xs (λ x low. h x (omega (arith, low))) in
    let last : has n xs ≡ true = elim (cases_Bool (has n xs)) [ inl e ↦ e | inr e ↦ absurd (has_false n xs e (h n (omega arith))) ] in
    rw last (omega (arith, less))

-- each place of a list in order names one number more
missing_front : (B : ℕ → ℕ → Type 0) (n : ℕ) (xs : List ℕ) → IsInOrder B n xs → (k : ℕ) → k ≤ length xs → missing n (take k xs) + k ≡ n
missing_front B n xs h zero low = let e = missing_none n in omega (arith, e)
missing_front B n xs h (suc k) low =
    let next = h k (omega (arith, low)) in
    let before = missing_front B n xs h k (omega (arith, low)) in
    let less = missing_push n (take k xs) (get_or xs k 0) next.ready.is_one next.ready.is_new in
    let more : take (suc k) xs ≡ take k xs ++ get_or xs k 0 ∷ [] = (let e : suc k ≡ k + 1 = omega arith in ap (λ i. take i xs) e) ∙ take_more xs k 0 (omega (arith, low)) in
    rw more (omega (arith, before, less))

whole_front : {X : Type 0} (xs : List X) → take (length xs) xs ≡ xs
whole_front xs = take_all (length xs) xs (omega arith)

missing_in_order : (B : ℕ → ℕ → Type 0) (n : ℕ) (xs : List ℕ) → IsInOrder B n xs → missing n xs + length xs ≡ n
missing_in_order B n xs h = ap (λ ys. missing n ys + length xs) (sym (whole_front xs)) ∙ missing_front B n xs h (length xs) (omega arith)

-- a list in order that names all has one place for each
pub size_from_whole : (B : ℕ → ℕ → Type 0) (n : ℕ) (xs : List ℕ) → IsInOrder B n xs → ((x : ℕ) → x < n → Contains xs x) → length xs ≡ n
size_from_whole B n xs h whole = let a = missing_in_order B n xs h in let b = missing_all n xs whole in omega (arith, a, b)

-- a list in order with one place for each names all
pub whole_from_size : (B : ℕ → ℕ → Type 0) (n : ℕ) (xs : List ℕ) → IsInOrder B n xs → length xs ≡ n → (x : ℕ) → x < n → Contains xs x
whole_from_size B n xs h e = missing_zero n xs (let a = missing_in_order B n xs h in omega (arith, a, e))

-- a shorter list in order leaves some number out
pub left_out : (B : ℕ → ℕ → Type 0) (n : ℕ) (xs : List ℕ) → IsInOrder B n xs → length xs < n → (x : ℕ) × (x < n) × (Contains xs x → ⊥)
left_out B n xs h low = missing_some n xs (let a = missing_in_order B n xs h in omega (arith, a, low))

-- one place more
pub in_order_push : (B : ℕ → ℕ → Type 0) (n : ℕ) (xs : List ℕ) (x : ℕ) → IsInOrder B n xs → IsNext B n xs x → IsInOrder B n (xs ++ x ∷ [])
in_order_push B n xs x h next place low =
    elim (cases_lt place (length xs)) [
      | inl inside ↦
          let front : take place (xs ++ x ∷ []) ≡ take place xs = take-append-le place xs (x ∷ []) (omega (arith, inside)) in
          let same : get_or (xs ++ x ∷ []) place 0 ≡ get_or xs place 0 = get_or_append_left xs (x ∷ []) 0 place inside in
          rw (front, same) (h place inside)
      | inr past ↦
          let last : place ≡ length xs = (let n = length-append xs (x ∷ []) in omega (arith, low, past, n)) in
          let front : take place (xs ++ x ∷ []) ≡ xs = ap (λ i. take i (xs ++ x ∷ [])) last ∙ take-append_seam xs (x ∷ []) in
          let same : get_or (xs ++ x ∷ []) place 0 ≡ x = get_or_push xs x 0 place (sym last) in
          rw (front, same) next
    ]

-- the place of a number that stands in the list
pub place_of : (xs : List ℕ) (x : ℕ) → Contains xs x → (k : ℕ) × (k < length xs) × (get_or xs k 0 ≡ x)
place_of xs x h = (h.0, h.1, get_or_default xs h.0 0 x h.1 ∙ h.2)

pub contains_at : (xs : List ℕ) (k : ℕ) → k < length xs → Contains xs (get_or xs k 0)
contains_at xs k low = (k, low, get_or_default xs k (get_or xs k 0) 0 low)

-- what stands before a place
pub before_place : (xs : List ℕ) (k x : ℕ) → Contains (take k xs) x → (i : ℕ) × (i < k) × (i < length xs) × (get_or xs i 0 ≡ x)
before_place xs k x h =
    let e = length-take k xs in
    let n : length (take k xs) ≤ k = omega (arith, e) in
    let m : length (take k xs) ≤ length xs = omega (arith, e) in
    (h.0, omega (arith, h.1, n), omega (arith, h.1, m), sym (get_or-take k xs h.0 0 (omega (arith, h.1, n))) ∙ get_or_default (take k xs) h.0 0 x h.1 ∙ h.2)

pub at_before : (xs : List ℕ) (k i : ℕ) → i < k → k ≤ length xs → Contains (take k xs) (get_or xs i 0)
at_before xs k i low fits =
    let n : length (take k xs) ≡ k = length-take-le k xs fits in
    subst (Contains (take k xs)) (get_or-take k xs i 0 low) (contains_at (take k xs) i (omega (arith, n, low)))

-- an order names no number twice
pub apart : (B : ℕ → ℕ → Type 0) (n : ℕ) (xs : List ℕ) → IsInOrder B n xs → (i k : ℕ) → i < k → k < length xs → get_or xs i 0 ≡ get_or xs k 0 → ⊥
apart B n xs h i k low fits e = (h k fits).ready.is_new (subst (Contains (take k xs)) e (at_before xs k i low (omega (arith, fits))))

pub one_place : (B : ℕ → ℕ → Type 0) (n : ℕ) (xs : List ℕ) → IsInOrder B n xs → (i k : ℕ) → i < length xs → k < length xs → get_or xs i 0 ≡ get_or xs k 0 → i ≡ k
one_place B n xs h i k a b e = elim (cases_lt i k) [
  | inl low ↦ absurd (apart B n xs h i k low b e)
  | inr high ↦ elim (cases_eq i k) [
    | inl same ↦ same
    | inr other ↦ absurd (apart B n xs h k i (omega (arith, high, other)) a (sym e))
  ]
]
