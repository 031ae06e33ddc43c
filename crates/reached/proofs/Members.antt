-- Members of lists, of rows and of choices.
use Rattle.std.proofs.Common.{◌≡◌, ℕ, zero, suc, ◌<◌, ◌≤◌, ◌⊎◌, inl, inr, Bool, true, false, leb, if◌then◌else◌, List, [], ◌∷◌, ◌++◌, length, Option, Some, None, slice_get, refl, ap, ◌∙◌, arith}
use Rattle.decisions.specs.declared.problem.Problem.{Problem}
use Rattle.decisions.specs.Decision.{Decision}
use Rattle.decisions.specs.Place.{place}
use Rattle.decisions.specs.Choices.{is_ready, is_allowed, put_by_end, put_some, row_of, starts_by, put_by_start, by_start, choices_for, choices}

-- x stands in the list
abbrev pub In : {A : Type 0} → List A → A → Type 0
In xs x = (i : ℕ) × (slice_get xs i ≡ Some x)

pub in_cons : {A : Type 0} (y : A) (ys : List A) (x : A) → In (y ∷ ys) x → (y ≡ x) ⊎ In ys x
in_cons y ys x (zero, h) = inl (cc)
in_cons y ys x (suc i, h) = inr (i, h)

pub in_append : {A : Type 0} (a b : List A) (x : A) → In (a ++ b) x → In a x ⊎ In b x
in_append [] b x h = inr h
in_append (y ∷ a) b x (zero, h) = inl (0, h)
in_append (y ∷ a) b x (suc i, h) = elim (in_append a b x (i, h)) [ inl g ↦ inl (suc g.0, g.1) | inr g ↦ inr g ]

pub in_nothing : {A : Type 0} (x : A) → In [] x → ⊥
in_nothing x h = let e : None ≡ Some x = h.1 in cc

pub in_left : {A : Type 0} (a b : List A) (x : A) → In a x → In (a ++ b) x
in_left [] b x h = absurd (in_nothing x h)
in_left (y ∷ a) b x (zero, h) = (0, h)
in_left (y ∷ a) b x (suc i, h) = let g = in_left a b x (i, h) in (suc g.0, g.1)

pub in_right : {A : Type 0} (a b : List A) (x : A) → In b x → In (a ++ b) x
in_right [] b x h = h
in_right (y ∷ a) b x h = let g = in_right a b x h in (suc g.0, g.1)

pub in_one : {A : Type 0} (y x : A) → In (y ∷ []) x → y ≡ x
in_one y x h = elim (in_cons y [] x h) [ inl e ↦ e | inr g ↦ absurd (in_nothing x g) ]

in_put_by : (d e : Decision) (row : List Decision) (x : Decision) (b : Bool) → (In (put_by_end d row) x → (d ≡ x) ⊎ In row x) → In (if b then e ∷ put_by_end d row else d ∷ e ∷ row) x → (d ≡ x) ⊎ In (e ∷ row) x
in_put_by d e row x true h g = elim (in_cons e (put_by_end d row) x g) [
  | inl i ↦ inr (0, ap Some i)
  | inr i ↦ elim (h i) [ inl j ↦ inl j | inr j ↦ inr (suc j.0, j.1) ]
]
in_put_by d e row x false h g = in_cons d (e ∷ row) x g

in_put : (d : Decision) (row : List Decision) (x : Decision) → In (put_by_end d row) x → (d ≡ x) ⊎ In row x
in_put d [] x h = in_cons d [] x h
in_put d (e ∷ row) x h = in_put_by d e row x (leb e.end d.end) (in_put d row x) h

in_put_some : (o : Option Decision) (row : List Decision) (x : Decision) → In (put_some o row) x → (o ≡ Some x) ⊎ In row x
in_put_some None row x h = inr h
in_put_some (Some d) row x h = elim (in_put d row x h) [ inl e ↦ inl (ap Some e) | inr g ↦ inr g ]

-- a decision in the row of a job
pub record IsInRow (pr : Problem) (l : List Decision) (job n : ℕ) (d : Decision) : Type 0 where
  pub unit : ℕ
  pub below : unit < n
  pub allowed : is_allowed pr l job unit ≡ true
  pub placed : place pr l job unit ≡ Some d

if_some : (b : Bool) (o : Option Decision) (d : Decision) → (if b then o else None) ≡ Some d → (b ≡ true) × (o ≡ Some d)
if_some true o d h = (refl, h)
if_some false o d h = absurd (cc)

pub in_row : (pr : Problem) (l : List Decision) (job n : ℕ) (d : Decision) → In (row_of pr l job n) d → IsInRow pr l job n d
in_row pr l job zero d h = absurd (in_nothing d h)
in_row pr l job (suc unit) d h = elim (in_put_some (if is_allowed pr l job unit then place pr l job unit else None) (row_of pr l job unit) d h) [
  | inl e ↦ (let g = if_some (is_allowed pr l job unit) (place pr l job unit) d e in record { unit = unit; below = omega arith; allowed = g.0; placed = g.1 })
  | inr g ↦ (let r = in_row pr l job unit d g in record { unit = r.unit; below = omega (arith, r.below); allowed = r.allowed; placed = r.placed })
]

in_put_start_by : (pr : Problem) (job other : ℕ) (jobs : List ℕ) (x : ℕ) (b : Bool) → (In (put_by_start pr job jobs) x → (job ≡ x) ⊎ In jobs x) → In (if b then other ∷ put_by_start pr job jobs else job ∷ other ∷ jobs) x → (job ≡ x) ⊎ In (other ∷ jobs) x
in_put_start_by pr job other jobs x true h g = elim (in_cons other (put_by_start pr job jobs) x g) [
  | inl i ↦ inr (0, ap Some i)
  | inr i ↦ elim (h i) [ inl j ↦ inl j | inr j ↦ inr (suc j.0, j.1) ]
]
in_put_start_by pr job other jobs x false h g = in_cons job (other ∷ jobs) x g

in_put_start : (pr : Problem) (job : ℕ) (jobs : List ℕ) (x : ℕ) → In (put_by_start pr job jobs) x → (job ≡ x) ⊎ In jobs x
in_put_start pr job [] x h = in_cons job [] x h
in_put_start pr job (other ∷ jobs) x h = in_put_start_by pr job other jobs x (starts_by pr other job) (in_put_start pr job jobs x) h

pub in_order : (pr : Problem) (n x : ℕ) → In (by_start pr n) x → x < n
unfolding by_start
in_order pr zero x h = absurd (in_nothing x h)
in_order pr (suc n) x h = elim (in_put_start pr n (by_start pr n) x h) [ inl e ↦ omega (arith, e) | inr g ↦ (let r = in_order pr n x g in omega arith) ]

put_start_length_by : (pr : Problem) (job other : ℕ) (jobs : List ℕ) (b : Bool) → length (put_by_start pr job jobs) ≡ suc (length jobs) → length (if b then other ∷ put_by_start pr job jobs else job ∷ other ∷ jobs) ≡ suc (suc (length jobs))
put_start_length_by pr job other jobs true h = ap suc h
put_start_length_by pr job other jobs false h = refl

put_start_length : (pr : Problem) (job : ℕ) (jobs : List ℕ) → length (put_by_start pr job jobs) ≡ suc (length jobs)
put_start_length pr job [] = refl
put_start_length pr job (other ∷ jobs) = put_start_length_by pr job other jobs (starts_by pr other job) (put_start_length pr job jobs)

-- each job stands once in the order
pub order_length : (pr : Problem) (n : ℕ) → length (by_start pr n) ≡ n
unfolding by_start
order_length pr zero = refl
order_length pr (suc n) = put_start_length pr n (by_start pr n) ∙ ap suc (order_length pr n)

-- a decision among the choices
pub record IsChosen (pr : Problem) (l : List Decision) (d : Decision) : Type 0 where
  pub job : ℕ
  pub is_job : job < length pr.works
  pub ready : is_ready pr l job ≡ true
  pub row : IsInRow pr l job pr.round.units d

in_if : (b : Bool) (row : List Decision) (d : Decision) → In (if b then row else []) d → (b ≡ true) × In row d
in_if true row d h = (refl, h)
in_if false row d h = absurd (in_nothing d h)

in_choices : (pr : Problem) (l : List Decision) (jobs : List ℕ) (d : Decision) → ((x : ℕ) → In jobs x → x < length pr.works) → In (choices_for pr l jobs) d → IsChosen pr l d
in_choices pr l [] d few h = absurd (in_nothing d h)
in_choices pr l (job ∷ jobs) d few h = elim (in_append (if is_ready pr l job then row_of pr l job pr.round.units else []) (choices_for pr l jobs) d h) [
  | inl g ↦ (let r = in_if (is_ready pr l job) (row_of pr l job pr.round.units) d g in
      record { job = job; is_job = few job (0, refl); ready = r.0; row = in_row pr l job pr.round.units d r.1 })
  | inr g ↦ in_choices pr l jobs d (λ x i. few x (suc i.0, i.1)) g
]

pub chosen : (pr : Problem) (l : List Decision) (d : Decision) → In (choices pr l) d → IsChosen pr l d
unfolding choices
chosen pr l d h = in_choices pr l (by_start pr (length pr.works)) d (in_order pr (length pr.works)) h

put_length_by : (d e : Decision) (row : List Decision) (b : Bool) → length (put_by_end d row) ≡ suc (length row) → length (if b then e ∷ put_by_end d row else d ∷ e ∷ row) ≡ suc (suc (length row))
put_length_by d e row true h = ap suc h
put_length_by d e row false h = refl

put_length : (d : Decision) (row : List Decision) → length (put_by_end d row) ≡ suc (length row)
put_length d [] = refl
put_length d (e ∷ row) = put_length_by d e row (leb e.end d.end) (put_length d row)

put_some_length : (o : Option Decision) (row : List Decision) → length (put_some o row) ≤ suc (length row)
put_some_length None row = omega arith
put_some_length (Some d) row = omega (arith, put_length d row)

pub row_few : (pr : Problem) (l : List Decision) (job n : ℕ) → length (row_of pr l job n) ≤ n
row_few pr l job zero = omega arith
row_few pr l job (suc unit) = omega (arith, row_few pr l job unit, put_some_length (if is_allowed pr l job unit then place pr l job unit else None) (row_of pr l job unit))
