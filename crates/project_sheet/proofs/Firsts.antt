-- The first place from the least entry of each section, and the least index at which a test passes.
use Rattle.std.proofs.Common.{◌≡◌, ℕ, zero, suc, ◌<◌, ◌≤◌, ◌⊎◌, inl, inr, nat_lt, min, Bool, true, false, not, cond, List, [], ◌∷◌, length, get_or, Option, Some, None, refl, ap, sym, subst, ◌∙◌, arith}
use Rattle.std.specs.List.{position_or_len}
use Rattle.std.proofs.lemmas.Bool.Decides.{nat_tests}
use Rattle.std.proofs.lemmas.List.{length-map}
use Rattle.std.proofs.lemmas.List.Sums.{prefix_len_passes, prefix_len_stops, prefix_len-le-length}
use Rattle.std.specs.Prelude.{position, Result, Ok, Err, IfOk, map}
use Rattle.mars_base.specs.declared.text.Memory.{Memory}
use Rattle.std.proofs.lemmas.Option.{slice_get_within, slice_get-get_or, get_or_from_slice_get}
use Rattle.project_sheet.specs.declared.place.Section.{Section}
use Rattle.project_sheet.specs.declared.place.Section.TheVariants.{Top, Cluster, Task, Transaction, Edge, Sensor, Actuator}
use Rattle.project_sheet.specs.declared.place.Place.{Place}
use Rattle.project_sheet.specs.declared.first.Found.{Found}
use Rattle.project_sheet.specs.First.{number_of, IsFirstPlace, IsLeast, LeastOf, least_of, At, or_place, first_of}

-- the places of the sections from a number on
abbrev pub From : ℕ → (Place → Type 0) → Place → Type 0
From n P p = (n ≤ number_of p.section) × P p

abbrev pub place_at : Section → ℕ → Place
place_at section i = record { section = section; entry = i }

same_section : (n : ℕ) (s : Section) → n ≤ number_of s → (number_of s ≡ n) ⊎ (suc n ≤ number_of s)
same_section n s h = grind arith

-- a section's number tells it
section_at : ℕ → Section
section_at zero = Top
section_at (suc zero) = Cluster
section_at (suc (suc zero)) = Task
section_at (suc (suc (suc zero))) = Transaction
section_at (suc (suc (suc (suc zero)))) = Edge
section_at (suc (suc (suc (suc (suc zero))))) = Sensor
section_at (suc (suc (suc (suc (suc (suc n)))))) = Actuator

back : (s : Section) → section_at (number_of s) ≡ s
unfolding section_at
back Top = refl
back Cluster = refl
back Task = refl
back Transaction = refl
back Edge = refl
back Sensor = refl
back Actuator = refl

same_number : (s t : Section) → number_of s ≡ number_of t → s ≡ t
same_number s t e = sym (back s) ∙ ap section_at e ∙ back t

-- one section more, before those that are done
pub one_section : (P : Place → Type 0) (s : Section) (found : Option ℕ) (later : Option Place)
    → IsLeast (λ i. P (place_at s i)) found → IsFirstPlace (From (suc (number_of s)) P) later → IsFirstPlace (From (number_of s) P) (or_place s found later)
one_section P s None None here rest = λ p h. elim (same_section (number_of s) p.section h.0) [
  | inl same ↦ here.least p.entry (at_section p (same_number p.section s same) h.1)
  | inr more ↦ rest p (more, h.1)
]
  where
    at_section : (p : Place) → p.section ≡ s → P p → P (place_at s p.entry)
    at_section p e h = subst (λ (t : Section). P (place_at t p.entry)) e h
one_section P s None (Some q) here rest = (
  (omega (arith, rest.0.0), rest.0.1),
  λ p h. elim (same_section (number_of s) p.section h.0) [
    | inl same ↦ absurd (here.least p.entry (at_section p (same_number p.section s same) h.1))
    | inr more ↦ rest.1 p (more, h.1)
  ],
)
  where
    at_section : (p : Place) → p.section ≡ s → P p → P (place_at s p.entry)
    at_section p e h = subst (λ (t : Section). P (place_at t p.entry)) e h
one_section P s (Some i) later here rest = (
  (omega arith, here.least.0),
  λ p h. elim (same_section (number_of s) p.section h.0) [
    | inl same ↦ inr (sym (same_number p.section s same), here.least.1 p.entry (at_section p (same_number p.section s same) h.1))
    | inr more ↦ inl more
  ],
)
  where
    at_section : (p : Place) → p.section ≡ s → P p → P (place_at s p.entry)
    at_section p e h = subst (λ (t : Section). P (place_at t p.entry)) e h

none_past : (P : Place → Type 0) → IsFirstPlace (From 7 P) None
none_past P p h = absurd (past p.section h.0)
  where
    past : (s : Section) → 7 ≤ number_of s → ⊥
    past Top h = omega arith
    past Cluster h = omega arith
    past Task h = omega arith
    past Transaction h = omega arith
    past Edge h = omega arith
    past Sensor h = omega arith
    past Actuator h = omega arith

from_zero : (P : Place → Type 0) (r : Option Place) → IsFirstPlace (From 0 P) r → IsFirstPlace P r
from_zero P None h = λ p x. h p (omega arith, x)
from_zero P (Some p) h = (h.0.1, λ q x. h.1 q (omega arith, x))

-- the least entry in each section gives the first place
pub first_found : (P : Place → Type 0) (f : Found)
    → IsLeast (λ i. P (place_at Top i)) f.top → IsLeast (λ i. P (place_at Cluster i)) f.cluster → IsLeast (λ i. P (place_at Task i)) f.task
    → IsLeast (λ i. P (place_at Transaction i)) f.transaction → IsLeast (λ i. P (place_at Edge i)) f.edge
    → IsLeast (λ i. P (place_at Sensor i)) f.sensor → IsLeast (λ i. P (place_at Actuator i)) f.actuator
    → IsFirstPlace P (first_of f)
first_found P f top cluster task transaction edge sensor actuator = from_zero P _
    (one_section P Top f.top _ top (one_section P Cluster f.cluster _ cluster (one_section P Task f.task _ task
    (one_section P Transaction f.transaction _ transaction (one_section P Edge f.edge _ edge (one_section P Sensor f.sensor _ sensor
    (one_section P Actuator f.actuator None actuator (none_past P))))))))

-- where no part of a section is looked at
pub nothing : IsLeast (λ i. ⊥) None
nothing = record { least = λ i h. h }

le_or_lt : (m n : ℕ) → (m ≤ n) ⊎ (n < m)
le_or_lt m n = grind arith

from_not : (b : Bool) → not b ≡ false → b ≡ true
from_not true e = refl
from_not false e = cc

not_both : (b : Bool) → b ≡ true → not b ≡ true → ⊥
not_both true p q = cc
not_both false p q = cc

before : {X : Type 0} (test : X → Bool) (xs : List X) (i : ℕ) → At test xs i → position_or_len test xs ≤ i
before {X} test xs i a = elim (le_or_lt (position_or_len test xs) i) [
  | inl h ↦ h
  | inr h ↦ absurd (not_both (test a.it) a.passes
      (ap (λ (x : X). not (test x)) (sym (get_or_from_slice_get xs i a.it a.it a.stands)) ∙ prefix_len_passes (λ x. not (test x)) xs i a.it h))
]

at_stop : {X : Type 0} (test : X → Bool) (xs : List X) (d : X) → position_or_len test xs < length xs → At test xs (position_or_len test xs)
at_stop test xs d lt = record {
  it = get_or xs (position_or_len test xs) d;
  stands = slice_get-get_or xs (position_or_len test xs) d lt;
  passes = from_not _ (prefix_len_stops (λ x. not (test x)) xs d lt);
}

by_test : {X : Type 0} (test : X → Bool) (xs : List X) (d : X) (b : Bool) → nat_lt (position_or_len test xs) (length xs) ≡ b
    → LeastOf (At test xs) (cond b (Some (position_or_len test xs)) None)
by_test test xs d true e = (at_stop test xs d (grind (arith, nat_tests)), λ j a. before test xs j a)
by_test test xs d false e = λ i a. omega (arith, before test xs i a, slice_get_within xs i a.it a.stands, past (position_or_len test xs) (length xs) e)
  where
    past : (m n : ℕ) → nat_lt m n ≡ false → n ≤ m
    past m n e = grind (arith, nat_tests)

antisym : (n m : ℕ) → nat_lt m n ≡ false → m ≤ n → n ≡ m
antisym n m e h = grind (arith, nat_tests)

-- `position` gives the least index at which the test passes
pub position_least : {X : Type 0} (test : X → Bool) (xs : List X) → IsLeast (At test xs) (position test xs)
position_least test [] = record { least = λ i a. let e : None ≡ Some a.it = a.stands in cc }
position_least test (x ∷ xs) = record { least = by_test test (x ∷ xs) x _ refl }

pub least_at : {X : Type 0} (test : X → Bool) (xs : List X) (r : Option ℕ) → r ≡ position test xs → IsLeast (At test xs) r
least_at test xs r e = subst (IsLeast (At test xs)) (sym e) (position_least test xs)

-- what `first_place` answers is the first place
pub ok_first : (P : Place → Type 0) (f : Found) (r : Result (Option Place) Memory) → IfOk r (λ place. place ≡ first_of f)
    → IsFirstPlace P (first_of f) → IfOk r (IsFirstPlace P)
ok_first P f (Ok place) is h = subst (IsFirstPlace P) (sym is) h
ok_first P f (Err e) is h = tt

-- a test over a list that is seen through a function
pub position_map : {A B : Type 0} (f : A → B) (test : B → Bool) (xs : List A) → position (λ x. test (f x)) xs ≡ position test (map f xs)
position_map f test xs = rw (len f test xs, length-map xs f)
  where
    len : {A B : Type 0} (f : A → B) (test : B → Bool) (xs : List A) → position_or_len (λ x. test (f x)) xs ≡ position_or_len test (map f xs)
    len f test [] = refl
    len f test (x ∷ xs) = rw (len f test xs)

pub position_none : {X : Type 0} (test : X → Bool) (xs : List X) → position test xs ≡ None → length xs ≡ position_or_len test xs
position_none test xs e = by (nat_lt (position_or_len test xs) (length xs)) refl (e)
  where
    by : (b : Bool) → nat_lt (position_or_len test xs) (length xs) ≡ b → cond b (Some (position_or_len test xs)) None ≡ None → length xs ≡ position_or_len test xs
    by true t h = cc
    by false t h = antisym (length xs) (position_or_len test xs) t (prefix_len-le-length (λ x. not (test x)) xs)

-- what `first_place` answers is the first place, where each part of `Found` has the least entry of its section
pub found_ok : (P : Place → Type 0) (f : Found)
    → IsLeast (λ i. P (place_at Top i)) f.top → IsLeast (λ i. P (place_at Cluster i)) f.cluster → IsLeast (λ i. P (place_at Task i)) f.task
    → IsLeast (λ i. P (place_at Transaction i)) f.transaction → IsLeast (λ i. P (place_at Edge i)) f.edge
    → IsLeast (λ i. P (place_at Sensor i)) f.sensor → IsLeast (λ i. P (place_at Actuator i)) f.actuator
    → (r : Result (Option Place) Memory) → IfOk r (λ place. place ≡ first_of f) → IfOk r (IsFirstPlace P)
found_ok P f top cluster task transaction edge sensor actuator r is = ok_first P f r is (first_found P f top cluster task transaction edge sensor actuator)

-- the least number at which one of two things holds
pub either : {P Q : ℕ → Type 0} (a b : Option ℕ) → IsLeast P a → IsLeast Q b → IsLeast (λ i. P i ⊎ Q i) (least_of a b)
either None None p q = record { least = λ i h. elim h [ inl x ↦ p.least i x | inr y ↦ q.least i y ] }
either None (Some j) p q = record { least = (inr q.least.0, λ i h. elim h [ inl x ↦ absurd (p.least i x) | inr y ↦ q.least.1 i y ]) }
either (Some i) None p q = record { least = (inl p.least.0, λ k h. elim h [ inl x ↦ p.least.1 k x | inr y ↦ absurd (q.least k y) ]) }
either {P} {Q} (Some i) (Some j) p q = record {
  least = (
    by (i_or_j i j),
    λ k h. elim h [
      | inl x ↦ omega (arith, p.least.1 k x)
      | inr y ↦ omega (arith, q.least.1 k y)
    ],
  );
}
  where
    i_or_j : (i j : ℕ) → (i ≡ min i j) ⊎ (j ≡ min i j)
    i_or_j i j = grind arith

    by : (i ≡ min i j) ⊎ (j ≡ min i j) → P (min i j) ⊎ Q (min i j)
    by (inl e) = inl (subst P e p.least.0)
    by (inr e) = inr (subst Q e q.least.0)

pub either_at : {P Q : ℕ → Type 0} (a b r : Option ℕ) → r ≡ least_of a b → IsLeast P a → IsLeast Q b → IsLeast (λ i. P i ⊎ Q i) r
either_at a b r e p q = subst (IsLeast _) (sym e) (either a b p q)
