-- A walk over the messages that are due takes each of them once.
use Rattle.std.proofs.Common.{◌≡◌, ◌≢◌, inl, inr, ◌⊎◌, ℕ, ◌+◌, ◌-◌, ◌<◌, ◌≤◌, List, length, get_or, set, ℤ, Option, None, Some, Bool, true, false, refl, sym, ◌∙◌, ap, subst, arith}
use Rattle.std.specs.Prelude.{◌==◌, ◌&&◌, if◌then◌else◌, MatchOption, option_copied}
use Rattle.std.proofs.lemmas.Bool.Decides.{nat_tests}
use Rattle.std.proofs.lemmas.Bool.{cases_lt}
use Rattle.std.proofs.lemmas.List.{get_or-set_other}
use Rattle.std.proofs.lemmas.Grind.{get_or-set_at}
use Rattle.agenda.specs.Due.{IsDue, FirstFrom, is_passed}
use Rattle.agenda.proofs.Walking.{none_passed, passes_before, passes_none, less_true, less_false}

both : {X : Type 0} (a b : Bool) (x y : X) → a ≡ true → b ≡ true → (if a && b then x else y) ≡ x
both a b x y ea eb = rw (ea, eb) refl

not_first : {X : Type 0} (a b : Bool) (x y : X) → a ≡ false → (if a && b then x else y) ≡ y
not_first a b x y ea = rw ea refl

not_second : {X : Type 0} (a b : Bool) (x y : X) → b ≡ false → (if a && b then x else y) ≡ y
not_second true b x y eb = rw eb refl
not_second false b x y eb = refl

same_number : (a b : ℕ) → a ≡ b → (a == b) ≡ true
same_number a b e = grind (arith, nat_tests)

other_number : (a b : ℕ) → (a ≡ b → ⊥) → (a == b) ≡ false
other_number a b ne = grind (arith, nat_tests)

number_cases : (a b : ℕ) → (a ≡ b) ⊎ (a ≡ b → ⊥)
number_cases a b = elim (cases_lt a b) [
  | inl lt ↦ inr (λ e. omega arith)
  | inr ge ↦ elim (cases_lt b a) [ inl lt ↦ inr (λ e. omega arith) | inr le ↦ inl (omega arith) ]
]

module _ (due : List ℕ) (number : ℕ) (said old : ℕ → Option (List ℤ)) where
  -- what stands at a place when the walk stands here
  abbrev pub stands : (at : Option ℕ) → (place : ℕ) → Option (List ℤ)
  stands at place = if (get_or due place 0 == number) && is_passed at place then said place else old place

  -- at its start nothing is taken
  pub at_start : (at : Option ℕ) (place : ℕ) → place < length due → FirstFrom due 0 number at → stands at place ≡ old place
  at_start at place lt first = elim (number_cases (get_or due place 0) number) [
    | inl same ↦ not_second (get_or due place 0 == number) (is_passed at place) (said place) (old place) (none_passed due number place at first (record { within = lt; at = same }))
    | inr other ↦ not_first (get_or due place 0 == number) (is_passed at place) (said place) (old place) (other_number _ _ other)
  ]

  -- with one message more
  pub one_more : (words : List (Option (List ℤ))) (thing : ℕ) (next : Option ℕ) (place : ℕ) → place < length due → IsDue due number thing → FirstFrom due (thing + 1) number next
      → thing < length words → get_or words place None ≡ stands (Some thing) place → get_or (set words thing (said thing)) place None ≡ stands next place
  one_more words thing next place lt is first within before = elim (number_cases (get_or due place 0) number) [
    | inl same ↦ (
        let due_here = same_number (get_or due place 0) number same in
        elim (cases_lt place thing) [
          | inl low ↦ (
              get_or-set_other words thing place (said thing) None (λ e. omega (arith, low, e)) ∙ before
              ∙ both (get_or due place 0 == number) (is_passed (Some thing) place) (said place) (old place) due_here (less_true place thing low)
              ∙ sym (both (get_or due place 0 == number) (is_passed next place) (said place) (old place) due_here (passes_before due number thing place next first (omega arith))))
          | inr high ↦ elim (cases_lt thing place) [
            | inl more ↦ (
                get_or-set_other words thing place (said thing) None (λ e. omega (arith, more, e)) ∙ before
                ∙ not_second (get_or due place 0 == number) (is_passed (Some thing) place) (said place) (old place) (less_false place thing (omega arith))
                ∙ sym (not_second (get_or due place 0 == number) (is_passed next place) (said place) (old place) (passes_none due number thing place next first more (record { within = lt; at = same }))))
            | inr here ↦ (
                let e : place ≡ thing = omega arith in
                get_or-set_at words thing place (said thing) None e within ∙ ap said (sym e)
                ∙ sym (both (get_or due place 0 == number) (is_passed next place) (said place) (old place) due_here (passes_before due number thing place next first (omega arith))))
          ]
        ])
    | inr other ↦ (
        let not_due = other_number (get_or due place 0) number other in
        get_or-set_other words thing place (said thing) None (λ e. other (subst (λ n. get_or due n 0 ≡ number) (sym e) is.at)) ∙ before
        ∙ not_first (get_or due place 0 == number) (is_passed (Some thing) place) (said place) (old place) not_due
        ∙ sym (not_first (get_or due place 0 == number) (is_passed next place) (said place) (old place) not_due))
  ]

  -- at its end all that are due are taken
  pub at_end : (place : ℕ) → stands None place ≡ (if get_or due place 0 == number then said place else old place)
  at_end place = elim (get_or due place 0 == number) as (λ b. (if b && true then said place else old place) ≡ (if b then said place else old place)) [ true ↦ refl | false ↦ refl ]
