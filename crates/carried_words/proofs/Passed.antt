-- What a walk over the things that are due knows of each place that it has passed.
use Rattle.std.proofs.Common.{◌≡◌, inl, inr, ℕ, ◌+◌, ◌<◌, List, length, get_or, Option, Some, true, sym, ◌∙◌, subst, arith}
use Rattle.std.proofs.lemmas.Bool.{cases_eq, cases_lt, true≢false}
use Rattle.agenda.specs.Due.{FirstFrom, is_passed}
use Rattle.agenda.proofs.Walking.{none_passed, passes_none, less_true}

module _ (due : List ℕ) (number : ℕ) (P : ℕ → Type 0) (other : (place : ℕ) → place < length due → (get_or due place 0 ≡ number → ⊥) → P place) where
  -- at its start it has passed only things that aren't due
  pub passed_first : (at : Option ℕ) → FirstFrom due 0 number at → (place : ℕ) → place < length due → is_passed at place ≡ true → P place
  passed_first at first place low gone = elim (cases_eq (get_or due place 0) number) [
    | inl same ↦ absurd (true≢false (sym gone ∙ none_passed due number place at first (record { within = low; at = same })))
    | inr differ ↦ other place low differ
  ]

  -- with the next thing it has passed this one, and what isn't due behind it
  pub passed_next : (thing : ℕ) (next : Option ℕ) → FirstFrom due (thing + 1) number next → P thing
      → ((place : ℕ) → place < length due → is_passed (Some thing) place ≡ true → P place) → (place : ℕ) → place < length due → is_passed next place ≡ true → P place
  passed_next thing next first here before place low gone = elim (cases_lt place thing) [
    | inl less ↦ before place low (less_true place thing less)
    | inr more ↦ elim (cases_lt thing place) [
      | inl behind ↦ elim (cases_eq (get_or due place 0) number) [
        | inl same ↦ absurd (true≢false (sym gone ∙ passes_none due number thing place next first behind (record { within = low; at = same })))
        | inr differ ↦ other place low differ
      ]
      | inr at ↦ (let e : thing ≡ place = omega arith in subst P e here)
    ]
  ]
