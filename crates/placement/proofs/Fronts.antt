-- How far the jobs are placed.
use Rattle.std.proofs.Common.{◌≡◌, ℕ, zero, suc, ◌<◌, ◌≤◌, ◌⊎◌, inl, inr, Bool, true, false, not, ◌&&◌, List, [], ◌∷◌, ◌++◌, length, get_or, drop, min, Option, Some, refl, sym, ap, ◌∙◌, subst, arith}
use Rattle.std.specs.Prelude.{slice_get, is_some}
use Rattle.std.specs.List.{list_all}
use Rattle.std.proofs.lemmas.Bool.{cases_eq}
use Rattle.decisions.specs.declared.problem.Feed.{Feed}
use Rattle.decisions.specs.declared.problem.Problem.{Problem}
use Rattle.decisions.specs.Decision.{Decision, work_at, decision_on}
use Rattle.decisions.specs.Choices.{is_placed, is_ready, by_start, choices_for, choices}
use Rattle.reached.proofs.Good.{IsGood, on_other, on_old, placed_some}
use Rattle.placement.specs.Feeding.{flat}
use Rattle.placement.specs.Held.{IsFront, HasPlaces, place_of_job}
use Rattle.placement.proofs.Finding.{job_found, job_there}

none_ready : (b c : Bool) → b ≡ true → (not b && c) ≡ false
none_ready b c h = rw h refl

-- jobs that are placed give no choice
passed_over : (pr : Problem) (l : List Decision) (order : List ℕ) (first : ℕ) → ((k job : ℕ) → slice_get order k ≡ Some job → k < first → is_placed l job ≡ true) → choices_for pr l order ≡ choices_for pr l (drop first order)
passed_over pr l [] zero h = refl
passed_over pr l [] (suc first) h = refl
passed_over pr l (job ∷ order) zero h = refl
passed_over pr l (job ∷ order) (suc first) h =
    let r : is_ready pr l job ≡ false = none_ready (is_placed l job) (list_all (λ (f : Feed). is_placed l f.producer) (work_at pr job).feeds) (h 0 job refl (omega arith)) in
    let s : choices_for pr l (job ∷ order) ≡ choices_for pr l order = rw r refl in
    s ∙ passed_over pr l order first (λ k j e low. h (suc k) j e (omega arith))

pub choices_from : (pr : Problem) (l : List Decision) (ranks : List ℕ) (first : ℕ) → IsFront pr l ranks first → choices pr l ≡ choices_for pr l (drop first (by_start pr (length pr.works)))
unfolding choices
choices_from pr l ranks first h = passed_over pr l (by_start pr (length pr.works)) first h.placed

-- no decision yet
pub front_none : (pr : Problem) (ranks : List ℕ) (order : List ℕ) (jobs : ℕ) → jobs ≡ length pr.works → order ≡ by_start pr (length pr.works) → length ranks ≡ jobs → ((job k : ℕ) → job < jobs → slice_get order k ≡ Some job → get_or ranks job 0 ≤ k) → IsFront pr [] ranks 0
front_none pr ranks order jobs n e size least = record {
  size = size ∙ n;
  least = λ job k low at. least job k (omega arith) (ap (λ xs. slice_get xs k) e ∙ at);
  placed = λ k job at low. absurd (omega arith);
}

before_or : (k s : ℕ) → (k < s) ⊎ (s ≤ k)
before_or k s = grind arith

some_is : (o : Option Decision) (d : Decision) → o ≡ Some d → is_some o ≡ true
some_is o d e = rw e refl

placed_more : (l : List Decision) (d : Decision) (job : ℕ) → is_placed l job ≡ true → is_placed (l ++ d ∷ []) job ≡ true
placed_more l d job h = let x = placed_some (decision_on l job) h in some_is (decision_on (l ++ d ∷ []) job) x.0 (on_old l d job x.0 x.1)

-- one decision more
pub front_more : (pr : Problem) (l : List Decision) (d : Decision) (ranks order : List ℕ) (places : List (Option ℕ)) (first next : ℕ) → IsFront pr l ranks first → IsGood pr (l ++ d ∷ []) → HasPlaces places (length pr.works) (place_of_job (l ++ d ∷ [])) → order ≡ by_start pr (length pr.works)
    → ((k job : ℕ) → slice_get order k ≡ Some job → first ≤ k → k < next → is_some (flat (slice_get places job)) ≡ true) → IsFront pr (l ++ d ∷ []) ranks next
front_more pr l d ranks order places first next h g p e more = record {
  size = h.size;
  least = h.least;
  placed = λ k job at low. elim (before_or k first) [
    | inl early ↦ placed_more l d job (h.placed k job at early)
    | inr late ↦ (let t = more k job (ap (λ xs. slice_get xs k) e ∙ at) late low in
        ap is_some (sym (job_found pr (l ++ d ∷ []) places g p job)) ∙ (sym (job_there pr (l ++ d ∷ []) places p job) ∙ t))
  ];
}

min_left : (a b k : ℕ) → k < min a b → k < a
min_left a b k h = omega arith

min_right : (a b k : ℕ) → k < min a b → k < b
min_right a b k h = omega arith

-- one decision less
pub front_less : (pr : Problem) (l : List Decision) (d : Decision) (ranks : List ℕ) (first next rank : ℕ) → IsFront pr (l ++ d ∷ []) ranks first → d.job < length pr.works → rank ≡ get_or ranks d.job 0 → next ≡ min first rank → IsFront pr l ranks next
front_less pr l d ranks first next rank h is_job r e = record {
  size = h.size;
  least = h.least;
  placed = λ k job at low. (
      let less : k < min first rank = omega arith in
      let full = h.placed k job at (min_left first rank k less) in
      elim (cases_eq d.job job) [
        | inl same ↦ absurd (let m = h.least d.job k is_job (subst (λ x. slice_get (by_start pr (length pr.works)) k ≡ Some x) (sym same) at) in let b = min_right first rank k less in omega arith)
        | inr other ↦ ap is_some (sym (on_other l d job other)) ∙ full
      ]);
}
