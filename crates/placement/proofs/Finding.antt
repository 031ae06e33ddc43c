-- The places of decisions.
use Rattle.std.proofs.Common.{◌≡◌, ℕ, zero, suc, ◌+◌, ◌<◌, ◌≤◌, inl, inr, Bool, true, false, cond, not, eqb, List, [], ◌∷◌, ◌++◌, length, set, Option, Some, None, refl, sym, ap, ◌∙◌, subst, arith, length-append}
use Rattle.std.specs.Prelude.{◌==◌, slice_get, slice_set, find, position, is_some, count_by, nat_lt}
use Rattle.std.specs.List.{position_or_len, prefix_len}
use Rattle.std.proofs.lemmas.Bool.{cases_eq, cases_lt}
use Rattle.std.proofs.lemmas.List.{length-set, get_or-set_same, get_or-set_other}
use Rattle.std.proofs.lemmas.List.Folds.{find_at, position_or_len_push}
use Rattle.std.proofs.lemmas.List.Sums.{sum_by-append, sum_by-cons}
use Rattle.std.proofs.lemmas.Option.{slice_get_past, slice_get-get_or}
use Rattle.decisions.specs.declared.problem.Problem.{Problem}
use Rattle.decisions.specs.Decision.{Decision, work_at, decision_on, first_of_task}
use Rattle.decisions.specs.IsProblem.{IsProblem}
use Rattle.reached.proofs.Good.{on_is, find_in, some_cases, IsGood}
use Rattle.placement.specs.Feeding.{flat, at_place, place_in, first_some, without}
use Rattle.placement.specs.Held.{place_of_job, place_of_task, HasPlaces}

found_by : (P : Decision → Bool) (l : List Decision) (b : Bool) → nat_lt (position_or_len P l) (length l) ≡ b → slice_get l (position_or_len P l) ≡ at_place l (cond b (Some (position_or_len P l)) None)
found_by P l true e = refl
found_by P l false e = slice_get_past l (position_or_len P l) (grind arith)

-- what is found stands at its place
pub found : (P : Decision → Bool) (l : List Decision) → find P l ≡ at_place l (position P l)
found P l = find_at P l ∙ found_by P l (nat_lt (position_or_len P l) (length l)) refl

slice_get_there : (l : List Decision) (i : ℕ) → i < length l → (d : Decision) × (slice_get l i ≡ Some d)
slice_get_there [] i low = absurd (omega arith)
slice_get_there (x ∷ l) zero low = (x, refl)
slice_get_there (x ∷ l) (suc i) low = slice_get_there l i (omega arith)

none_by : (P : Decision → Bool) (l : List Decision) (o : Option ℕ) → position P l ≡ o → at_place l o ≡ None → (i : ℕ) → o ≡ Some i → i < length l → ⊥
none_by P l None e h i f low = cc
none_by P l (Some k) e h i f low =
    let s : k ≡ i = cc in
    let d = slice_get_there l i low in
    let q : slice_get l i ≡ None = subst (λ x. slice_get l x ≡ None) s h in
    let z : Some d.0 ≡ None = sym d.1 ∙ q in cc

within_by : (P : Decision → Bool) (l : List Decision) (b : Bool) → nat_lt (position_or_len P l) (length l) ≡ b → (i : ℕ) → cond b (Some (position_or_len P l)) None ≡ Some i → i < length l
within_by P l true e i h = let s : position_or_len P l ≡ i = cc in let low : position_or_len P l < length l = grind arith in omega arith
within_by P l false e i h = absurd (cc)

-- a place is one of the list's
pub place_within : (P : Decision → Bool) (l : List Decision) (i : ℕ) → position P l ≡ Some i → i < length l
place_within P l i h = within_by P l (nat_lt (position_or_len P l) (length l)) refl i h

none_or : (P : Decision → Bool) (l : List Decision) (o : Option ℕ) → position P l ≡ o → find P l ≡ None → o ≡ None
none_or P l None e h = refl
none_or P l (Some i) e h = absurd (none_by P l (Some i) e (ap (at_place l) (sym e) ∙ (sym (found P l) ∙ h)) i refl (place_within P l i e))

-- where nothing is found there is no place
pub no_place : (P : Decision → Bool) (l : List Decision) → find P l ≡ None → position P l ≡ None
no_place P l h = none_or P l (position P l) refl h

prefix_few_by : {A : Type 0} (p : A → Bool) (x : A) (xs : List A) (b : Bool) → prefix_len p xs ≤ length xs → cond b (1 + prefix_len p xs) 0 ≤ suc (length xs)
prefix_few_by p x xs true h = omega arith
prefix_few_by p x xs false h = omega arith

prefix_few : {A : Type 0} (p : A → Bool) (xs : List A) → prefix_len p xs ≤ length xs
prefix_few p [] = omega arith
prefix_few p (x ∷ xs) = prefix_few_by p x xs (p x) (prefix_few p xs)

less_true : (a b : ℕ) → a < b → nat_lt a b ≡ true
less_true a b h = grind arith

less_false : (a b : ℕ) → b ≤ a → nat_lt a b ≡ false
less_false a b h = grind arith

less_of : (a b : ℕ) → nat_lt a b ≡ true → a < b
less_of a b h = grind arith

shown_true : (b : Bool) (i k : ℕ) → b ≡ true → i ≡ k → cond b (Some i) None ≡ Some k
shown_true b i k h e = rw (h, e) refl

shown_false : (b : Bool) (i : ℕ) → b ≡ false → cond b (Some i) None ≡ None
shown_false b i h = rw h refl

not_less : (a b : ℕ) → nat_lt a b ≡ false → b ≤ a
not_less a b h = grind arith

no_cost : (b : Bool) → b ≡ true → cond {A = ℕ} b 0 1 ≡ 0
no_cost b h = rw h refl

one_cost : (b : Bool) → b ≡ false → cond {A = ℕ} b 0 1 ≡ 1
one_cost b h = rw h refl

equal_true : (a b : ℕ) → a ≡ b → eqb a b ≡ true
equal_true a b h = grind arith

equal_false : (a b : ℕ) → a < b → eqb a b ≡ false
equal_false a b h = grind arith

place_by : (P : Decision → Bool) (l : List Decision) (x : Decision) (b c : Bool) → nat_lt (position_or_len P l) (length l) ≡ b → P x ≡ c → position P (l ++ x ∷ []) ≡ first_some (cond b (Some (position_or_len P l)) None) (cond c (Some (length l)) None)
place_by P l x true c e f =
    let low : position_or_len P l < length l = less_of (position_or_len P l) (length l) e in
    let a : position_or_len P (l ++ x ∷ []) ≡ position_or_len P l = position_or_len_push P l x ∙ (rw (equal_false (position_or_len P l) (length l) low) refl) in
    let n = length-append l (x ∷ []) in
    let t : nat_lt (position_or_len P (l ++ x ∷ [])) (length (l ++ x ∷ [])) ≡ true = less_true (position_or_len P (l ++ x ∷ [])) (length (l ++ x ∷ [])) (omega arith) in
    shown_true (nat_lt (position_or_len P (l ++ x ∷ [])) (length (l ++ x ∷ []))) (position_or_len P (l ++ x ∷ [])) (position_or_len P l) t a
place_by P l x false true e f =
    let high : length l ≤ position_or_len P l = not_less (position_or_len P l) (length l) e in
    let few = prefix_few (λ y. not (P y)) l in
    let same : position_or_len P l ≡ length l = omega arith in
    let a : position_or_len P (l ++ x ∷ []) ≡ length l + cond (P x) 0 1 = position_or_len_push P l x ∙ (rw (equal_true (position_or_len P l) (length l) same) refl) in
    let z = no_cost (P x) f in
    let n = length-append l (x ∷ []) in
    let t : nat_lt (position_or_len P (l ++ x ∷ [])) (length (l ++ x ∷ [])) ≡ true = less_true (position_or_len P (l ++ x ∷ [])) (length (l ++ x ∷ [])) (omega (arith, a, z, n)) in
    shown_true (nat_lt (position_or_len P (l ++ x ∷ [])) (length (l ++ x ∷ []))) (position_or_len P (l ++ x ∷ [])) (length l) t (omega (arith, a, z))
place_by P l x false false e f =
    let high : length l ≤ position_or_len P l = not_less (position_or_len P l) (length l) e in
    let few = prefix_few (λ y. not (P y)) l in
    let same : position_or_len P l ≡ length l = omega arith in
    let a : position_or_len P (l ++ x ∷ []) ≡ length l + cond (P x) 0 1 = position_or_len_push P l x ∙ (rw (equal_true (position_or_len P l) (length l) same) refl) in
    let z = one_cost (P x) f in
    let n = length-append l (x ∷ []) in
    let t : nat_lt (position_or_len P (l ++ x ∷ [])) (length (l ++ x ∷ [])) ≡ false = less_false (position_or_len P (l ++ x ∷ [])) (length (l ++ x ∷ [])) (omega (arith, a, z, n)) in
    shown_false (nat_lt (position_or_len P (l ++ x ∷ [])) (length (l ++ x ∷ []))) (position_or_len P (l ++ x ∷ [])) t

-- the place with one decision more
pub place_append : (P : Decision → Bool) (l : List Decision) (x : Decision) (c : Bool) → P x ≡ c → position P (l ++ x ∷ []) ≡ first_some (position P l) (cond c (Some (length l)) None)
place_append P l x c f = place_by P l x (nat_lt (position_or_len P l) (length l)) c refl f

first_none : (o : Option ℕ) → first_some o None ≡ o
first_none None = refl
first_none (Some i) = refl

same_test : (n : ℕ) → (n == n) ≡ true
same_test n = grind arith

other_test : (a b : ℕ) → (a ≡ b → ⊥) → (a == b) ≡ false
other_test a b h = grind arith

equal_test : (a b : ℕ) → (a == b) ≡ true → a ≡ b
equal_test a b h = grind arith

-- the table of jobs finds each decision
pub job_found : (pr : Problem) (l : List Decision) (table : List (Option ℕ)) → IsGood pr l → HasPlaces table (length pr.works) (place_of_job l) → (job : ℕ) → place_in l table job ≡ decision_on l job
job_found pr l table g h job = elim (cases_lt job (length pr.works)) [
  | inl low ↦ ap (λ o. at_place l (flat o)) (h.each job low) ∙ sym (found (λ (d : Decision). d.job == job) l)
  | inr past ↦ ap (λ o. at_place l (flat o)) (slice_get_past table job (omega (arith, h.size))) ∙ elim (some_cases (decision_on l job)) [
    | inl d ↦ absurd (let i = on_is l job d.0 d.1 in omega (arith, (g.kept d.0 i.0).is_job, i.1))
    | inr e ↦ sym e
  ]
]

-- the table of tasks finds each first decision
pub task_found : (pr : Problem) (l : List Decision) (table : List (Option ℕ)) → IsProblem pr → IsGood pr l → HasPlaces table 64 (place_of_task pr l) → (task : ℕ) → place_in l table task ≡ first_of_task pr l task
task_found pr l table p g h task = elim (cases_lt task 64) [
  | inl low ↦ ap (λ o. at_place l (flat o)) (h.each task low) ∙ sym (found (λ (d : Decision). (work_at pr d.job).task == task) l)
  | inr past ↦ ap (λ o. at_place l (flat o)) (slice_get_past table task (omega (arith, h.size))) ∙ elim (some_cases (first_of_task pr l task)) [
    | inl d ↦ absurd (let i = find_in (λ (x : Decision). (work_at pr x.job).task == task) l d.0 d.1 in
        let e : (work_at pr d.0.job).task ≡ task = equal_test (work_at pr d.0.job).task task i.1 in
        omega (arith, (p.works d.0.job (g.kept d.0 i.0).is_job).task))
    | inr e ↦ sym e
  ]
]

-- one entry of a table is written
record Written (table : List (Option ℕ)) (i : ℕ) (o : Option ℕ) : Type 0 where
  size : length (slice_set table i o) ≡ length table
  same : slice_get (slice_set table i o) i ≡ Some o
  other : (k : ℕ) → (k ≡ i → ⊥) → k < length table → slice_get (slice_set table i o) k ≡ slice_get table k

written : (table : List (Option ℕ)) (i : ℕ) (o : Option ℕ) → i < length table → Written table i o
written table i o low =
    let size : length (set table i o) ≡ length table = length-set table i o in
    record {
      size = size;
      same = slice_get-get_or (set table i o) i None (omega arith) ∙ ap Some (get_or-set_same table i o None low);
      other = λ k ne lowk. slice_get-get_or (set table i o) k None (omega arith) ∙ (ap Some (get_or-set_other table i k o None ne) ∙ sym (slice_get-get_or table k None lowk));
    }

-- the entry of a decision's own number, and those of other numbers
pub places_more : (table : List (Option ℕ)) (n i : ℕ) (o : Option ℕ) (before after : ℕ → Option ℕ) → HasPlaces table n before → i < n → o ≡ after i → ((k : ℕ) → (k ≡ i → ⊥) → after k ≡ before k) → HasPlaces (slice_set table i o) n after
places_more table n i o before after h low same other =
    let w = written table i o (omega (arith, h.size)) in
    record {
      size = w.size ∙ h.size;
      each = λ k lowk. elim (cases_eq k i) [
        | inl e ↦ subst (λ x. slice_get (slice_set table i o) x ≡ Some (after x)) (sym e) (w.same ∙ ap Some same)
        | inr ne ↦ w.other k ne (omega (arith, h.size)) ∙ (h.each k lowk ∙ ap Some (sym (other k ne)))
      ];
    }

-- the place of a job that is placed now
pub job_more : (l : List Decision) (d : Decision) (job : ℕ) → (job ≡ d.job → ⊥) → place_of_job (l ++ d ∷ []) job ≡ place_of_job l job
job_more l d job ne = place_append (λ (x : Decision). x.job == job) l d false (other_test d.job job (λ e. ne (sym e))) ∙ first_none (place_of_job l job)

pub job_new : (l : List Decision) (d : Decision) → decision_on l d.job ≡ None → Some (length l) ≡ place_of_job (l ++ d ∷ []) d.job
job_new l d e = sym (place_append (λ (x : Decision). x.job == d.job) l d true (same_test d.job) ∙ ap (λ o. first_some o (Some (length l))) (no_place (λ (x : Decision). x.job == d.job) l e))

pub job_old : (l : List Decision) (d : Decision) → decision_on l d.job ≡ None → None ≡ place_of_job l d.job
job_old l d e = sym (no_place (λ (x : Decision). x.job == d.job) l e)

pub task_more : (pr : Problem) (l : List Decision) (d : Decision) (task : ℕ) → (task ≡ (work_at pr d.job).task → ⊥) → place_of_task pr (l ++ d ∷ []) task ≡ place_of_task pr l task
task_more pr l d task ne = place_append (λ (x : Decision). (work_at pr x.job).task == task) l d false (other_test (work_at pr d.job).task task (λ e. ne (sym e))) ∙ first_none (place_of_task pr l task)

pub task_new : (pr : Problem) (l : List Decision) (d : Decision) → place_of_task pr (l ++ d ∷ []) (work_at pr d.job).task ≡ first_some (place_of_task pr l (work_at pr d.job).task) (Some (length l))
task_new pr l d = place_append (λ (x : Decision). (work_at pr x.job).task == (work_at pr d.job).task) l d true (same_test (work_at pr d.job).task)

without_by : (n : ℕ) (o : Option ℕ) → ((i : ℕ) → o ≡ Some i → i < n) → without (first_some o (Some n)) n ≡ o
without_by n None h = rw (same_test n) refl
without_by n (Some i) h = let low = h i refl in rw (other_test i n (λ e. omega arith)) refl

pub task_old : (pr : Problem) (l : List Decision) (d : Decision) → without (place_of_task pr (l ++ d ∷ []) (work_at pr d.job).task) (length l) ≡ place_of_task pr l (work_at pr d.job).task
task_old pr l d =
    ap (λ o. without o (length l)) (task_new pr l d)
    ∙ without_by (length l) (place_of_task pr l (work_at pr d.job).task) (λ i h. place_within (λ (x : Decision). (work_at pr x.job).task == (work_at pr d.job).task) l i h)

-- how many pass, with one decision more
pub count_append : (p : Decision → Bool) (l : List Decision) (x : Decision) → count_by p (l ++ x ∷ []) ≡ count_by p l + cond (p x) 1 0
count_append p l x =
    let a = sum_by-append (λ y. cond (p y) 1 0) l (x ∷ []) in
    let b = sum_by-cons (λ y. cond (p y) 1 0) x [] in
    omega (arith, a, b)

there_by : (l : List Decision) (o : Option ℕ) → ((i : ℕ) → o ≡ Some i → i < length l) → is_some o ≡ is_some (at_place l o)
there_by l None h = refl
there_by l (Some i) h = let d = slice_get_there l i (h i refl) in rw d.1 refl

-- a place in the table of jobs has a decision
pub job_there : (pr : Problem) (l : List Decision) (table : List (Option ℕ)) → HasPlaces table (length pr.works) (place_of_job l) → (job : ℕ) → is_some (flat (slice_get table job)) ≡ is_some (place_in l table job)
job_there pr l table h job = elim (cases_lt job (length pr.works)) [
  | inl low ↦ (let e = h.each job low in rw e (there_by l (place_of_job l job) (λ i s. place_within (λ (d : Decision). d.job == job) l i s)))
  | inr past ↦ (let e = slice_get_past table job (omega (arith, h.size)) in rw e refl)
]
