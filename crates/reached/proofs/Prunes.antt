-- A list that is given up leads to no whole list, and choices are few.
use Rattle.std.proofs.Common.{◌≡◌, ℕ, zero, suc, ◌+◌, ◌*◌, ◌<◌, ◌≤◌, ◌⊎◌, inl, inr, Bool, true, false, not, ◌&&◌, ◌||◌, leb, max, if◌then◌else◌, List, [], ◌∷◌, ◌++◌, length, Option, Some, None, slice_get, refl, sym, ap, ◌∙◌, subst, arith, leb-false, length-append, suc-mul}
use Rattle.std.specs.Prelude.{is_some}
use Rattle.std.proofs.lemmas.Bool.{cases_eq}
use Rattle.walks.specs.First.{Reaches, PrunesNone}
use Rattle.decisions.specs.declared.problem.Feed.{Feed}
use Rattle.decisions.specs.declared.problem.Problem.{Problem}
use Rattle.decisions.specs.Decision.{Decision, work_at, decision_on}
use Rattle.decisions.specs.Pruned.{end_or, last_end, earliest_end, is_late, is_one_late, pruned}
use Rattle.decisions.specs.Choices.{is_ready, row_of, by_start, choices_for, choices, rules_of, IsReached}
use Rattle.reached.proofs.Members.{order_length, row_few}
use Rattle.reached.proofs.Decided.{HasEnded}
use Rattle.reached.proofs.Good.{on_old, on_new, on_other, on_is, choice_of, IsGood, good, good_along}

-- how many of the jobs below n aren't placed
abbrev unplaced : Option Decision → ℕ
unplaced None = 1
unplaced (Some d) = 0

left : List Decision → ℕ → ℕ
left l zero = 0
left l (suc n) = unplaced (decision_on l n) + left l n

left_none : (n : ℕ) → left [] n ≡ n
unfolding left
left_none zero = refl
left_none (suc n) = let h = left_none n in omega arith

left_same : (l : List Decision) (d : Decision) (n : ℕ) → n ≤ d.job → left (l ++ d ∷ []) n ≡ left l n
unfolding left
left_same l d zero h = refl
left_same l d (suc n) h = rw (on_other l d n (λ i. omega arith), left_same l d n (omega arith)) refl

left_less : (l : List Decision) (d : Decision) (n : ℕ) → decision_on l d.job ≡ None → d.job < n → suc (left (l ++ d ∷ []) n) ≡ left l n
unfolding left
left_less l d zero a h = absurd (omega arith)
left_less l d (suc n) a h = elim (cases_eq d.job n) [
  | inl i ↦ (
      let p : decision_on (l ++ d ∷ []) n ≡ Some d = subst (λ x. decision_on (l ++ d ∷ []) x ≡ Some d) i (on_new l d a) in
      let q : decision_on l n ≡ None = subst (λ x. decision_on l x ≡ None) i a in
      rw (p, q, left_same l d n (omega arith)) (omega arith))
  | inr i ↦ (let g = left_less l d n a (omega arith) in rw (on_other l d n i) (omega arith))
]

none_left : (o : Option Decision) (n : ℕ) → unplaced o + n ≡ 0 → (d : Decision) × (o ≡ Some d)
none_left None n h = absurd (omega arith)
none_left (Some d) n h = (d, refl)

left_zero : (l : List Decision) (n job : ℕ) → left l n ≡ 0 → job < n → (d : Decision) × (decision_on l job ≡ Some d)
unfolding left
left_zero l zero job h g = absurd (omega arith)
left_zero l (suc n) job h g = elim (cases_eq job n) [
  | inl i ↦ (let p = none_left (decision_on l n) (left l n) h in (p.0, subst (λ x. decision_on l x ≡ Some p.0) (sym i) p.1))
  | inr i ↦ left_zero l n job (omega arith) (omega arith)
]

-- along a path each choice places one job more
left_along : (pr : Problem) (l : List Decision) (rs : List ℕ) (m : List Decision) → Reaches (rules_of pr) l rs m → left m (length pr.works) + length rs ≡ left l (length pr.works)
left_along pr l [] m h = rw h (omega arith)
left_along pr l (r ∷ rs) m h =
    let c = choice_of pr l h.0 (r, h.1) in
    let a = left_less l h.0 (length pr.works) c.opens.new c.is_job in
    let b = left_along pr (l ++ h.0 ∷ []) rs m h.2 in
    omega arith

length_along : (pr : Problem) (l : List Decision) (rs : List ℕ) (m : List Decision) → Reaches (rules_of pr) l rs m → length m ≡ length l + length rs
length_along pr l [] m h = omega (arith, ap length h)
length_along pr l (r ∷ rs) m h = let b = length_along pr (l ++ h.0 ∷ []) rs m h.2 in let a = length-append l (h.0 ∷ []) in omega arith

-- in a reached list of as many decisions as there are jobs each job is placed
pub all_placed : (pr : Problem) (l : List Decision) → IsReached pr l → length l ≡ length pr.works → (job : ℕ) → job < length pr.works → (d : Decision) × (decision_on l job ≡ Some d)
all_placed pr l h e job low =
    let a = left_along pr [] h.0 l h.1 in
    let b = length_along pr [] h.0 l h.1 in
    let c = left_none (length pr.works) in
    left_zero l (length pr.works) job (omega arith) low

-- no list has more decisions than there are jobs
pub few_decisions : (pr : Problem) (l : List Decision) → IsReached pr l → length l ≤ length pr.works
few_decisions pr l h =
    let a = left_along pr [] h.0 l h.1 in
    let b = length_along pr [] h.0 l h.1 in
    let c = left_none (length pr.works) in
    omega arith

-- what is placed stays as it is
abbrev pub Extends : List Decision → List Decision → Type 0
Extends l m = (job : ℕ) (d : Decision) → decision_on l job ≡ Some d → decision_on m job ≡ Some d

extends_along : (pr : Problem) (l : List Decision) (rs : List ℕ) (m : List Decision) → Reaches (rules_of pr) l rs m → Extends l m
extends_along pr l [] m h job d e = subst (λ x. decision_on x job ≡ Some d) h e
extends_along pr l (r ∷ rs) m h job d e = extends_along pr (l ++ h.0 ∷ []) rs m h.2 job d (on_old l h.0 job d e)

-- the end of a producer in the longer list
end_by : (l m : List Decision) (job e tick : ℕ) (o : Option Decision) → decision_on l job ≡ o → Extends l m → (p : Decision) → decision_on m job ≡ Some p → p.end ≤ tick → e ≤ p.end → end_or e o ≤ tick
end_by l m job e tick None i x p q le h = omega arith
end_by l m job e tick (Some d) i x p q le h = let s : Some d ≡ Some p = sym (x job d i) ∙ q in let t : d ≡ p = cc in omega (arith, ap (λ (y : Decision). y.end) t)

last_by : (l m : List Decision) (f : ℕ → ℕ) (feeds : List Feed) (tick : ℕ) → Extends l m → ((job : ℕ) (p : Decision) → decision_on m job ≡ Some p → f job ≤ p.end) → ((i : ℕ) (feed : Feed) → slice_get feeds i ≡ Some feed → HasEnded m feed tick) → last_end l f feeds ≤ tick
last_by l m f [] tick x h g = omega arith
last_by l m f (feed ∷ feeds) tick x h g =
    let e = g 0 feed refl in
    let a = end_by l m feed.producer (f feed.producer) tick (decision_on l feed.producer) refl x e.producer e.placed e.ended (h feed.producer e.producer e.placed) in
    let b = last_by l m f feeds tick x h (λ i y j. g (suc i) y j) in
    omega arith

-- a job ends no earlier than its earliest end
earliest_is : (pr : Problem) (l m : List Decision) (n job : ℕ) (d : Decision) → Extends l m → IsGood pr m → decision_on m job ≡ Some d → earliest_end pr l n job ≤ d.end
earliest_is pr l m zero job d x g e = omega arith
earliest_is pr l m (suc n) job d x g e =
    let o = on_is m job d e in
    let k = g.kept d o.0 in
    let a = last_by l m (earliest_end pr l n) (work_at pr d.job).feeds d.start x (λ j p q. earliest_is pr l m n j p x g q) k.fed in
    let b : (work_at pr d.job).length + max (work_at pr d.job).release (last_end l (earliest_end pr l n) (work_at pr d.job).feeds) ≤ d.end = omega (arith, k.span, k.after) in
    subst (λ y. (work_at pr y).length + max (work_at pr y).release (last_end l (earliest_end pr l n) (work_at pr y).feeds) ≤ d.end) o.1 b

either_true : (a b : Bool) → (a || b) ≡ true → (a ≡ true) ⊎ (b ≡ true)
either_true true b h = inl refl
either_true false b h = inr h

both_true : (a b : Bool) → (a && b) ≡ true → (a ≡ true) × (b ≡ true)
both_true true b h = (refl, h)
both_true false b h = absurd (cc)

not_true : (b : Bool) → not b ≡ true → b ≡ false
not_true true h = sym h
not_true false h = refl

none_of : (o : Option Decision) → not (is_some o) ≡ true → o ≡ None
none_of None h = refl
none_of (Some d) h = absurd (cc)

-- a late job
pub record IsLate (pr : Problem) (l : List Decision) (job : ℕ) : Type 0 where
  pub is_job : job < length pr.works
  pub new : decision_on l job ≡ None
  pub past : (work_at pr job).deadline < earliest_end pr l (length pr.works) job

late_is : (pr : Problem) (l : List Decision) (job : ℕ) → job < length pr.works → is_late pr l job ≡ true → IsLate pr l job
late_is pr l job low h =
    let b = both_true (not (is_some (decision_on l job))) (not (leb (earliest_end pr l (length pr.works) job) (work_at pr job).deadline)) h in
    record { is_job = low; new = none_of (decision_on l job) b.0; past = leb-false (earliest_end pr l (length pr.works) job) (work_at pr job).deadline (not_true (leb (earliest_end pr l (length pr.works) job) (work_at pr job).deadline) b.1) }

one_late : (pr : Problem) (l : List Decision) (n : ℕ) → n ≤ length pr.works → is_one_late pr l n ≡ true → (job : ℕ) × IsLate pr l job
one_late pr l zero le h = absurd (cc)
one_late pr l (suc job) le h = elim (either_true (is_late pr l job) (is_one_late pr l job) h) [
  | inl g ↦ (job, late_is pr l job (omega arith) g)
  | inr g ↦ one_late pr l job (omega arith) g
]

-- a list that is given up has a late job
pub late_of : (pr : Problem) (l : List Decision) → pruned pr l ≡ true → (job : ℕ) × IsLate pr l job
unfolding pruned
late_of pr l h = one_late pr l (length pr.works) (omega arith) h

pub prunes_none : (pr : Problem) → PrunesNone (rules_of pr) (length pr.works)
prunes_none pr = record {
  none = λ qs l h p n e rs m w.
      let t = late_of pr l p in
      let a = left_along pr [] qs l h in
      let b = left_along pr l rs m w.reached in
      let c = length_along pr [] qs l h in
      let d = left_none (length pr.works) in
      let z : left m (length pr.works) ≡ 0 = omega (arith, w.whole) in
      let s = left_zero m (length pr.works) t.0 z t.1.is_job in
      let g = good_along pr l rs m w.reached (good pr l (qs, h)) in
      let f = earliest_is pr l m (length pr.works) t.0 s.0 (extends_along pr l rs m w.reached) g s.1 in
      let o = on_is m t.0 s.0 s.1 in
      let k = g.kept s.0 o.0 in
      let due : s.0.end ≤ (work_at pr t.0).deadline = subst (λ y. s.0.end ≤ (work_at pr y).deadline) o.1 k.due in
      omega (arith, t.1.past);
}

few_if : (b : Bool) (row : List Decision) (n : ℕ) → length row ≤ n → length (if b then row else []) ≤ n
few_if true row n h = h
few_if false row n h = omega arith

few_for : (pr : Problem) (l : List Decision) (jobs : List ℕ) → length (choices_for pr l jobs) ≤ length jobs * pr.round.units
few_for pr l [] = omega arith
few_for pr l (job ∷ jobs) =
    let a = few_if (is_ready pr l job) (row_of pr l job pr.round.units) pr.round.units (row_few pr l job pr.round.units) in
    let b = length-append (if is_ready pr l job then row_of pr l job pr.round.units else []) (choices_for pr l jobs) in
    omega (arith, few_for pr l jobs, suc-mul (length jobs) pr.round.units)

-- a list has at most so many choices
pub few_choices : (pr : Problem) (l : List Decision) → length (choices pr l) ≤ length pr.works * pr.round.units
unfolding choices
few_choices pr l = let a = few_for pr l (by_start pr (length pr.works)) in let e = order_length pr (length pr.works) in rw e at a
