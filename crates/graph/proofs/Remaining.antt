-- Remaining ticks of tasks and of jobs.
use Rattle.std.proofs.Common.{◌≡◌, ℕ, zero, suc, ◌+◌, ◌*◌, ◌/◌, ◌^◌, ◌<◌, ◌≤◌, inl, inr, List, length, get_or, set, refl, sym, ◌∙◌, ap, subst, arith}
use Rattle.std.specs.Prelude.{map}
use Rattle.std.proofs.Math.ListN.{get_or-map}
use Rattle.std.proofs.lemmas.Bool.{cases_eq}
use Rattle.std.proofs.lemmas.List.{get_or-set_same, get_or-set_other, length-set, get_or_default, ext_get_or, length-map}
use Rattle.graph.specs.declared.net.Net.{Net}
use Rattle.graph.specs.declared.job.Job.{Job}
use Rattle.graph.specs.Net.{instances, Feeds}
use Rattle.graph.specs.Order.{IsOrder}
use Rattle.graph.specs.Jobs.{job_of, jobs_of, job_number, IsProducer, IsGreatestAfter, IsRemaining}
use Rattle.graph.specs.Sound.{HasEntries}
use Rattle.graph.specs.TaskRemaining.{IsGreatestFed, HasRemaining, HasRemainingFrom}
use Rattle.graph.proofs.Entries.{joined}
use Rattle.graph.proofs.Numbers.{one_job, is_job, job_at}
use Rattle.graph.proofs.JobLists.{job_there, length-jobs_of}
use Rattle.graph.proofs.Listed.{place_of, before_place, one_place}

-- what comes after x stands at a later place
later : (B : ℕ → ℕ → Type 0) (n : ℕ) (xs : List ℕ) → IsOrder B n xs → (k c : ℕ) → k < length xs → c < length xs → B (get_or xs k 0) (get_or xs c 0) → k < c
later B n xs order k c low low' b =
    let w = before_place xs c (get_or xs k 0) ((order.each c low').ready.all_before (get_or xs k 0) b) in
    let same = one_place B n xs order.each w.0 k w.2 low w.3 in
    omega (arith, w.1, same)

-- lists that agree on what a task feeds
same_fed : (net : Net) (f g : List ℕ) (t m : ℕ) → ((q : ℕ) → Feeds net t q → get_or g q 0 ≡ get_or f q 0) → IsGreatestFed net f t m → IsGreatestFed net g t m
same_fed net f g t m same is = record {
  above = λ q e. (let a = is.above q e in let s = same q e in omega (arith, a, s));
  reached = elim is.reached [ inl z ↦ inl z | inr w ↦ inr (w.0, w.1, same w.0 w.1 ∙ w.2) ];
}

-- a greatest number is no greater than all
pub greatest_few : (net : Net) (f : List ℕ) (t m b : ℕ) → IsGreatestFed net f t m → ((q : ℕ) → get_or f q 0 ≤ b) → m ≤ b
greatest_few net f t m b is all = elim is.reached [ inl z ↦ omega (arith, z) | inr w ↦ (let a = all w.0 in let e = w.2 in omega (arith, a, e)) ]

-- one place more, from the end
pub remaining_more : (net : Net) → HasEntries net → (lengths tasks f : List ℕ) (p m : ℕ) → IsOrder (Feeds net) (length net.tasks) tasks → p < length tasks →
    get_or lengths (get_or tasks p 0) 0 < 2 ^ 32 → HasRemainingFrom net lengths tasks f (p + 1) → IsGreatestFed net f (get_or tasks p 0) m →
    HasRemainingFrom net lengths tasks (set f (get_or tasks p 0) (get_or lengths (get_or tasks p 0) 0 + m)) p
remaining_more net entries lengths tasks f p m order low short come is =
    let t = get_or tasks p 0 in
    let v = get_or lengths t 0 + m in
    let inside : get_or tasks p 0 < length f = (let a = (order.each p low).ready.is_one in omega (arith, a, come.size)) in
    let kept : (k q : ℕ) → p ≤ k → k < length tasks → Feeds net (get_or tasks k 0) q → get_or (set f (get_or tasks p 0) (get_or lengths (get_or tasks p 0) 0 + m)) q 0 ≡ get_or f q 0 = λ k q from low' e.
    (let c = place_of tasks q (order.whole q (joined net entries (get_or tasks k 0) q e).1) in
    let q_is : get_or tasks c.0 0 ≡ q = c.2 in
    let after = later (Feeds net) (length net.tasks) tasks order k c.0 low' c.1 (subst (Feeds net (get_or tasks k 0)) (sym q_is) e) in
    get_or-set_other f (get_or tasks p 0) q (get_or lengths (get_or tasks p 0) 0 + m) 0 (λ same. (let here = one_place (Feeds net) (length net.tasks) tasks order.each c.0 p c.1 low (q_is ∙ same) in omega (arith, after, from, here)))) in
    let bound : m + (p + 1) * 2 ^ 32 ≤ length tasks * 2 ^ 32 = under net f t m is come.few in
    record {
      size = length-set f t v ∙ come.size;
      later = λ k from low'. elim (cases_eq p k) [
        | inl same ↦ subst (λ k. HasRemaining net lengths (set f (get_or tasks p 0) (get_or lengths (get_or tasks p 0) 0 + m)) (get_or tasks k 0)) same
            (m, same_fed net f (set f t v) t m (λ q e. kept p q (omega arith) low e) is, get_or-set_same f t v 0 inside)
        | inr other ↦ (let old = come.later k (omega (arith, from, other)) low' in (
          old.0,
          same_fed net f (set f t v) (get_or tasks k 0) old.0 (λ q e. kept k q from low' e) old.1,
          get_or-set_other f t (get_or tasks k 0) v 0 (λ e. other (sym (one_place (Feeds net) (length net.tasks) tasks order.each k p low' low e))) ∙ old.2,
        ))
      ];
      few = λ q. elim (cases_eq q t) [
        | inl same ↦ (let e : get_or (set f t v) q 0 ≡ v = ap (λ x. get_or (set f t v) x 0) same ∙ get_or-set_same f t v 0 inside in omega (arith, e, short, bound))
        | inr other ↦ (let e = get_or-set_other f t q v 0 other in let a = come.few q in omega (arith, e, a))
      ];
    }
  where
    under : (net : Net) (f : List ℕ) (t m : ℕ) → IsGreatestFed net f t m → ((q : ℕ) → get_or f q 0 + (p + 1) * 2 ^ 32 ≤ length tasks * 2 ^ 32) → m + (p + 1) * 2 ^ 32 ≤ length tasks * 2 ^ 32
    under net f t m is all = elim is.reached [ inl z ↦ (let a = all 0 in omega (arith, z, a)) | inr w ↦ (let a = all w.0 in let e = w.2 in omega (arith, a, e)) ]

-- the numbers of the tasks, for each of their jobs
pub of_jobs : (net : Net) → HasEntries net → (h : ℕ) (lengths tasks f : List ℕ) → IsOrder (Feeds net) (length net.tasks) tasks → HasRemainingFrom net lengths tasks f 0 →
    IsRemaining net h (jobs_of net h lengths (length net.tasks)) (map (λ (j : Job). get_or f j.task 0) (jobs_of net h lengths (length net.tasks)))
of_jobs net entries h lengths tasks f order come job low =
    let jobs = jobs_of net h lengths (length net.tasks) in
    let w = job_at net h (length net.tasks) job (omega (arith, low, length-jobs_of net h lengths (length net.tasks))) in
    let t = w.0 in
    let place = place_of tasks t (order.whole t w.2) in
    let t_is : get_or tasks place.0 0 ≡ t = place.2 in
    let here : HasRemaining net lengths f t = subst (HasRemaining net lengths f) t_is (come.later place.0 (omega arith) place.1) in
    let value : (q i : ℕ) → q < length net.tasks → i < instances net h q → get_or (map (λ (j : Job). get_or f j.task 0) jobs) (job_number net h q i) 0 ≡ get_or f q 0 = λ q i a b.
    read net h lengths (λ (j : Job). get_or f j.task 0) (length net.tasks) q i a b in (
      here.0,
      record {
        above = λ next e.
            let same = one_job net h t e.from w.1 e.instance w.3 (fits e) (sym w.4 ∙ e.from_is) in
            let goes : Feeds net t e.to = subst (λ x. Feeds net x e.to) (sym same.0) e.edge in
            let v = value e.to e.instance (joined net entries t e.to goes).1 e.in_cycle in
            let v' : get_or (map (λ (j : Job). get_or f j.task 0) jobs) next 0 ≡ get_or f e.to 0 = ap (λ k. get_or (map (λ (j : Job). get_or f j.task 0) jobs) k 0) e.to_is ∙ v in
            let a = here.1.above e.to goes in
            omega (arith, v', a);
        reached = elim here.1.reached [
          | inl z ↦ inl z
          | inr x ↦
              let goes : Feeds net t x.0 = x.1 in
              let many : instances net h t ≡ instances net h x.0 = ap (λ y. h / y) (joined net entries t x.0 goes).2 in
              let inside : w.1 < instances net h x.0 = omega (arith, many, w.3) in
              inr (
                job_number net h x.0 w.1,
                record { from = t; to = x.0; instance = w.1; edge = goes; in_cycle = inside; from_is = w.4; to_is = refl },
                value x.0 w.1 (joined net entries t x.0 goes).1 inside ∙ x.2,
              )
        ];
      },
      ap (λ k. get_or (map (λ (j : Job). get_or f j.task 0) jobs) k 0) w.4 ∙ value t w.1 w.2 w.3 ∙ here.2
          ∙ ap (λ x. x + here.0) (sym (ap (λ k. get_or (map (λ (j : Job). j.length) jobs) k 0) w.4 ∙ read net h lengths (λ (j : Job). j.length) (length net.tasks) t w.1 w.2 w.3)),
    )
  where
    fits : {next : ℕ} (e : IsProducer net h job next) → e.instance < instances net h e.from
    fits e = (let many : instances net h e.from ≡ instances net h e.to = ap (λ y. h / y) (joined net entries e.from e.to e.edge).2 in omega (arith, many, e.in_cycle))

    read : (net : Net) (h : ℕ) (lengths : List ℕ) (g : Job → ℕ) (n q i : ℕ) → q < n → i < instances net h q → get_or (map g (jobs_of net h lengths n)) (job_number net h q i) 0 ≡ g (job_of net lengths q i)
    read net h lengths g n q i a b =
        let jobs = jobs_of net h lengths n in
        let low : job_number net h q i < length (map g jobs) = (let x = is_job net h n q i a b in omega (arith, x, length-jobs_of net h lengths n, length-map jobs g)) in
        let d = job_of net lengths q i in
        get_or_default (map g jobs) (job_number net h q i) 0 (g d) low ∙ get_or-map g jobs (job_number net h q i) d ∙ ap g (job_there net h lengths n q i d a b)

-- one list alone meets the equation
pub only_remaining : (net : Net) (h : ℕ) (jobs : List Job) (order f g : List ℕ) → IsOrder (IsProducer net h) (length jobs) order →
    ((a b : ℕ) → IsProducer net h a b → b < length jobs) → length f ≡ length jobs → length g ≡ length jobs → IsRemaining net h jobs f → IsRemaining net h jobs g → f ≡ g
only_remaining net h jobs order f g is inside size size' one two =
    ext_get_or 0 f g (size ∙ sym size') (λ job low.
    (let place = place_of order job (is.whole job (omega (arith, low, size))) in
    let e : get_or order place.0 0 ≡ job = place.2 in
    ap (λ k. get_or f k 0) (sym e) ∙ same (length order) place.0 place.1 (omega arith) ∙ ap (λ k. get_or g k 0) e))
  where
    at_most : (f g : List ℕ) (job m n : ℕ) → ((next : ℕ) → IsProducer net h job next → get_or f next 0 ≡ get_or g next 0) → IsGreatestAfter net h f job m → IsGreatestAfter net h g job n → m ≤ n
    at_most f g job m n agree a b = elim a.reached [ inl z ↦ omega (arith, z) | inr w ↦ (let x = b.above w.0 w.1 in let y = agree w.0 w.1 in let z = w.2 in omega (arith, x, y, z)) ]

    join : (job : ℕ) → job < length jobs → ((next : ℕ) → IsProducer net h job next → get_or f next 0 ≡ get_or g next 0) → get_or f job 0 ≡ get_or g job 0
    join job low agree =
        let a = one job low in
        let b = two job low in
        let le = at_most f g job a.0 b.0 agree a.1 b.1 in
        let ge = at_most g f job b.0 a.0 (λ next e. sym (agree next e)) b.1 a.1 in
        let x = a.2 in
        let y = b.2 in
        omega (arith, le, ge, x, y)

    same : (n k : ℕ) → k < length order → length order ≤ k + n → get_or f (get_or order k 0) 0 ≡ get_or g (get_or order k 0) 0
    same zero k low far = absurd (omega (arith, low, far))
    same (suc n) k low far = join (get_or order k 0) (is.each k low).ready.is_one (λ next e.
        (let place = place_of order next (is.whole next (inside (get_or order k 0) next e)) in
        let p : get_or order place.0 0 ≡ next = place.2 in
        let after = later (IsProducer net h) (length jobs) order is k place.0 low place.1 (subst (IsProducer net h (get_or order k 0)) (sym p) e) in
        ap (λ x. get_or f x 0) (sym p) ∙ same n place.0 place.1 (omega (arith, after, far)) ∙ ap (λ x. get_or g x 0) p))

-- a successor is one of the cycle's jobs
pub next_is_job : (net : Net) → HasEntries net → (h : ℕ) (lengths : List ℕ) (a b : ℕ) → IsProducer net h a b → b < length (jobs_of net h lengths (length net.tasks))
next_is_job net entries h lengths a b e =
    let low = is_job net h (length net.tasks) e.to e.instance (joined net entries e.from e.to e.edge).1 e.in_cycle in
    omega (arith, low, e.to_is, length-jobs_of net h lengths (length net.tasks))
