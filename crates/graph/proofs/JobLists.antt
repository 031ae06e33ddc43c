-- The job with a number.
use Rattle.std.proofs.Common.{◌≡◌, ℕ, zero, suc, ◌+◌, ◌<◌, inl, inr, List, [], ◌∷◌, ◌++◌, length, get_or, refl, sym, ◌∙◌, ap, subst, arith, length-append}
use Rattle.std.proofs.lemmas.Bool.{cases_eq}
use Rattle.std.proofs.lemmas.List.{get_or_append_left, get_or_push}
use Rattle.graph.specs.declared.net.Net.{Net}
use Rattle.graph.specs.declared.job.Job.{Job}
use Rattle.graph.specs.Net.{instances}
use Rattle.graph.specs.Cycle.{first_job}
use Rattle.graph.specs.Jobs.{job_of, jobs_of_task, jobs_of, job_number}
use Rattle.graph.proofs.Numbers.{later_task}

pub length-jobs_of_task : (net : Net) (lengths : List ℕ) (t n : ℕ) → length (jobs_of_task net lengths t n) ≡ n
length-jobs_of_task net lengths t zero = refl
length-jobs_of_task net lengths t (suc n) = let e = length-jobs_of_task net lengths t n in let f = length-append (jobs_of_task net lengths t n) (job_of net lengths t n ∷ []) in omega (arith, e, f)

pub length-jobs_of : (net : Net) (h : ℕ) (lengths : List ℕ) (n : ℕ) → length (jobs_of net h lengths n) ≡ first_job net h n
length-jobs_of net h lengths zero = refl
length-jobs_of net h lengths (suc n) =
    let e = length-jobs_of net h lengths n in
    let f = length-jobs_of_task net lengths n (instances net h n) in
    let g = length-append (jobs_of net h lengths n) (jobs_of_task net lengths n (instances net h n)) in
    omega (arith, e, f, g)

job_of_task : (net : Net) (lengths : List ℕ) (t n i : ℕ) (d : Job) → i < n → get_or (jobs_of_task net lengths t n) i d ≡ job_of net lengths t i
job_of_task net lengths t zero i d low = absurd (omega (arith, low))
job_of_task net lengths t (suc n) i d low =
    let e = length-jobs_of_task net lengths t n in
    elim (cases_eq i n) [
      | inl last ↦ (let there : length (jobs_of_task net lengths t n) ≡ i = omega (arith, e, last) in get_or_push (jobs_of_task net lengths t n) (job_of net lengths t n) d i there ∙ ap (job_of net lengths t) (sym last))
      | inr other ↦ get_or_append_left (jobs_of_task net lengths t n) (job_of net lengths t n ∷ []) d i (omega (arith, e, low, other)) ∙ job_of_task net lengths t n i d (omega (arith, low, other))
    ]

-- the job at its number
pub job_there : (net : Net) (h : ℕ) (lengths : List ℕ) (n t i : ℕ) (d : Job) → t < n → i < instances net h t → get_or (jobs_of net h lengths n) (job_number net h t i) d ≡ job_of net lengths t i
job_there net h lengths zero t i d low inside = absurd (omega (arith, low))
job_there net h lengths (suc n) t i d low inside =
    let e = length-jobs_of net h lengths n in
    elim (cases_eq t n) [
      | inl last ↦
          let far : length (jobs_of net h lengths n) + i ≡ job_number net h t i = (let f : first_job net h t ≡ first_job net h n = ap (first_job net h) last in omega (arith, e, f)) in
          ap (λ k. get_or (jobs_of net h lengths n ++ jobs_of_task net lengths n (instances net h n)) k d) (sym far)
          ∙ after (jobs_of net h lengths n) (jobs_of_task net lengths n (instances net h n)) d i
          ∙ job_of_task net lengths n (instances net h n) i d (subst (λ x. i < instances net h x) last inside)
          ∙ ap (λ x. job_of net lengths x i) (sym last)
      | inr other ↦
          let f = later_task net h t n (omega (arith, low, other)) in
          get_or_append_left (jobs_of net h lengths n) (jobs_of_task net lengths n (instances net h n)) d (job_number net h t i) (omega (arith, e, f, inside)) ∙ job_there net h lengths n t i d (omega (arith, low, other)) inside
    ]
  where
    after : (xs ys : List Job) (d : Job) (i : ℕ) → get_or (xs ++ ys) (length xs + i) d ≡ get_or ys i d
    after [] ys d i = ap (λ k. get_or ys k d) (omega arith)
    after (x ∷ xs) ys d i = (let e : suc (length xs) + i ≡ suc (length xs + i) = omega arith in ap (λ k. get_or (x ∷ (xs ++ ys)) k d) e ∙ after xs ys d i)
