-- The numbers of jobs: by task, and then by instance.
use Rattle.std.proofs.Common.{◌≡◌, ℕ, zero, suc, ◌+◌, ◌-◌, ◌<◌, ◌≤◌, inl, inr, ap, arith}
use Rattle.std.proofs.lemmas.Bool.{cases_lt, cases_eq}
use Rattle.graph.specs.declared.net.Net.{Net}
use Rattle.graph.specs.Net.{instances}
use Rattle.graph.specs.Cycle.{first_job}
use Rattle.graph.specs.Jobs.{job_number}

-- the jobs of a task stand before those of a later task
pub later_task : (net : Net) (h t q : ℕ) → t < q → first_job net h t + instances net h t ≤ first_job net h q
later_task net h t zero low = absurd (omega (arith, low))
later_task net h t (suc q) low = elim (cases_eq t q) [
  | inl e ↦ (let f : first_job net h t + instances net h t ≡ first_job net h q + instances net h q = ap (λ x. first_job net h x + instances net h x) e in omega (arith, f))
  | inr e ↦ (let f = later_task net h t q (omega (arith, low, e)) in omega (arith, f))
]

-- a job of an earlier task has a lesser number
pub less_number : (net : Net) (h t q i m : ℕ) → t < q → i < instances net h t → job_number net h t i < job_number net h q m
less_number net h t q i m low inside = let f = later_task net h t q low in omega (arith, f, inside)

-- a number names one task and one instance
pub one_job : (net : Net) (h t q i m : ℕ) → i < instances net h t → m < instances net h q → job_number net h t i ≡ job_number net h q m → (t ≡ q) × (i ≡ m)
one_job net h t q i m a b e = elim (cases_lt t q) [
  | inl low ↦ absurd (let f = less_number net h t q i m low a in omega (arith, f, e))
  | inr high ↦ elim (cases_eq t q) [
    | inl same ↦ (same, (let f : first_job net h t ≡ first_job net h q = ap (first_job net h) same in omega (arith, f, e)))
    | inr other ↦ absurd (let f = less_number net h q t m i (omega (arith, high, other)) b in omega (arith, f, e))
  ]
]

-- a job's number is one of the cycle's
pub is_job : (net : Net) (h n t i : ℕ) → t < n → i < instances net h t → job_number net h t i < first_job net h n
is_job net h n t i low inside = let f = later_task net h t n low in omega (arith, f, inside)

-- each number of a cycle's jobs names a task and an instance
pub job_at : (net : Net) (h n j : ℕ) → j < first_job net h n → (t : ℕ) × (i : ℕ) × (t < n) × (i < instances net h t) × (j ≡ job_number net h t i)
job_at net h zero j low = absurd (omega (arith, low))
job_at net h (suc n) j low = elim (cases_lt j (first_job net h n)) [
  | inl before ↦ (let w = job_at net h n j before in (w.0, w.1, omega (arith, w.2), w.3, w.4))
  | inr past ↦ (n, j - first_job net h n, omega arith, omega (arith, low, past), omega (arith, past))
]
