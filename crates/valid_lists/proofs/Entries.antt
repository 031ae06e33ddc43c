-- The entries of a list's tables.
use Rattle.std.proofs.Common.{◌≡◌, ℕ, zero, suc, ◌<◌, inl, inr, List, [], ◌∷◌, length, get_or, Some, refl, sym, ap, ◌∙◌, subst, arith, length-append}
use Rattle.std.specs.Int.{bit_at}
use Rattle.std.proofs.Math.ListN.{get_or-append}
use Rattle.std.proofs.Math.Seq.{get_or-append_seam}
use Rattle.std.proofs.lemmas.Bool.{cases_eq}
use Rattle.graph.specs.declared.net.Net.{Net}
use Rattle.graph.specs.JobGraph.{JobGraph}
use Rattle.graph.specs.Net.{units_of}
use Rattle.tables.specs.declared.table.JobEntry.{JobEntry}
use Rattle.tables.specs.declared.table.Tables.{Tables}
use Rattle.tables.specs.Named.{no_entry, job_at, entry_at, ShareATick}
use Rattle.tables.specs.Rules.{HasEachJob, HasUnits, HasLengths, SharesNoTick, StartsAfterRelease, EndsByDeadline}
use Rattle.decisions.specs.declared.problem.Work.{Work}
use Rattle.decisions.specs.Decision.{Decision, no_work, work_at, decision_on}
use Rattle.decisions.specs.ProblemOf.{work_of, works_of, problem_of}
use Rattle.decisions.specs.TablesOf.{entry_of, entries_of, tables_of}
use Rattle.net_problem.proofs.ByNumber.{works_length}
use Rattle.reached.proofs.Members.{In}
use Rattle.reached.proofs.Good.{on_is, good}
use Rattle.reached.proofs.Prunes.{all_placed}
use Rattle.valid_lists.proofs.Along.{IsFull}
use Rattle.valid_lists.proofs.Apart.{all_clear}
use Rattle.valid_lists.proofs.Units.{homes}

entries_length : (l : List Decision) (n : ℕ) → length (entries_of l n) ≡ n
entries_length l zero = refl
entries_length l (suc n) = let h = entries_length l n in let a = length-append (entries_of l n) (entry_of (decision_on l n) ∷ []) in omega arith

entries_at : (l : List Decision) (n job : ℕ) → job < n → get_or (entries_of l n) job no_entry ≡ entry_of (decision_on l job)
entries_at l zero job low = absurd (omega arith)
entries_at l (suc n) job low =
    let size = entries_length l n in
    elim (cases_eq job n) [
      | inl e ↦ (let at : length (entries_of l n) ≡ job = omega arith in
          subst (λ k. get_or (entries_of l (suc n)) k no_entry ≡ entry_of (decision_on l job)) at
          (get_or-append_seam (entries_of l n) (entry_of (decision_on l n)) [] no_entry ∙ ap (λ k. entry_of (decision_on l k)) (sym e)))
      | inr ne ↦ get_or-append (entries_of l n) (entry_of (decision_on l n) ∷ []) no_entry job (omega arith) ∙ entries_at l n job (omega arith)
    ]

pub works_at : (net : Net) (g : JobGraph) (n job : ℕ) → job < n → get_or (works_of net g n) job no_work ≡ work_of net g job
works_at net g zero job low = absurd (omega arith)
works_at net g (suc n) job low =
    let size = works_length net g n in
    elim (cases_eq job n) [
      | inl e ↦ (let at : length (works_of net g n) ≡ job = omega arith in
          subst (λ k. get_or (works_of net g (suc n)) k no_work ≡ work_of net g job) at (get_or-append_seam (works_of net g n) (work_of net g n) [] no_work ∙ ap (work_of net g) (sym e)))
      | inr ne ↦ get_or-append (works_of net g n) (work_of net g n ∷ []) no_work job (omega arith) ∙ works_at net g n job (omega arith)
    ]

-- the tables that a list gives to a net
abbrev pub net_tables : Net → JobGraph → List Decision → Tables
net_tables net g l = tables_of (problem_of net g) l

pub entry_is : (net : Net) (g : JobGraph) (l : List Decision) (job : ℕ) → job < length g.jobs → entry_at (net_tables net g l) job ≡ entry_of (decision_on l job)
entry_is net g l job low = let size = works_length net g (length g.jobs) in entries_at l (length (problem_of net g).works) job (omega arith)

-- a job with its decision
pub record IsOn (net : Net) (g : JobGraph) (l : List Decision) (job : ℕ) : Type 0 where
  pub decision : Decision
  pub in_list : In l decision
  pub on : decision_on l job ≡ Some decision
  pub job_is : decision.job ≡ job
  pub entry : entry_at (net_tables net g l) job ≡ entry_of (Some decision)
  pub work : work_at (problem_of net g) decision.job ≡ work_of net g job

pub is_on : (net : Net) (g : JobGraph) (l : List Decision) (job : ℕ) → IsFull (problem_of net g) l → job < length g.jobs → IsOn net g l job
is_on net g l job f low =
    let size = works_length net g (length g.jobs) in
    let p = all_placed (problem_of net g) l f.reached f.size job (omega arith) in
    let o = on_is l job p.0 p.1 in
    record {
      decision = p.0;
      in_list = o.0;
      on = p.1;
      job_is = o.1;
      entry = entry_is net g l job low ∙ ap entry_of p.1;
      work = ap (work_at (problem_of net g)) o.1 ∙ works_at net g (length g.jobs) job low;
    }

-- Rule 1
pub each_job : (net : Net) (g : JobGraph) (l : List Decision) → IsFull (problem_of net g) l → HasEachJob g (net_tables net g l)
each_job net g l f =
    let size = works_length net g (length g.jobs) in
    let count : length (net_tables net g l).jobs ≡ length g.jobs = entries_length l (length (problem_of net g).works) ∙ size in
    record {
      count = count;
      numbers = λ job low. (let p = is_on net g l job f (omega arith) in ap (λ (e : JobEntry). e.job) p.entry ∙ p.job_is);
    }

-- Rule 2
pub units : (net : Net) (g : JobGraph) (l : List Decision) → IsFull (problem_of net g) l → HasUnits net g (net_tables net g l)
units net g l f =
    let h = homes (problem_of net g) l f.reached in
    record {
      allowed = λ job low. (
          let p = is_on net g l job f low in
          let a = h.allowed p.decision p.in_list in
          subst (λ (e : JobEntry). bit_at (units_of net (job_at g job).task) e.unit ≡ 1) (sym p.entry) (subst (λ (w : Work). bit_at w.units p.decision.unit ≡ 1) p.work a));
      same = λ job other low there e. (
          let p = is_on net g l job f low in
          let q = is_on net g l other f there in
          let task : (work_at (problem_of net g) p.decision.job).task ≡ (work_at (problem_of net g) q.decision.job).task = ap (λ (w : Work). w.task) p.work ∙ (e ∙ sym (ap (λ (w : Work). w.task) q.work)) in
          ap (λ (x : JobEntry). x.unit) p.entry ∙ (h.same p.decision q.decision p.in_list q.in_list task ∙ sym (ap (λ (x : JobEntry). x.unit) q.entry)));
    }

-- Rule 3
pub lengths : (net : Net) (g : JobGraph) (l : List Decision) → IsFull (problem_of net g) l → HasLengths g (net_tables net g l)
lengths net g l f job low =
    let p = is_on net g l job f low in
    let k = (good (problem_of net g) l f.reached).kept p.decision p.in_list in
    let n : (work_at (problem_of net g) p.decision.job).length ≡ (job_at g job).length = ap (λ (w : Work). w.length) p.work in
    let start : (entry_at (net_tables net g l) job).start ≡ p.decision.start = ap (λ (x : JobEntry). x.start) p.entry in
    let end : (entry_at (net_tables net g l) job).end ≡ p.decision.end = ap (λ (x : JobEntry). x.end) p.entry in
    omega (arith, k.span)

-- Rule 4
pub no_tick : (net : Net) (g : JobGraph) (l : List Decision) → IsFull (problem_of net g) l → SharesNoTick g (net_tables net g l)
no_tick net g l f job other low there ne s =
    let p = is_on net g l job f low in
    let q = is_on net g l other f there in
    let a : ShareATick (entry_of (Some p.decision)) (entry_at (net_tables net g l) other) = subst (λ (x : JobEntry). ShareATick x (entry_at (net_tables net g l) other)) p.entry s in
    let b : ShareATick (entry_of (Some p.decision)) (entry_of (Some q.decision)) = subst (λ (x : JobEntry). ShareATick (entry_of (Some p.decision)) x) q.entry a in
    let t = b.together in
    elim (all_clear (problem_of net g) l f.reached p.decision q.decision p.in_list q.in_list (λ e. ne (sym p.job_is ∙ (e ∙ q.job_is))) b.unit) [
      | inl h ↦ omega (arith, t.1.1, t.2.0)
      | inr h ↦ omega (arith, t.1.0, t.2.1)
    ]

-- Rule 5
pub releases : (net : Net) (g : JobGraph) (l : List Decision) → IsFull (problem_of net g) l → StartsAfterRelease g (net_tables net g l)
releases net g l f job low =
    let p = is_on net g l job f low in
    let k = (good (problem_of net g) l f.reached).kept p.decision p.in_list in
    let n : (work_at (problem_of net g) p.decision.job).release ≡ (job_at g job).release = ap (λ (w : Work). w.release) p.work in
    let start : (entry_at (net_tables net g l) job).start ≡ p.decision.start = ap (λ (x : JobEntry). x.start) p.entry in
    omega (arith, k.after)

-- Rule 6
pub deadlines : (net : Net) (g : JobGraph) (l : List Decision) → IsFull (problem_of net g) l → EndsByDeadline g (net_tables net g l)
deadlines net g l f job low =
    let p = is_on net g l job f low in
    let k = (good (problem_of net g) l f.reached).kept p.decision p.in_list in
    let n : (work_at (problem_of net g) p.decision.job).deadline ≡ (job_at g job).deadline = ap (λ (w : Work). w.deadline) p.work in
    let end : (entry_at (net_tables net g l) job).end ≡ p.decision.end = ap (λ (x : JobEntry). x.end) p.entry in
    omega (arith, k.due)
