-- What is known of each job of the unit after a tick.
use Rattle.std.proofs.Common.{◌≡◌, ℕ, suc, ◌<◌, ◌≤◌, inl, inr, List, ℤ, Option, Some, None, refl, sym, ◌∙◌, ap, arith}
use Rattle.std.proofs.lemmas.Bool.{cases_eq, eq-eqb, ne_eqb}
use Rattle.mars_base.specs.declared.shape.Side.{Side}
use Rattle.net_run.specs.NetRun.{JobResult}
use Rattle.cluster_model.specs.Plan.{Plan}
use Rattle.cluster_model.specs.PlanRun.{before, along, takes, comes_to, AreResults}
use Rattle.cluster_model.specs.Sound.{IsSoundPlan, Serves, maker}
use Rattle.cluster_model.specs.State.{Status, Waiting, told, Held, state_in, status_in, Running, Member, Bus}
use Rattle.cluster_model.specs.Tick.{begun, took, finds, opens, ended, closes, ticked}
use Rattle.cluster_agreement.specs.Keeps.{Falling, began, Keeps}
use Rattle.cluster_agreement.proofs.Reading.{listed_at}

-- what a replica takes up to its clock is what the results say
abbrev pub TakesRight : Plan → (res : ℕ → JobResult) → Bus → (unit : ℕ) → Held → Type 0
TakesRight p res bus unit h = (n : ℕ) → n < p.messages → p.receiver n ≡ unit → p.usable (p.round_of n) (p.sender n) ≤ h.clock
    → took p bus unit h n ≡ along p res (p.edge_of n) (p.instance_of n)

module _ (p : Plan) where
  pub opens_at : (bus : Bus) (line : List ℤ) (u : ℕ) (h : Held) (job : ℕ) → p.unit job ≡ u → p.starts job ≡ h.clock →
      opens p bus u h line job ≡ begun (state_in h (p.task job)) (p.inputs line (finds p bus u h job) job)
  opens_at bus line u h job e s = rw (eq-eqb (p.unit job) u e, eq-eqb (p.starts job) h.clock s) refl

  pub opens_other : (bus : Bus) (line : List ℤ) (u : ℕ) (h : Held) (job : ℕ) → p.unit job ≡ u → (p.starts job ≡ h.clock → ⊥) → opens p bus u h line job ≡ status_in h job
  opens_other bus line u h job e s = rw (eq-eqb (p.unit job) u e, ne_eqb (p.starts job) h.clock s) refl

  pub closes_at : (t job : ℕ) (s : Status) → p.ends job ≡ suc t → closes p t job s ≡ ended p job s
  closes_at t job s e = rw (eq-eqb (p.ends job) (suc t) e) refl

  pub closes_other : (t job : ℕ) (s : Status) → (p.ends job ≡ suc t → ⊥) → closes p t job s ≡ s
  closes_other t job s e = rw (ne_eqb (p.ends job) (suc t) e) refl

  pub ended_begun : (job : ℕ) (s : List ℤ) (o : Option (List ℤ)) → ended p job (begun s o) ≡ told (comes_to p job s o)
  ended_begun job s None = refl
  ended_begun job s (Some ins) = refl

  module _ (out_words : ℕ → ℕ) (start : ℕ → List ℤ) (line : List ℤ) (res : ℕ → JobResult) (falling : Falling) (bus : Bus) (u : ℕ) (x : Side) (m : Member)
      (d : IsSoundPlan p out_words) (c : AreResults p start line res) (k : Keeps p start line res falling u x m) (q : m.mode ≡ Running) (t : TakesRight p res bus u m.held) where
    -- what a starting job finds on an edge is what the results say
    finds_right : (job : ℕ) → p.unit job ≡ u → p.starts job ≡ m.held.clock → (edge : ℕ) → Serves p job edge → finds p bus u m.held job edge ≡ along p res edge (p.instance job)
    finds_right job e s edge v = elim v.way [
      | inl a ↦
          let l : p.unit (maker p edge (p.instance job)) ≡ u = a.0 ∙ e in
          let o : status_in m.held (maker p edge (p.instance job)) ≡ told (res (maker p edge (p.instance job))) = k.over (maker p edge (p.instance job)) v.made l (omega (arith, a.1, s)) in
          rw (eq-eqb (p.unit (maker p edge (p.instance job))) u l) (d.carries edge (p.instance job) (status_in m.held) (λ i. told (res i)) o)
      | inr a ↦
          let n : p.unit (maker p edge (p.instance job)) ≡ u → ⊥ = λ z. a.0 (z ∙ sym e) in
          rw (ne_eqb (p.unit (maker p edge (p.instance job))) u n)
          (t (p.message edge (p.instance job)) a.1.known (a.1.receiver ∙ e) (omega (arith, a.1.usable, s))
          ∙ ap (λ y. along p res y (p.instance_of (p.message edge (p.instance job)))) a.1.edge_is
          ∙ ap (along p res edge) a.1.instance_is)
    ]

    -- the state from which a job starts
    starts_from : (job : ℕ) → job < p.jobs → p.unit job ≡ u → p.starts job ≡ m.held.clock → state_in m.held (p.task job) ≡ before p start res (p.task job) (p.instance job)
    starts_from job b e s =
        let at = d.number job b in
        let within = d.instance job b in
        let task = d.task job b in
        k.states q (p.task job) (p.instance job) task (d.home job b ∙ e) (omega (arith, within))
        (λ i l. omega (arith, d.later (p.task job) i (p.instance job) task l within, ap p.starts at, s))
        (λ i l n. elim (cases_eq (p.instance job) i) [
          | inl g ↦ omega (arith, ap (λ a. p.ends (p.number (p.task job) a)) g, ap p.ends at, d.long job b, s)
          | inr g ↦ omega (arith, d.later (p.task job) (p.instance job) i task (omega (arith, l, g)) n, ap p.ends at, d.long job b, d.long (p.number (p.task job) i) (d.numbered (p.task job) i task n).0, s)
        ])

    -- the job that starts now
    opened : (job : ℕ) → job < p.jobs → p.unit job ≡ u → p.starts job ≡ m.held.clock → opens p bus u m.held line job ≡ began p start line res job
    opened job b e s =
        opens_at bus line u m.held job e s
        ∙ ap (λ a. begun a (p.inputs line (finds p bus u m.held job) job)) (starts_from job b e s)
        ∙ ap (begun (before p start res (p.task job) (p.instance job)))
        (d.serves job line (finds p bus u m.held job) (λ edge. along p res edge (p.instance job)) b (finds_right job e s))

    closed : (job : ℕ) → job < p.jobs → ended p job (began p start line res job) ≡ told (res job)
    closed job b = ended_begun job (before p start res (p.task job) (p.instance job)) (takes p line res job) ∙ ap told (sym (c job b))

    abbrev next : ℕ → Status
    next job = closes p m.held.clock job (opens p bus u m.held line job)

    next_at : (job : ℕ) → job < p.jobs → status_in (ticked p bus line u m.held) job ≡ next job
    next_at job b = listed_at p.jobs next job Waiting b

    pub still_waiting : (job : ℕ) → job < p.jobs → p.unit job ≡ u → suc m.held.clock ≤ p.starts job → status_in (ticked p bus line u m.held) job ≡ Waiting
    still_waiting job b e l =
        next_at job b
        ∙ closes_other m.held.clock job (opens p bus u m.held line job) (λ z. absurd (omega (arith, d.long job b, z, l)))
        ∙ opens_other bus line u m.held job e (λ z. absurd (omega (arith, z, l)))
        ∙ k.waiting job b e (omega (arith, l))

    pub now_busy : (job : ℕ) → job < p.jobs → p.unit job ≡ u → p.starts job < suc m.held.clock → m.held.clock < p.ends job → opens p bus u m.held line job ≡ began p start line res job
    now_busy job b e l n = elim (cases_eq (p.starts job) m.held.clock) [
      | inl s ↦ opened job b e s
      | inr o ↦ opens_other bus line u m.held job e o ∙ k.busy job b e (omega (arith, l, o)) n
    ]

    pub still_busy : (job : ℕ) → job < p.jobs → p.unit job ≡ u → p.starts job < suc m.held.clock → suc m.held.clock < p.ends job
        → status_in (ticked p bus line u m.held) job ≡ began p start line res job
    still_busy job b e l n =
        next_at job b
        ∙ closes_other m.held.clock job (opens p bus u m.held line job) (λ z. absurd (omega (arith, z, n)))
        ∙ now_busy job b e l (omega (arith, n))

    pub now_over : (job : ℕ) → job < p.jobs → p.unit job ≡ u → p.ends job ≤ suc m.held.clock → status_in (ticked p bus line u m.held) job ≡ told (res job)
    now_over job b e l = next_at job b ∙ elim (cases_eq (p.ends job) (suc m.held.clock)) [
      | inl z ↦ closes_at m.held.clock job (opens p bus u m.held line job) z
          ∙ ap (ended p job) (now_busy job b e (omega (arith, d.long job b, z)) (omega (arith, z)))
          ∙ closed job b
      | inr n ↦ closes_other m.held.clock job (opens p bus u m.held line job) n
          ∙ opens_other bus line u m.held job e (λ z. absurd (omega (arith, d.long job b, n, l, z)))
          ∙ k.over job b e (omega (arith, n, l))
    ]
