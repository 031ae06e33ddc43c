-- The end of a cycle.
use Rattle.std.proofs.Common.{◌≡◌, ℕ, zero, suc, ◌<◌, ◌⊎◌, inl, inr, List, [], ◌∷◌, length, get_or, ℤ, Bool, true, false, cond, nat_eq, Option, Some, None, refl, sym, ◌∙◌, ap, subst, arith}
use Rattle.std.specs.List.{list_all}
use Rattle.std.proofs.lemmas.Bool.{cases_lt, true≢false, and_parts, or_cases, eqb-true}
use Rattle.mars_base.specs.declared.shape.Side.{Side}
use Rattle.mars_base.specs.declared.shape.Side.TheVariants.{A, B}
use Rattle.net_run.specs.NetRun.{JobResult, Done, Broken, Skipped, given_by}
use Rattle.cluster_model.specs.Plan.{Plan}
use Rattle.cluster_model.specs.PlanRun.{before, after, takes, comes_to, AreResults}
use Rattle.cluster_model.specs.Sound.{IsSoundPlan}
use Rattle.cluster_model.specs.State.{Status, Waiting, Busy, Gave, Broke, PassedOver, IsTold, told, given, state_in, status_in, Mode, Running, Silent, Member, no_member, replica_number, member_of}
use Rattle.cluster_model.specs.Tick.{begun, a_or_b}
use Rattle.cluster_model.specs.Cluster.{is_silent, is_through, left_by}
use Rattle.cluster_agreement.specs.Keeps.{Falling, Keeps, Holds}
use Rattle.cluster_agreement.proofs.Frames.{alive}
use Rattle.cluster_agreement.proofs.Reading.{number_within}

list_all_at : (test : Member → Bool) (xs : List Member) (i : ℕ) → list_all test xs ≡ true → i < length xs → test (get_or xs i no_member) ≡ true
list_all_at test [] i e low = absurd (omega (arith, low))
list_all_at test (x ∷ xs) zero e low = (and_parts (test x) (list_all test xs) e).0
list_all_at test (x ∷ xs) (suc i) e low = list_all_at test xs i (and_parts (test x) (list_all test xs) e).1 (omega (arith, low))

through_clock : (p : Plan) (m : Member) → is_through p m ≡ true → m.mode ≡ Running → m.held.clock ≡ p.cycle
through_clock p m e q = elim (or_cases (is_silent m.mode) (nat_eq m.held.clock p.cycle) e) [
  | inl s ↦ absurd (true≢false (sym s ∙ ap is_silent q))
  | inr c ↦ eqb-true m.held.clock p.cycle c
]

pick : (a b r : Option (List ℤ)) → (a ≡ None) ⊎ (a ≡ r) → (b ≡ None) ⊎ (b ≡ r) → (a ≡ r) ⊎ (b ≡ r) → a_or_b a b ≡ r
pick None b r h i (inl e) = elim i [ inl n ↦ n ∙ e | inr m ↦ m ]
pick None b r h i (inr e) = e
pick (Some ws) b r (inl n) i k = absurd (let q : Some ws ≡ None = n in cc)
pick (Some ws) b r (inr e) i k = e

pub given_told : (r : JobResult) → given (told r) ≡ given_by r
given_told (Done results) = refl
given_told Broken = refl
given_told Skipped = refl

module _ (p : Plan) (out_words : ℕ → ℕ) (start : ℕ → List ℤ) (line : List ℤ) (res : ℕ → JobResult) (falling : Falling)
    (d : IsSoundPlan p out_words) (c : AreResults p start line res) where
  begun_told : (s : List ℤ) (i : Option (List ℤ)) (job : ℕ) → IsTold (begun s i) → begun s i ≡ told (comes_to p job s i)
  begun_told s None job t = refl
  begun_told s (Some ins) job t = absurd t

  -- a job that a replica has ended or skipped has its result
  pub told_right : (u : ℕ) (x : Side) (m : Member) → Keeps p start line res falling u x m → (job : ℕ) → job < p.jobs → p.unit job ≡ u
      → IsTold (status_in m.held job) → status_in m.held job ≡ told (res job)
  told_right u x m k job b e t = elim (cases_lt (p.starts job) m.held.clock) [
    | inr l ↦ absurd (subst IsTold (k.waiting job b e l) t)
    | inl l ↦ elim (cases_lt m.held.clock (p.ends job)) [
      | inl n ↦
          let s = k.busy job b e l n in
          s ∙ begun_told (before p start res (p.task job) (p.instance job)) (takes p line res job) job (subst IsTold s t) ∙ ap told (sym (c job b))
      | inr n ↦ k.over job b e n
    ]
  ]

  -- what is given of a job is nothing or its outputs
  given_right : (u : ℕ) (x : Side) (m : Member) → Keeps p start line res falling u x m → (job : ℕ) → job < p.jobs → p.unit job ≡ u
      → (given (status_in m.held job) ≡ None) ⊎ (given (status_in m.held job) ≡ given (told (res job)))
  given_right u x m k job b e = by (status_in m.held job) (told_right u x m k job b e)
    where
      by : (s : Status) → (IsTold s → s ≡ told (res job)) → (given s ≡ None) ⊎ (given s ≡ given (told (res job)))
      by Waiting h = inl refl
      by (Busy a i) h = inl refl
      by (Gave outs) h = inr (ap given (h tt))
      by Broke h = inr (ap given (h tt))
      by PassedOver h = inr (ap given (h tt))

  -- the state that a running replica leaves at the cycle's end is the one along the graph
  left_right : (u : ℕ) (x : Side) (m : Member) → Keeps p start line res falling u x m → m.mode ≡ Running → m.held.clock ≡ p.cycle
      → (task : ℕ) → task < p.tasks → p.home task ≡ u → state_in m.held task ≡ after p start res task
  left_right u x m k q t task b e =
      k.states q task (p.instances task) b e (omega arith)
      (λ i l. omega (arith, d.within (p.number task i) (d.numbered task i b l).0, t))
      (λ i l n. absurd (omega (arith, l, n)))

  -- a task's unit is one of the cluster's
  home_within : (task : ℕ) → task < p.tasks → p.home task < p.units
  home_within task b =
      let g = d.numbered task 0 b (d.every task b) in
      let e : p.home task ≡ p.unit (p.number task 0) = ap p.home (sym g.1) ∙ d.home (p.number task 0) g.0 in
      omega (arith, d.placed (p.number task 0) g.0, e)

  module _ (members : List Member) (h : Holds p start line res falling members) (runs : (u : ℕ) → u < p.units → (x : Side) × ((t : ℕ) → t < p.cycle → falling u x t ≡ false))
      (o : list_all (is_through p) members ≡ true) where
    clock_end : (u : ℕ) (x : Side) → u < p.units → (member_of members u x).mode ≡ Running → (member_of members u x).held.clock ≡ p.cycle
    clock_end u x l q = through_clock p (member_of members u x) (list_all_at (is_through p) members (replica_number u x) o (omega (arith, number_within p.units u x l, h.size))) q

    -- each job was ended or skipped by a replica that runs
    pub all_told : (u : ℕ) → u < p.units → (x : Side) × ((member_of members u x).mode ≡ Running)
        × ((job : ℕ) → job < p.jobs → p.unit job ≡ u → status_in (member_of members u x).held job ≡ told (res job))
    all_told u l =
        let y = runs u l in
        let k = h.each u y.0 l in
        let q = alive p start line res falling u y.0 (member_of members u y.0) k y.1 in
        let t = clock_end u y.0 l q in
        (y.0, q, λ job b e. k.over job b e (omega (arith, d.within job b, t)))

    pub outs_right : (job : ℕ) → job < p.jobs →
        a_or_b (given (status_in (member_of members (p.unit job) A).held job)) (given (status_in (member_of members (p.unit job) B).held job)) ≡ given (told (res job))
    outs_right job b =
        let l : p.unit job < p.units = d.placed job b in
        let y = all_told (p.unit job) l in
        by y.0 (ap given (y.2 job b refl)) (given_right (p.unit job) A (member_of members (p.unit job) A) (h.each (p.unit job) A l) job b refl)
        (given_right (p.unit job) B (member_of members (p.unit job) B) (h.each (p.unit job) B l) job b refl)
      where
        by : (x : Side) → given (status_in (member_of members (p.unit job) x).held job) ≡ given (told (res job))
            → (given (status_in (member_of members (p.unit job) A).held job) ≡ None) ⊎ (given (status_in (member_of members (p.unit job) A).held job) ≡ given (told (res job)))
            → (given (status_in (member_of members (p.unit job) B).held job) ≡ None) ⊎ (given (status_in (member_of members (p.unit job) B).held job) ≡ given (told (res job)))
            → a_or_b (given (status_in (member_of members (p.unit job) A).held job)) (given (status_in (member_of members (p.unit job) B).held job)) ≡ given (told (res job))
        by A e a n = pick _ _ _ (inr e) n (inl e)
        by B e a n = pick _ _ _ a (inr e) (inr e)

    running : (u : ℕ) (x : Side) → u < p.units → (task : ℕ) → task < p.tasks → p.home task ≡ u → (member_of members u x).mode ≡ Running
        → state_in (member_of members u x).held task ≡ after p start res task
    running u x l task b e q = left_right u x (member_of members u x) (h.each u x l) q (clock_end u x l q) task b e

    pub left_along : (task : ℕ) → task < p.tasks → (old : List ℤ) → left_by (member_of members (p.home task) A) (member_of members (p.home task) B) task old ≡ after p start res task
    left_along task b old =
        let l = home_within task b in
        let y = runs (p.home task) l in
        let q = alive p start line res falling (p.home task) y.0 (member_of members (p.home task) y.0) (h.each (p.home task) y.0 l) y.1 in
        by (member_of members (p.home task) A).mode (member_of members (p.home task) B).mode refl refl y.0 q
      where
        by : (a n : Mode) → (member_of members (p.home task) A).mode ≡ a → (member_of members (p.home task) B).mode ≡ n → (x : Side) → (member_of members (p.home task) x).mode ≡ Running
            → cond (is_silent a) (cond (is_silent n) old (state_in (member_of members (p.home task) B).held task)) (state_in (member_of members (p.home task) A).held task) ≡ after p start res task
        by Running n ea en x q = running (p.home task) A (home_within task b) task b refl ea
        by Silent Running ea en x q = running (p.home task) B (home_within task b) task b refl en
        by Silent Silent ea en A q = absurd (let z : Silent ≡ Running = sym ea ∙ q in cc)
        by Silent Silent ea en B q = absurd (let z : Silent ≡ Running = sym en ∙ q in cc)

    pub run_clock : (u : ℕ) (x : Side) → u < p.units → (member_of members u x).mode ≡ Running → (member_of members u x).held.clock ≡ p.cycle
    run_clock = clock_end
