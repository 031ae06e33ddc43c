-- The state of each task of the unit after a tick.
use Rattle.std.proofs.Common.{◌≡◌, ℕ, zero, suc, ◌<◌, ◌≤◌, inl, inr, List, [], ℤ, Option, Some, None, refl, sym, ◌∙◌, ap, arith}
use Rattle.std.proofs.lemmas.Bool.{cases_eq, cases_lt, eq-eqb, ne_eqb}
use Rattle.mars_base.specs.declared.shape.Side.{Side}
use Rattle.net_run.specs.NetRun.{JobResult, kept}
use Rattle.cluster_model.specs.Plan.{Plan}
use Rattle.cluster_model.specs.PlanRun.{before, takes, comes_to, AreResults}
use Rattle.cluster_model.specs.Sound.{IsSoundPlan}
use Rattle.cluster_model.specs.State.{Status, state_in, Running, Member, Bus}
use Rattle.cluster_model.specs.Tick.{begun, opens, leaves, result_from, state_after, ticked}
use Rattle.cluster_agreement.specs.Keeps.{Falling, Keeps}
use Rattle.cluster_agreement.proofs.Jobs.{TakesRight, now_busy}
use Rattle.cluster_agreement.proofs.Reading.{listed_at}

module _ (p : Plan) where
  -- where no instance ends now, the state stays
  stays : (t : ℕ) (statuses : ℕ → Status) (task : ℕ) (old : List ℤ) (n : ℕ) → ((k : ℕ) → k < n → p.ends (p.number task k) ≡ suc t → ⊥) → state_after p t statuses task old n ≡ old
  stays t statuses task old zero h = refl
  stays t statuses task old (suc n) h =
      rw (ne_eqb (p.ends (p.number task n)) (suc t) (h n (omega arith))) (stays t statuses task old n (λ k l. h k (omega (arith, l))))

  -- where one ends now, it decides
  left : (t : ℕ) (statuses : ℕ → Status) (task : ℕ) (old : List ℤ) (n i : ℕ) → i < n → p.ends (p.number task i) ≡ suc t
      → ((k : ℕ) → i < k → k < n → p.ends (p.number task k) ≡ suc t → ⊥)
      → state_after p t statuses task old n ≡ leaves p (p.number task i) old (statuses (p.number task i))
  left t statuses task old zero i l e h = absurd (omega (arith, l))
  left t statuses task old (suc n) i l e h = elim (cases_eq i n) [
    | inl q ↦ rw (← q) (rw (eq-eqb (p.ends (p.number task i)) (suc t) e) refl)
    | inr o ↦ rw (ne_eqb (p.ends (p.number task n)) (suc t) (h n (omega (arith, l, o)) (omega arith)))
        (left t statuses task old n i (omega (arith, l, o)) e (λ k a b. h k a (omega (arith, b))))
  ]

  leaves_begun : (job : ℕ) (old s : List ℤ) (o : Option (List ℤ)) → old ≡ s → leaves p job old (begun s o) ≡ kept s (comes_to p job s o)
  leaves_begun job old s None e = e
  leaves_begun job old s (Some ins) e = ap (λ a. kept a (result_from p job s ins)) e

  module _ (out_words : ℕ → ℕ) (start : ℕ → List ℤ) (line : List ℤ) (res : ℕ → JobResult) (falling : Falling) (bus : Bus) (u : ℕ) (x : Side) (m : Member)
      (d : IsSoundPlan p out_words) (c : AreResults p start line res) (k : Keeps p start line res falling u x m) (q : m.mode ≡ Running) (t : TakesRight p res bus u m.held) where
    abbrev now : ℕ → List ℤ
    now task = state_after p m.held.clock (opens p bus u m.held line) task (state_in m.held task) (p.instances task)

    at : (task i : ℕ) → task < p.tasks → p.home task ≡ u → i ≤ p.instances task
        → ((k : ℕ) → k < i → p.ends (p.number task k) ≤ suc m.held.clock)
        → ((k : ℕ) → i ≤ k → k < p.instances task → suc m.held.clock < p.ends (p.number task k))
        → now task ≡ before p start res task i
    at task zero b e a h n =
        stays m.held.clock (opens p bus u m.held line) task (state_in m.held task) (p.instances task) (λ v l o. absurd (omega (arith, n v (omega arith) l, o)))
        ∙ k.states q task zero b e a (λ v l. absurd (omega (arith, l))) (λ v l o. omega (arith, n v l o))
    at task (suc i) b e a h n =
        let g = d.numbered task i b (omega (arith, a)) in
        let unit : p.unit (p.number task i) ≡ u = sym (d.home (p.number task i) g.0) ∙ ap p.home g.1 ∙ e in
        let ended : (v : ℕ) → v < i → p.ends (p.number task v) ≤ m.held.clock = λ v l.
        omega (arith, d.later task v i b l (omega (arith, a)), d.long (p.number task i) g.0, h i (omega arith)) in
        elim (cases_eq (p.ends (p.number task i)) (suc m.held.clock)) [
          | inl z ↦
              let old : state_in m.held task ≡ before p start res task i =
              k.states q task i b e (omega (arith, a)) ended
              (λ v l o. elim (cases_eq i v) [
                | inl s ↦ omega (arith, ap (λ y. p.ends (p.number task y)) s, z)
                | inr s ↦ omega (arith, n v (omega (arith, l, s)) o)
              ]) in
              let same : before p start res (p.task (p.number task i)) (p.instance (p.number task i)) ≡ before p start res task i =
              ap (λ y. before p start res y (p.instance (p.number task i))) g.1 ∙ ap (before p start res task) g.2 in
              left m.held.clock (opens p bus u m.held line) task (state_in m.held task) (p.instances task) i (omega (arith, a)) z
              (λ v l o y. absurd (omega (arith, n v (omega (arith, l)) o, y)))
              ∙ ap (leaves p (p.number task i) (state_in m.held task))
              (now_busy p out_words start line res falling bus u x m d c k q t (p.number task i) g.0 unit (omega (arith, d.long (p.number task i) g.0, z)) (omega (arith, z)))
              ∙ leaves_begun (p.number task i) (state_in m.held task) (before p start res (p.task (p.number task i)) (p.instance (p.number task i))) (takes p line res (p.number task i)) (old ∙ sym same)
              ∙ ap (kept (before p start res (p.task (p.number task i)) (p.instance (p.number task i)))) (sym (c (p.number task i) g.0))
              ∙ ap (λ s. kept s (res (p.number task i))) same
          | inr z ↦
              stays m.held.clock (opens p bus u m.held line) task (state_in m.held task) (p.instances task)
              (λ v l o. elim (cases_lt v i) [
                | inl s ↦ absurd (omega (arith, ended v s, o))
                | inr s ↦ elim (cases_eq i v) [ inl y ↦ z (ap (λ w. p.ends (p.number task w)) y ∙ o) | inr y ↦ absurd (omega (arith, n v (omega (arith, s, y)) l, o)) ]
              ])
              ∙ k.states q task (suc i) b e a
              (λ v l. elim (cases_eq v i) [
                | inl y ↦ omega (arith, ap (λ w. p.ends (p.number task w)) y, z, h i (omega arith))
                | inr y ↦ ended v (omega (arith, l, y))
              ])
              (λ v l o. omega (arith, n v l o))
        ]

    pub still_states : (task i : ℕ) → task < p.tasks → p.home task ≡ u → i ≤ p.instances task
        → ((k : ℕ) → k < i → p.ends (p.number task k) ≤ suc m.held.clock)
        → ((k : ℕ) → i ≤ k → k < p.instances task → suc m.held.clock < p.ends (p.number task k))
        → state_in (ticked p bus line u m.held) task ≡ before p start res task i
    still_states task i b e a h n = listed_at p.tasks now task [] b ∙ at task i b e a h n
