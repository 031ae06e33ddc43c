-- Whole runs and executions under a limit, both ways.
use Rattle.std.proofs.Common.{◌≡◌, ℕ, zero, suc, ◌+◌, ◌<◌, ◌≤◌, Bool, true, false, cond, refl, sym, ap, ◌∙◌, subst, arith, ◌⊎◌, inl, inr}
use Rattle.std.specs.Prelude.{nat_le}
use Rattle.std.proofs.lemmas.Bool.{leb-true, leb-false}
use Rattle.processor.specs.Ends.{End, Halted, Broken, Next, Goes, Ends, Stuck, Limited, Over, Cut}
use Rattle.processor.specs.System.{System, IsCosted, RunOf, ends, goes, cycles_of, ReachesBy, here, onward, followed, steps, exec_by, IsTiedBy}
use Rattle.processor.proofs.ByStep.{exec_cut, exec_on, exec_over}

-- two executions that are over alike end alike
pub over_same : {A : Type 0} (how other : End A) (j k : ℕ) → Over how j ≡ Over other k → (how ≡ other) × (j ≡ k)
over_same how other j k e = (cc, cc)

-- two that halt alike leave the same
pub halted_same : {A : Type 0} (x y : A) (j k : ℕ) → Over (Halted x) j ≡ Over (Halted y) k → (x ≡ y) × (j ≡ k)
halted_same x y j k e = (cc, cc)

module _ {S A : Type 0} (m : System S A) where
  -- what an execution tells of the run from a state; one that counts as broken may have been stuck
  abbrev pub Came : S → ℕ → Limited A → Type 0
  Came s cycles (Over how k) = ((r : RunOf m s how) × (cycles + cycles_of r ≡ k)) ⊎ ((t : S) × ReachesBy m s t × (m.next t ≡ Stuck))
  Came s cycles (Cut k) = Unit {0}

  came_on : (s t : S) (cycles : ℕ) (e : Limited A) → m.next s ≡ Goes t → Came t (cycles + m.cost s) e → Came s cycles e
  came_on s t cycles (Over how k) e (inl c) =
      let n = cycles_of c.0 in
      inl (goes e c.0, omega (arith, c.1))
  came_on s t cycles (Over how k) e (inr c) = inr (c.0, onward e c.1, c.2)
  came_on s t cycles (Cut k) e c = tt

  came_next : (s : S) (cycles : ℕ) (go : S → Limited A) (x : Next S A) → m.next s ≡ x
      → ((t : S) → Came t (cycles + m.cost s) (go t)) → Came s cycles (followed go (cycles + m.cost s) x)
  came_next s cycles go (Goes t) e g = came_on s t cycles (go t) e (g t)
  came_next s cycles go (Ends how) e g = inl (ends e, refl)
  came_next s cycles go Stuck e g = inr (s, here, e)

  came_first : (s : S) (cycles : ℕ) (b : Bool) (x : Limited A) → Came s cycles x → Came s cycles (cond b x (Cut cycles))
  came_first s cycles true x c = c
  came_first s cycles false x c = tt

  steps_came : (n limit : ℕ) (s : S) (cycles : ℕ) → Came s cycles (steps n m limit s cycles)
  steps_came zero limit s cycles = tt
  steps_came (suc n) limit s cycles =
      came_first s cycles (nat_le (cycles + m.cost s) limit) _
      (came_next s cycles (λ t. steps n m limit t (cycles + m.cost s)) (m.next s) refl
      (λ t. steps_came n limit t (cycles + m.cost s)))

  -- an execution that is over is a run, unless it is stuck
  pub exec_came : (limit : ℕ) (s : S) (cycles : ℕ) → Came s cycles (exec_by m limit s cycles)
  unfolding exec_by
  exec_came limit s cycles = steps_came (suc limit) limit s cycles

module _ {S A : Type 0} (m : System S A) (costs : IsCosted m) where
  -- a run whose cycles keep the limit is what the execution comes to
  pub run_exec : {s : S} {how : End A} (limit : ℕ) (r : RunOf m s how) (cycles : ℕ) → cycles + cycles_of r ≤ limit
      → exec_by m limit s cycles ≡ Over how (cycles + cycles_of r)
  run_exec {s} {how} limit (ends e) cycles fits = exec_over m costs limit s cycles how fits e
  run_exec {s} {how} limit (goes {t = t} e r) cycles fits =
      let same : cycles + m.cost s + cycles_of r ≡ cycles + (m.cost s + cycles_of r) = omega arith in
      exec_on m costs limit s t cycles (omega arith) e ∙ run_exec limit r (cycles + m.cost s) (omega arith) ∙ ap (Over how) same

  -- a run that takes more is cut
  pub run_cut : {s : S} {how : End A} (limit : ℕ) (r : RunOf m s how) (cycles : ℕ) → limit < cycles + cycles_of r
      → (k : ℕ) × (exec_by m limit s cycles ≡ Cut k)
  run_cut {s} limit (ends e) cycles past = (cycles, exec_cut m costs limit s cycles past)
  run_cut {s} limit (goes {t = t} e r) cycles past =
      let rest = run_cut limit r (cycles + m.cost s) (omega arith) in
      by_first (nat_le (cycles + m.cost s) limit) refl rest
    where
      by_first : (b : Bool) → nat_le (cycles + m.cost s) limit ≡ b
          → ((k : ℕ) × (exec_by m limit t (cycles + m.cost s) ≡ Cut k)) → (k : ℕ) × (exec_by m limit s cycles ≡ Cut k)
      by_first true fits rest = (rest.0, exec_on m costs limit s t cycles (leb-true (cycles + m.cost s) limit fits) e ∙ rest.1)
      by_first false over rest = (cycles, exec_cut m costs limit s cycles (leb-false (cycles + m.cost s) limit over))

  -- a state has one run: its end and its cycles
  pub runs_once : (s : S) (how other : End A) (r : RunOf m s how) (u : RunOf m s other) → (how ≡ other) × (cycles_of r ≡ cycles_of u)
  runs_once s how other r u =
      let n = cycles_of r in
      let k = cycles_of u in
      let same : Over how (0 + n) ≡ Over other (0 + k) = sym (run_exec (n + k) r 0 (omega arith)) ∙ run_exec (n + k) u 0 (omega arith) in
      let both = over_same how other (0 + n) (0 + k) same in
      (both.0, omega (arith, both.1))

  -- the executions from a state from which no step is stuck are its run
  pub tied_by : (s : S) → ((t : S) → ReachesBy m s t → m.next t ≡ Stuck → ⊥) → IsTiedBy m s
  tied_by s free = record {
    over = λ how run limit fits. run_exec limit run 0 (omega arith) ∙ ap (Over how) (omega arith);
    cut = λ how run limit past. run_cut limit run 0 (omega arith);
    runs = λ how cycles limit e. by_end how cycles (exec_by m limit s 0) e (exec_came m limit s 0);
  }
    where
      by_end : (how : End A) (cycles : ℕ) (e : Limited A) → e ≡ Over how cycles → Came m s 0 e → (run : RunOf m s how) × (cycles_of run ≡ cycles)
      by_end how cycles (Over other k) e (inl c) =
          let n = cycles_of c.0 in
          let same : other ≡ how = cc in
          let sum : k ≡ cycles = cc in
          subst (λ (h : End A). (r : RunOf m s h) × (cycles_of r ≡ cycles)) same (c.0, omega (arith, c.1, sum))
      by_end how cycles (Over other k) e (inr c) = absurd (free c.0 c.1 c.2)
      by_end how cycles (Cut k) e c = cc
