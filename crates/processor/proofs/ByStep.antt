-- An execution under a limit by its first step, whatever the number of steps that is left.
use Rattle.std.proofs.Common.{◌≡◌, ℕ, zero, suc, ◌+◌, ◌<◌, ◌≤◌, Bool, true, false, cond, refl, sym, ap, ◌∙◌, arith}
use Rattle.std.specs.Prelude.{nat_le}
use Rattle.std.proofs.lemmas.Bool.{leb-true, le-leb, lt-leb}
use Rattle.processor.specs.Ends.{End, Next, Goes, Ends, Stuck, Limited, Over, Cut}
use Rattle.processor.specs.System.{System, IsCosted, followed, steps, exec_by}

cond_same : {A : Type 0} (b : Bool) (x y z : A) → (b ≡ true → x ≡ y) → cond b x z ≡ cond b y z
cond_same true x y z h = h refl
cond_same false x y z h = refl

-- what follows a step depends on the state that it goes on to alone
followed_same : {S A : Type 0} (f g : S → Limited A) (cycles : ℕ) (next : Next S A) → ((t : S) → next ≡ Goes t → f t ≡ g t)
    → followed f cycles next ≡ followed g cycles next
followed_same f g cycles (Goes t) h = h t refl
followed_same f g cycles (Ends how) h = refl
followed_same f g cycles Stuck h = refl

module _ {S A : Type 0} (m : System S A) (costs : IsCosted m) where
  -- more steps than the limit leaves change nothing
  steps_more : (n limit : ℕ) (s : S) (cycles : ℕ) → limit < n + cycles → steps n m limit s cycles ≡ steps (suc n) m limit s cycles
  steps_more zero limit s cycles h =
      sym (ap (λ b. cond b (followed (λ t. Cut (cycles + m.cost s)) (cycles + m.cost s) (m.next s)) (Cut cycles))
      (lt-leb (cycles + m.cost s) limit (omega arith)))
  steps_more (suc n) limit s cycles h =
      cond_same (nat_le (cycles + m.cost s) limit) _ _ _
      (λ fits. followed_same _ _ (cycles + m.cost s) (m.next s)
      (λ t e. steps_more n limit t (cycles + m.cost s) (omega (arith, costs s))))

  -- an execution is its first step, if its cost keeps the limit, and what follows it
  pub exec_by_step : (limit : ℕ) (s : S) (cycles : ℕ)
      → exec_by m limit s cycles
      ≡ cond (nat_le (cycles + m.cost s) limit) (followed (λ t. exec_by m limit t (cycles + m.cost s)) (cycles + m.cost s) (m.next s)) (Cut cycles)
  unfolding exec_by
  exec_by_step limit s cycles =
      cond_same (nat_le (cycles + m.cost s) limit) _ _ _
      (λ fits. followed_same _ _ (cycles + m.cost s) (m.next s)
      (λ t e. steps_more limit limit t (cycles + m.cost s) (omega (arith, costs s))))

  -- the next step would pass the limit
  pub exec_cut : (limit : ℕ) (s : S) (cycles : ℕ) → limit < cycles + m.cost s → exec_by m limit s cycles ≡ Cut cycles
  exec_cut limit s cycles past =
      exec_by_step limit s cycles
      ∙ ap (λ b. cond b (followed (λ t. exec_by m limit t (cycles + m.cost s)) (cycles + m.cost s) (m.next s)) (Cut cycles))
      (lt-leb (cycles + m.cost s) limit past)

  -- a step that keeps the limit, whatever it makes
  exec_fits : (limit : ℕ) (s : S) (cycles : ℕ) (next : Next S A) → cycles + m.cost s ≤ limit → m.next s ≡ next
      → exec_by m limit s cycles ≡ followed (λ t. exec_by m limit t (cycles + m.cost s)) (cycles + m.cost s) next
  exec_fits limit s cycles next fits e =
      exec_by_step limit s cycles
      ∙ ap (λ b. cond b (followed (λ t. exec_by m limit t (cycles + m.cost s)) (cycles + m.cost s) (m.next s)) (Cut cycles))
      (le-leb (cycles + m.cost s) limit fits)
      ∙ ap (followed (λ t. exec_by m limit t (cycles + m.cost s)) (cycles + m.cost s)) e

  -- a step that goes on
  pub exec_on : (limit : ℕ) (s t : S) (cycles : ℕ) → cycles + m.cost s ≤ limit → m.next s ≡ Goes t
      → exec_by m limit s cycles ≡ exec_by m limit t (cycles + m.cost s)
  exec_on limit s t cycles fits e = exec_fits limit s cycles (Goes t) fits e

  -- the last step has its cost counted, whether it halts or breaks
  pub exec_over : (limit : ℕ) (s : S) (cycles : ℕ) (how : End A) → cycles + m.cost s ≤ limit → m.next s ≡ Ends how
      → exec_by m limit s cycles ≡ Over how (cycles + m.cost s)
  exec_over limit s cycles how fits e = exec_fits limit s cycles (Ends how) fits e
