-- A machine by its steps and their costs, its whole runs, and its executions under a limit. This project's own.
use Rattle.std.specs.Prelude.{◌≡◌, ℕ, zero, suc, ◌+◌, ◌<◌, ◌≤◌, nat_le, if◌then◌else◌}
use Rattle.processor.specs.Ends.{End, Broken, Next, Goes, Ends, Stuck, Limited, Over, Cut}

-- what a step makes of a state, and its cycles
pub record System (S A : Type 0) : Type 0 where
  pub next : S → Next S A
  pub cost : S → ℕ

-- each step costs at least 1
abbrev pub IsCosted : {S A : Type 0} → System S A → Type 0
IsCosted m = (s : _) → 1 ≤ m.cost s

-- a run from a state to its end; a run that is stuck is none
pub data RunOf {S A : Type 0} (m : System S A) : S → End A → Type 0 where
  ends : {s : S} {how : End A} → m.next s ≡ Ends how → RunOf m s how
  goes : {s t : S} {how : End A} → m.next s ≡ Goes t → RunOf m t how → RunOf m s how

-- the sum of the costs of its steps, the last one too
abbrev pub cycles_of : {S A : Type 0} {m : System S A} {s : S} {how : End A} → RunOf m s how → ℕ
cycles_of {m = m} {s = s} (ends e) = m.cost s
cycles_of {m = m} {s = s} (goes e r) = m.cost s + cycles_of r

-- some steps lead from the first state to the second
pub data ReachesBy {S A : Type 0} (m : System S A) : S → S → Type 0 where
  here : {s : S} → ReachesBy m s s
  onward : {s t u : S} → m.next s ≡ Goes t → ReachesBy m t u → ReachesBy m s u

-- what follows a step, whose cost is counted
abbrev pub followed : {S A : Type 0} → (S → Limited A) → ℕ → Next S A → Limited A
followed go cycles (Goes t) = go t
followed go cycles (Ends how) = Over how cycles
followed go cycles Stuck = Over Broken cycles

-- at most n more steps under the limit, from a state with the cycles so far
abbrev pub steps : {S A : Type 0} → ℕ → System S A → ℕ → S → ℕ → Limited A
steps zero m limit s cycles = Cut cycles
steps (suc n) m limit s cycles =
    if nat_le (cycles + m.cost s) limit
    then followed (λ t. steps n m limit t (cycles + m.cost s)) (cycles + m.cost s) (m.next s)
    else Cut cycles

-- all steps under the limit; where each costs at least 1, there are no more than the limit
unfoldable pub exec_by : {S A : Type 0} → System S A → ℕ → S → ℕ → Limited A
exec_by m limit s cycles = steps (suc limit) m limit s cycles

-- The executions from a state are its run: over exactly as the run ends where the limit is no less than the run's cycles,
-- and cut where it is less.
pub record IsTiedBy {S A : Type 0} (m : System S A) (s : S) : Type 0 where
  pub over : (how : End A) (run : RunOf m s how) (limit : ℕ) → cycles_of run ≤ limit → exec_by m limit s 0 ≡ Over how (cycles_of run)
  pub cut : (how : End A) (run : RunOf m s how) (limit : ℕ) → limit < cycles_of run → (k : ℕ) × (exec_by m limit s 0 ≡ Cut k)
  pub runs : (how : End A) (cycles limit : ℕ) → exec_by m limit s 0 ≡ Over how cycles → (run : RunOf m s how) × (cycles_of run ≡ cycles)
