-- The ways in which a step, a run and an execution under a limit end: one family for every machine. This project's own.
use Rattle.std.specs.Prelude.{ℕ, Option, None, Some}

-- a run halts, and leaves something, or it breaks
pub data End (A : Type 0) : Type 0 where
  Halted : (left : A) → End A
  Broken : End A

-- a step goes on to a state or ends the run; or it is stuck, since something that it needs isn't there
pub data Next (S A : Type 0) : Type 0 where
  Goes : (state : S) → Next S A
  Ends : (how : End A) → Next S A
  Stuck : Next S A

-- an execution under a limit is over after so many cycles, or cut before the step that would pass the limit
pub data Limited (A : Type 0) : Type 0 where
  Over : (how : End A) (cycles : ℕ) → Limited A
  Cut : (cycles : ℕ) → Limited A

-- a step that goes on with what is there; without it the step is stuck
abbrev pub found : {B S A : Type 0} → Option B → (B → Next S A) → Next S A
found None go = Stuck
found (Some x) go = go x

-- a step that goes on with the value; without one it breaks
abbrev pub gives : {B S A : Type 0} → Option B → (B → Next S A) → Next S A
gives None go = Ends Broken
gives (Some x) go = go x

-- the same end with what is left seen otherwise
abbrev pub end_map : {A B : Type 0} → (A → B) → End A → End B
end_map f (Halted left) = Halted (f left)
end_map f Broken = Broken

abbrev pub limited_map : {A B : Type 0} → (A → B) → Limited A → Limited B
limited_map f (Over how cycles) = Over (end_map f how) cycles
limited_map f (Cut cycles) = Cut cycles

-- the cycles so far; a step that broke is counted, one that was cut is not
abbrev pub cycles_in : {A : Type 0} → Limited A → ℕ
cycles_in (Over how cycles) = cycles
cycles_in (Cut cycles) = cycles

-- halted or broken
abbrev pub IsOver : {A : Type 0} → Limited A → Type 0
IsOver (Over how cycles) = Unit {0}
IsOver (Cut cycles) = ⊥

-- how an execution ends for those who wait no longer than its limit: a cut one counts as broken
abbrev pub end_under : {A : Type 0} → Limited A → End A
end_under (Over how cycles) = how
end_under (Cut cycles) = Broken
