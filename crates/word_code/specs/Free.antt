-- Free runs, which leave the data out, and the greatest of their cycles. This project's own.
use Rattle.std.specs.Prelude.{◌≡◌, ◌⊎◌, ℕ, ◌+◌, ◌≤◌, List, [], ◌∷◌, replicate, Some, slice_get, slice_set}
use Rattle.mars_base.specs.Store.{count_up}
use Rattle.word_code.specs.Action.{Action, Jumps, JumpsIfZero, Clears, Counts, Calls, Returns, Stops, action_of}
use Rattle.word_code.specs.Cost.{cost_of}
use Rattle.word_code.specs.Step.{instr_at}
use Rattle.word_code.specs.declared.code.Code.{Code}
use Rattle.word_code.specs.declared.code.Instr.{Instr}
use Rattle.word_code.specs.declared.code.Instr.TheVariants.{Halt}
use Rattle.word_code.specs.declared.code.Slot.{Slot}

-- a control state: the number of the next instruction, the counters, and the numbers that calls return to
pub record Control : Type 0 where
  pub pc : ℕ
  pub counters : List ℕ
  pub returns : List ℕ

abbrev pub control : ℕ → List ℕ → List ℕ → Control
control pc counters returns = record { pc = pc; counters = counters; returns = returns }

-- a free step from one control state to another, by their parts: a test may go either way, a count above its bound goes
-- nowhere, and whatever else could break goes on
abbrev pub FreeStep : Action → ℕ → List ℕ → List ℕ → ℕ → List ℕ → List ℕ → Type 0
FreeStep (Jumps t) p ks rs q ls ss = (q ≡ t) × (ls ≡ ks) × (ss ≡ rs)
FreeStep (JumpsIfZero t) p ks rs q ls ss = ((q ≡ t) ⊎ (q ≡ p + 1)) × (ls ≡ ks) × (ss ≡ rs)
FreeStep (Clears c) p ks rs q ls ss = (q ≡ p + 1) × (ls ≡ slice_set ks c 0) × (ss ≡ rs)
FreeStep (Counts c n) p ks rs q ls ss =
    (k : ℕ) × (v : ℕ) × (slice_get ks c ≡ Some k) × (count_up k n ≡ Some v) × (q ≡ p + 1) × (ls ≡ slice_set ks c v) × (ss ≡ rs)
FreeStep (Calls t) p ks rs q ls ss = (q ≡ t) × (ls ≡ ks) × (ss ≡ (p + 1) ∷ rs)
FreeStep Returns p ks rs q ls ss = (rs ≡ q ∷ ss) × (ls ≡ ks)
FreeStep Stops p ks rs q ls ss = ⊥
FreeStep _ p ks rs q ls ss = (q ≡ p + 1) × (ls ≡ ks) × (ss ≡ rs)

-- a free step of the instruction from one control state to another
abbrev pub Frees : Instr → Control → Control → Type 0
Frees i c d = FreeStep (action_of i) c.pc c.counters c.returns d.pc d.counters d.returns

-- an unbroken free run from a control state to HALT, with the sum of its costs
pub data FreeFrom (instrs : List Slot) : Control → ℕ → Type 0 where
  stops : {c : Control} → instr_at instrs c.pc ≡ Some Halt → FreeFrom instrs c 1
  moves : {c d : Control} {n : ℕ} (i : Instr) → instr_at instrs c.pc ≡ Some i → Frees i c d → FreeFrom instrs d n → FreeFrom instrs c (cost_of i + n)

-- from a control state given by its parts
abbrev pub Free : List Slot → ℕ → List ℕ → List ℕ → ℕ → Type 0
Free instrs pc counters returns = FreeFrom instrs (control pc counters returns)

-- from instruction 0, with counters of 0 and no call
abbrev pub FreeRun : Code → ℕ → Type 0
FreeRun code n = Free code.instrs 0 (replicate code.counters 0) [] n

-- some free run has this sum, and none has more
pub record Greatest (code : Code) (m : ℕ) : Type 0 where
  pub reached : FreeRun code m
  pub above : (n : ℕ) → FreeRun code n → n ≤ m
