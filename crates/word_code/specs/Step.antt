-- One step of the machine. This project's own.
use Rattle.std.specs.Prelude.{ℕ, ◌+◌, if◌then◌else◌, ℤ, List, ◌∷◌, Option, Some, None, slice_get, slice_set}
use Rattle.std.specs.Option.{option_map}
use Rattle.mars_base.specs.Store.{place_of, count_up}
use Rattle.mars_base.specs.Word.{binary_of, unary_of, is_zero}
use Rattle.word_code.specs.Action.{Action, Pushes, Loads, Stores, LoadsAt, StoresAt, Combines, Changes, Jumps, JumpsIfZero, Clears, Counts, Calls, Returns, Stops, action_of}
use Rattle.word_code.specs.Cost.{cost_of}
use Rattle.processor.specs.Ends.{Next, Halted, Goes, Ends, Stuck, found, gives}
use Rattle.word_code.specs.State.{State, at}
use Rattle.processor.specs.System.{System}
use Rattle.word_code.specs.declared.code.Instr.{Instr}
use Rattle.word_code.specs.declared.code.Slot.{Slot}

-- A step goes on to a state, halts at HALT and leaves the words of data, or breaks: an index out of range, a divisor 0, a
-- count above its bound. It is stuck where it lacks an operand, a place, a counter, a number to return to or an
-- instruction; verified code never is.

-- what an action makes of a state, by its parts; the top of the stack is the right operand
abbrev pub act : Action → ℕ → List ℤ → List ℤ → List ℕ → List ℕ → Next State (List ℤ)
act (Pushes w) pc st ws ks rs = Goes (at (pc + 1) (w ∷ st) ws ks rs)
act (Loads a) pc st ws ks rs = found (slice_get ws a) (λ w. Goes (at (pc + 1) (w ∷ st) ws ks rs))
act (Stores a) pc (w ∷ st) ws ks rs = found (slice_get ws a) (λ _. Goes (at (pc + 1) st (slice_set ws a w) ks rs))
act (LoadsAt a n) pc (i ∷ st) ws ks rs =
    gives (place_of a n i) (λ p. found (slice_get ws p) (λ w. Goes (at (pc + 1) (w ∷ st) ws ks rs)))
act (StoresAt a n) pc (w ∷ i ∷ st) ws ks rs =
    gives (place_of a n i) (λ p. found (slice_get ws p) (λ _. Goes (at (pc + 1) st (slice_set ws p w) ks rs)))
act (Combines op) pc (y ∷ x ∷ st) ws ks rs = gives (binary_of op x y) (λ w. Goes (at (pc + 1) (w ∷ st) ws ks rs))
act (Changes op) pc (x ∷ st) ws ks rs = Goes (at (pc + 1) (unary_of op x ∷ st) ws ks rs)
act (Jumps t) pc st ws ks rs = Goes (at t st ws ks rs)
act (JumpsIfZero t) pc (w ∷ st) ws ks rs = Goes (at (if is_zero w then t else pc + 1) st ws ks rs)
act (Clears c) pc st ws ks rs = found (slice_get ks c) (λ _. Goes (at (pc + 1) st ws (slice_set ks c 0) rs))
act (Counts c n) pc st ws ks rs =
    found (slice_get ks c) (λ k. gives (count_up k n) (λ v. Goes (at (pc + 1) st ws (slice_set ks c v) rs)))
act (Calls t) pc st ws ks rs = Goes (at t st ws ks ((pc + 1) ∷ rs))
act Returns pc st ws ks (r ∷ rs) = Goes (at r st ws ks rs)
act Stops pc st ws ks rs = Ends (Halted ws)
act _ pc st ws ks rs = Stuck

-- the instruction at a number
abbrev pub instr_at : List Slot → ℕ → Option Instr
instr_at instrs k = option_map (λ slot. slot.instr) (slice_get instrs k)

-- what an instruction makes of a state
abbrev pub does : Instr → State → Next State (List ℤ)
does i s = act (action_of i) s.pc s.stack s.words s.counters s.returns

-- one step of the code, without its cost
abbrev pub step : List Slot → State → Next State (List ℤ)
step instrs s = found (instr_at instrs s.pc) (λ i. does i s)

abbrev pub cost_or : Option Instr → ℕ
cost_or None = 1
cost_or (Some i) = cost_of i

-- what the step costs; where there is no instruction, which verified code never meets, it counts 1
abbrev pub cost_at : List Slot → ℕ → ℕ
cost_at instrs k = cost_or (instr_at instrs k)

-- the word machine with this code
abbrev pub machine_of : List Slot → System State (List ℤ)
machine_of instrs = record { next = step instrs; cost = λ s. cost_at instrs s.pc }
