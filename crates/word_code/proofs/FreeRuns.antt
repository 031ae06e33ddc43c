-- A run that halts is a free run, so that none takes more than the greatest.
use Rattle.std.proofs.Common.{◌≡◌, ℕ, zero, suc, ◌+◌, ◌≤◌, List, [], ◌∷◌, ℤ, refl, sym, ap, ◌∙◌, subst, arith, Option, Some, None}
use Rattle.std.specs.Prelude.{slice_get, slice_set}
use Rattle.mars_base.specs.Store.{place_of, count_up}
use Rattle.mars_base.specs.Word.{binary_of}
use Rattle.word_code.specs.Action.{Action, Pushes, Loads, Stores, LoadsAt, StoresAt, Combines, Changes, Jumps, JumpsIfZero, Clears, Counts, Calls, Returns, Stops, action_of}
use Rattle.word_code.specs.Cost.{cost_of}
use Rattle.processor.specs.Ends.{End, Halted, Broken, Next, Goes, Ends, Stuck, found, gives}
use Rattle.word_code.specs.Execution.{Halts}
use Rattle.word_code.specs.Free.{Control, control, FreeFrom, stops, moves, FreeRun, Greatest}
use Rattle.word_code.specs.Runs.{Run}
use Rattle.word_code.specs.State.{State, at}
use Rattle.processor.specs.System.{ends, goes, cycles_of}
use Rattle.word_code.specs.Step.{act, instr_at, does, step, cost_at, cost_or}
use Rattle.word_code.specs.declared.code.Code.{Code}
use Rattle.word_code.specs.declared.code.Instr.{Instr}
use Rattle.word_code.specs.declared.code.Instr.TheVariants.{Push, Load, Store, LoadX, StoreX, Add, Sub, Mul, Div, Rem, And, Or, Xor, Shl, Shr, Eq, Lt, Le, Neg, Not, Inv, Jmp, Jz, CZero, CInc, Call, Ret, Halt}
use Rattle.word_code.specs.declared.code.Slot.{Slot}
use Rattle.word_code.proofs.Moves.{step_moves}

-- the step halts
abbrev IsHalting : Next State (List ℤ) → Type 0
IsHalting (Goes t) = ⊥
IsHalting (Ends (Halted words)) = Unit {0}
IsHalting (Ends Broken) = ⊥
IsHalting Stuck = ⊥

-- what a step gives is no end, where it goes on or lacks something at most
found_no_end : {A : Type 0} (o : Option A) (go : A → Next State (List ℤ)) → ((x : A) → IsHalting (go x) → ⊥) → IsHalting (found o go) → ⊥
found_no_end None go h e = e
found_no_end (Some x) go h e = h x e

gives_no_end : {A : Type 0} (o : Option A) (go : A → Next State (List ℤ)) → ((x : A) → IsHalting (go x) → ⊥) → IsHalting (gives o go) → ⊥
gives_no_end None go h e = e
gives_no_end (Some x) go h e = h x e

goes_no_end : (s : State) → IsHalting (Goes s) → ⊥
goes_no_end s e = e

-- HALT alone ends
act_ends : (a : Action) (pc : ℕ) (st ws : List ℤ) (ks rs : List ℕ) → IsHalting (act a pc st ws ks rs) → a ≡ Stops
act_ends (Pushes w) pc st ws ks rs e = absurd e
act_ends (Loads a) pc st ws ks rs e =
    absurd (found_no_end (slice_get ws a) (λ w. Goes (at (pc + 1) (w ∷ st) ws ks rs)) (λ w. goes_no_end (at (pc + 1) (w ∷ st) ws ks rs)) e)
act_ends (Stores a) pc [] ws ks rs e = absurd e
act_ends (Stores a) pc (w ∷ st) ws ks rs e =
    absurd (found_no_end (slice_get ws a) (λ _. Goes (at (pc + 1) st (slice_set ws a w) ks rs)) (λ _. goes_no_end (at (pc + 1) st (slice_set ws a w) ks rs)) e)
act_ends (LoadsAt a n) pc [] ws ks rs e = absurd e
act_ends (LoadsAt a n) pc (i ∷ st) ws ks rs e =
    absurd (gives_no_end (place_of a n i) (λ p. found (slice_get ws p) (λ w. Goes (at (pc + 1) (w ∷ st) ws ks rs)))
    (λ p. found_no_end (slice_get ws p) (λ w. Goes (at (pc + 1) (w ∷ st) ws ks rs)) (λ w. goes_no_end (at (pc + 1) (w ∷ st) ws ks rs))) e)
act_ends (StoresAt a n) pc [] ws ks rs e = absurd e
act_ends (StoresAt a n) pc (w ∷ []) ws ks rs e = absurd e
act_ends (StoresAt a n) pc (w ∷ i ∷ st) ws ks rs e =
    absurd (gives_no_end (place_of a n i) (λ p. found (slice_get ws p) (λ _. Goes (at (pc + 1) st (slice_set ws p w) ks rs)))
    (λ p. found_no_end (slice_get ws p) (λ _. Goes (at (pc + 1) st (slice_set ws p w) ks rs)) (λ _. goes_no_end (at (pc + 1) st (slice_set ws p w) ks rs))) e)
act_ends (Combines op) pc [] ws ks rs e = absurd e
act_ends (Combines op) pc (y ∷ []) ws ks rs e = absurd e
act_ends (Combines op) pc (y ∷ x ∷ st) ws ks rs e =
    absurd (gives_no_end (binary_of op x y) (λ w. Goes (at (pc + 1) (w ∷ st) ws ks rs)) (λ w. goes_no_end (at (pc + 1) (w ∷ st) ws ks rs)) e)
act_ends (Changes op) pc [] ws ks rs e = absurd e
act_ends (Changes op) pc (x ∷ st) ws ks rs e = absurd e
act_ends (Jumps t) pc st ws ks rs e = absurd e
act_ends (JumpsIfZero t) pc [] ws ks rs e = absurd e
act_ends (JumpsIfZero t) pc (w ∷ st) ws ks rs e = absurd e
act_ends (Clears c) pc st ws ks rs e =
    absurd (found_no_end (slice_get ks c) (λ _. Goes (at (pc + 1) st ws (slice_set ks c 0) rs)) (λ _. goes_no_end (at (pc + 1) st ws (slice_set ks c 0) rs)) e)
act_ends (Counts c n) pc st ws ks rs e =
    absurd (found_no_end (slice_get ks c) (λ k. gives (count_up k n) (λ v. Goes (at (pc + 1) st ws (slice_set ks c v) rs)))
    (λ k. gives_no_end (count_up k n) (λ v. Goes (at (pc + 1) st ws (slice_set ks c v) rs)) (λ v. goes_no_end (at (pc + 1) st ws (slice_set ks c v) rs))) e)
act_ends (Calls t) pc st ws ks rs e = absurd e
act_ends Returns pc st ws ks [] e = absurd e
act_ends Returns pc st ws ks (r ∷ rs) e = absurd e
act_ends Stops pc st ws ks rs e = refl

stops_is : (i : Instr) → action_of i ≡ Stops → i ≡ Halt
stops_is (Push w) e = cc
stops_is (Load a) e = cc
stops_is (Store a) e = cc
stops_is (LoadX a n) e = cc
stops_is (StoreX a n) e = cc
stops_is Add e = cc
stops_is Sub e = cc
stops_is Mul e = cc
stops_is Div e = cc
stops_is Rem e = cc
stops_is And e = cc
stops_is Or e = cc
stops_is Xor e = cc
stops_is Shl e = cc
stops_is Shr e = cc
stops_is Eq e = cc
stops_is Lt e = cc
stops_is Le e = cc
stops_is Neg e = cc
stops_is Not e = cc
stops_is Inv e = cc
stops_is (Jmp t) e = cc
stops_is (Jz t) e = cc
stops_is (CZero c) e = cc
stops_is (CInc c n) e = cc
stops_is (Call t) e = cc
stops_is Ret e = cc
stops_is Halt e = refl

does_found : (o : Option Instr) (s : State) → IsHalting (found o (λ i. does i s)) → o ≡ Some Halt
does_found None s e = absurd e
does_found (Some i) s e = ap Some (stops_is i (act_ends (action_of i) s.pc s.stack s.words s.counters s.returns e))

-- a step that halts is HALT
pub step_ends : (instrs : List Slot) (s : State) (words : List ℤ) → step instrs s ≡ Ends (Halted words) → instr_at instrs s.pc ≡ Some Halt
step_ends instrs s words e = does_found (instr_at instrs s.pc) s (subst IsHalting (sym e) tt)

abbrev IsHalted : End (List ℤ) → Type 0
IsHalted (Halted words) = Unit {0}
IsHalted Broken = ⊥

-- the control state of a state
abbrev pub control_of : State → Control
control_of s = control s.pc s.counters s.returns

free_end : (instrs : List Slot) (s : State) (how : End (List ℤ)) → step instrs s ≡ Ends how → IsHalted how → FreeFrom instrs (control_of s) (cost_at instrs s.pc)
free_end instrs s (Halted words) e h =
    let halts = step_ends instrs s words e in
    subst (λ n. FreeFrom instrs (control_of s) n) (sym (ap cost_or halts)) (stops halts)
free_end instrs s Broken e h = absurd h

free_of : (instrs : List Slot) {s : State} {how : End (List ℤ)} (r : Run instrs s how) → IsHalted how → FreeFrom instrs (control_of s) (cycles_of r)
free_of instrs {s} {how} (ends e) h = free_end instrs s how e h
free_of instrs {s} (goes {t = t} e r) h =
    let m = step_moves instrs s t e in
    subst (λ n. FreeFrom instrs (control_of s) (n + cycles_of r)) (sym (ap cost_or m.1)) (moves m.0 m.1 m.2.control (free_of instrs r h))

-- a run that halts is a free run with its cycles
pub run_free : (instrs : List Slot) (s : State) (words : List ℤ) (r : Run instrs s (Halted words)) → FreeFrom instrs (control_of s) (cycles_of r)
run_free instrs s words r = free_of instrs r tt

-- an execution that halts is a free run with its cycles
pub halts_free : (code : Code) (state ins left outs : List ℤ) (cycles : ℕ) → Halts code state ins left outs cycles → FreeRun code cycles
halts_free code state ins left outs cycles h = subst (λ n. FreeRun code n) h.cycles_are (free_of code.instrs h.run tt)

-- no run that halts takes more than the greatest
pub halts_most : (code : Code) (m : ℕ) (state ins left outs : List ℤ) (cycles : ℕ) → Greatest code m → Halts code state ins left outs cycles → cycles ≤ m
halts_most code m state ins left outs cycles g h = g.above cycles (halts_free code state ins left outs cycles h)
