-- What a step that goes on does to the stack's height, the places and the counters, and that it is a free step.
use Rattle.std.proofs.Common.{◌≡◌, ◌≢◌, ℕ, zero, suc, ◌+◌, ◌-◌, ◌<◌, ◌≤◌, Bool, true, false, cond, List, [], ◌∷◌, length, ℤ, refl, sym, ap, ◌∙◌, subst, arith, Option, Some, None, ◌⊎◌, inl, inr}
use Rattle.std.specs.Prelude.{slice_get, slice_set}
use Rattle.std.proofs.lemmas.List.{length-set}
use Rattle.mars_base.specs.Store.{place_of, count_up}
use Rattle.mars_base.specs.Word.{binary_of, unary_of, is_zero}
use Rattle.word_code.specs.Action.{Action, Pushes, Loads, Stores, LoadsAt, StoresAt, Combines, Changes, Jumps, JumpsIfZero, Clears, Counts, Calls, Returns, Stops, action_of}
use Rattle.word_code.specs.Free.{FreeStep}
use Rattle.processor.specs.Ends.{Next, Goes, Ends, Stuck, found, gives}
use Rattle.word_code.specs.State.{State, at}
use Rattle.word_code.specs.Step.{act, instr_at, does, step}
use Rattle.word_code.specs.Typing.{pops_of, pushes_of}
use Rattle.word_code.specs.declared.code.Instr.{Instr}
use Rattle.word_code.specs.declared.code.Slot.{Slot}

-- what goes on has found something
pub found_goes : {A : Type 0} (o : Option A) (go : A → Next State (List ℤ)) (t : State) → found o go ≡ Goes t → (x : A) × (o ≡ Some x) × (go x ≡ Goes t)
found_goes None go t e = cc
found_goes (Some x) go t e = (x, refl, e)

pub gives_goes : {A : Type 0} (o : Option A) (go : A → Next State (List ℤ)) (t : State) → gives o go ≡ Goes t → (x : A) × (o ≡ Some x) × (go x ≡ Goes t)
gives_goes None go t e = cc
gives_goes (Some x) go t e = (x, refl, e)

-- the step that goes on to a state
abbrev on_to : State → Next State (List ℤ)
on_to s = Goes s

goes_is : (s t : State) → on_to s ≡ on_to t → s ≡ t
goes_is s t e = cc

-- an action leads from one state to another
pub record Moves (a : Action) (s t : State) : Type 0 where
  pub height : length t.stack ≡ length s.stack - pops_of a + pushes_of a
  pub words : length t.words ≡ length s.words
  pub counters : length t.counters ≡ length s.counters
  pub control : FreeStep a s.pc s.counters s.returns t.pc t.counters t.returns

moved : (a : Action) (s u t : State) → on_to u ≡ on_to t → Moves a s u → Moves a s t
moved a s u t e m = subst (λ (v : State). Moves a s v) (goes_is u t e) m

by_zero : (b : Bool) (t n : ℕ) → (cond b t n ≡ t) ⊎ (cond b t n ≡ n)
by_zero true t n = inl refl
by_zero false t n = inr refl

pub act_moves : (a : Action) (pc : ℕ) (st ws : List ℤ) (ks rs : List ℕ) (t : State) → act a pc st ws ks rs ≡ Goes t → Moves a (at pc st ws ks rs) t
act_moves (Pushes w) pc st ws ks rs t e =
    moved (Pushes w) (at pc st ws ks rs) (at (pc + 1) (w ∷ st) ws ks rs) t e
    (record { height = omega arith; words = refl; counters = refl; control = (refl, refl, refl) })
act_moves (Loads a) pc st ws ks rs t e =
    let f = found_goes (slice_get ws a) (λ w. Goes (at (pc + 1) (w ∷ st) ws ks rs)) t e in
    moved (Loads a) (at pc st ws ks rs) (at (pc + 1) (f.0 ∷ st) ws ks rs) t f.2
    (record { height = omega arith; words = refl; counters = refl; control = (refl, refl, refl) })
act_moves (Stores a) pc [] ws ks rs t e = cc
act_moves (Stores a) pc (w ∷ st) ws ks rs t e =
    let f = found_goes (slice_get ws a) (λ _. Goes (at (pc + 1) st (slice_set ws a w) ks rs)) t e in
    moved (Stores a) (at pc (w ∷ st) ws ks rs) (at (pc + 1) st (slice_set ws a w) ks rs) t f.2
    (record { height = omega arith; words = length-set ws a w; counters = refl; control = (refl, refl, refl) })
act_moves (LoadsAt a n) pc [] ws ks rs t e = cc
act_moves (LoadsAt a n) pc (i ∷ st) ws ks rs t e =
    let g = gives_goes (place_of a n i) (λ p. found (slice_get ws p) (λ w. Goes (at (pc + 1) (w ∷ st) ws ks rs))) t e in
    let f = found_goes (slice_get ws g.0) (λ w. Goes (at (pc + 1) (w ∷ st) ws ks rs)) t g.2 in
    moved (LoadsAt a n) (at pc (i ∷ st) ws ks rs) (at (pc + 1) (f.0 ∷ st) ws ks rs) t f.2
    (record { height = omega arith; words = refl; counters = refl; control = (refl, refl, refl) })
act_moves (StoresAt a n) pc [] ws ks rs t e = cc
act_moves (StoresAt a n) pc (w ∷ []) ws ks rs t e = cc
act_moves (StoresAt a n) pc (w ∷ i ∷ st) ws ks rs t e =
    let g = gives_goes (place_of a n i) (λ p. found (slice_get ws p) (λ _. Goes (at (pc + 1) st (slice_set ws p w) ks rs))) t e in
    let f = found_goes (slice_get ws g.0) (λ _. Goes (at (pc + 1) st (slice_set ws g.0 w) ks rs)) t g.2 in
    moved (StoresAt a n) (at pc (w ∷ i ∷ st) ws ks rs) (at (pc + 1) st (slice_set ws g.0 w) ks rs) t f.2
    (record { height = omega arith; words = length-set ws g.0 w; counters = refl; control = (refl, refl, refl) })
act_moves (Combines op) pc [] ws ks rs t e = cc
act_moves (Combines op) pc (y ∷ []) ws ks rs t e = cc
act_moves (Combines op) pc (y ∷ x ∷ st) ws ks rs t e =
    let g = gives_goes (binary_of op x y) (λ w. Goes (at (pc + 1) (w ∷ st) ws ks rs)) t e in
    moved (Combines op) (at pc (y ∷ x ∷ st) ws ks rs) (at (pc + 1) (g.0 ∷ st) ws ks rs) t g.2
    (record { height = omega arith; words = refl; counters = refl; control = (refl, refl, refl) })
act_moves (Changes op) pc [] ws ks rs t e = cc
act_moves (Changes op) pc (x ∷ st) ws ks rs t e =
    moved (Changes op) (at pc (x ∷ st) ws ks rs) (at (pc + 1) (unary_of op x ∷ st) ws ks rs) t e
    (record { height = omega arith; words = refl; counters = refl; control = (refl, refl, refl) })
act_moves (Jumps u) pc st ws ks rs t e =
    moved (Jumps u) (at pc st ws ks rs) (at u st ws ks rs) t e
    (record { height = omega arith; words = refl; counters = refl; control = (refl, refl, refl) })
act_moves (JumpsIfZero u) pc [] ws ks rs t e = cc
act_moves (JumpsIfZero u) pc (w ∷ st) ws ks rs t e =
    moved (JumpsIfZero u) (at pc (w ∷ st) ws ks rs) (at (cond (is_zero w) u (pc + 1)) st ws ks rs) t e
    (record { height = omega arith; words = refl; counters = refl; control = (by_zero (is_zero w) u (pc + 1), refl, refl) })
act_moves (Clears c) pc st ws ks rs t e =
    let f = found_goes (slice_get ks c) (λ _. Goes (at (pc + 1) st ws (slice_set ks c 0) rs)) t e in
    moved (Clears c) (at pc st ws ks rs) (at (pc + 1) st ws (slice_set ks c 0) rs) t f.2
    (record { height = omega arith; words = refl; counters = length-set ks c 0; control = (refl, refl, refl) })
act_moves (Counts c n) pc st ws ks rs t e =
    let f = found_goes (slice_get ks c) (λ k. gives (count_up k n) (λ v. Goes (at (pc + 1) st ws (slice_set ks c v) rs))) t e in
    let g = gives_goes (count_up f.0 n) (λ v. Goes (at (pc + 1) st ws (slice_set ks c v) rs)) t f.2 in
    moved (Counts c n) (at pc st ws ks rs) (at (pc + 1) st ws (slice_set ks c g.0) rs) t g.2
    (record { height = omega arith; words = refl; counters = length-set ks c g.0; control = (f.0, g.0, f.1, g.1, refl, refl, refl) })
act_moves (Calls u) pc st ws ks rs t e =
    moved (Calls u) (at pc st ws ks rs) (at u st ws ks ((pc + 1) ∷ rs)) t e
    (record { height = omega arith; words = refl; counters = refl; control = (refl, refl, refl) })
act_moves Returns pc st ws ks [] t e = cc
act_moves Returns pc st ws ks (r ∷ rs) t e =
    moved Returns (at pc st ws ks (r ∷ rs)) (at r st ws ks rs) t e
    (record { height = omega arith; words = refl; counters = refl; control = (refl, refl) })
act_moves Stops pc st ws ks rs t e = cc

-- a step that goes on is an instruction's, which leads on
pub step_moves : (instrs : List Slot) (s t : State) → step instrs s ≡ Goes t → (i : Instr) × (instr_at instrs s.pc ≡ Some i) × Moves (action_of i) s t
step_moves instrs s t e =
    let f = found_goes (instr_at instrs s.pc) (λ i. does i s) t e in
    (f.0, f.1, act_moves (action_of f.0) s.pc s.stack s.words s.counters s.returns t f.2)
