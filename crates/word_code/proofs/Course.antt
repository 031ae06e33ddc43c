-- Verified code keeps its course: no step is stuck, and the stacks keep their bounds.
use Rattle.std.proofs.Common.{◌≡◌, ◌≢◌, ℕ, zero, suc, ◌+◌, ◌-◌, ◌<◌, ◌≤◌, Bool, true, false, cond, List, [], ◌∷◌, ◌++◌, length, ℤ, refl, sym, ap, ◌∙◌, subst, arith, add-one, Option, Some, None, ◌⊎◌, inl, inr}
use Rattle.std.specs.Prelude.{slice_get, slice_set, slice_index, slice_index_or, nat_le, nat_lt, Contains, count_by, All, replicate, take, drop, pos, negsuc}
use Rattle.std.specs.List.Sorted.{IsStrictlyIncreasing}
use Rattle.std.specs.Option.{option_map}
use Rattle.std.proofs.lemmas.Option.{slice_get_within, get_or_from_slice_get, cond_some}
use Rattle.std.proofs.lemmas.List.{length-append, length-drop, length-take-le, length-replicate}
use Rattle.std.proofs.lemmas.Bool.{leb-true, leb-false, le-leb, lt-leb, ltb-true}
use Rattle.std.proofs.lemmas.List.Sums.{count_by-le-length, sum_by-cons}
use Rattle.mars_base.specs.Store.{place_of, count_up}
use Rattle.mars_base.specs.Word.{binary_of}
use Rattle.mars_base.specs.declared.word.Role.{Role}
use Rattle.mars_base.specs.declared.word.Role.TheVariants.{In, Out, State as StateRole, Local}
use Rattle.word_code.specs.Action.{Action, Pushes, Loads, Stores, LoadsAt, StoresAt, Combines, Changes, Jumps, JumpsIfZero, Clears, Counts, Calls, Returns, Stops, action_of}
use Rattle.word_code.specs.Cells.{start_of, words_at_start, cells_at_start, filled, total_width, width_of, is_in, is_state}
use Rattle.word_code.specs.Course.{IsCalled, IsOnCourse, NeverStuck}
use Rattle.word_code.specs.Free.{FreeStep}
use Rattle.word_code.specs.Ready.{IsReady, CallsFit, act_on}
use Rattle.processor.specs.Ends.{Next, Goes, Ends, Stuck, found, gives}
use Rattle.word_code.specs.Runs.{Reaches}
use Rattle.word_code.specs.State.{State, at}
use Rattle.processor.specs.System.{here, onward}
use Rattle.word_code.specs.Step.{act, instr_at, does, step}
use Rattle.word_code.specs.Typing.{IsVerified, IsWhole, IsTypedAt, IsLast, FlowsOn, Lands, JumpFits, PlacesFit, CounterFits, CallsWell, CallFits, EndFits, EndsRoutine, height_at, height_after, routine_of, pops_of, pushes_of}
use Rattle.word_code.specs.declared.code.CellShape.{CellShape}
use Rattle.word_code.specs.declared.code.Code.{Code}
use Rattle.word_code.specs.declared.code.Instr.{Instr}
use Rattle.word_code.specs.declared.code.Slot.{Slot}
use Rattle.word_code.proofs.Moves.{Moves, step_moves}

-- an instruction that flows on ends no routine
flows_last : (a : Action) → FlowsOn a → EndsRoutine a → ⊥
flows_last (Pushes w) f e = e
flows_last (Loads w) f e = e
flows_last (Stores w) f e = e
flows_last (LoadsAt w n) f e = e
flows_last (StoresAt w n) f e = e
flows_last (Combines op) f e = e
flows_last (Changes op) f e = e
flows_last (Jumps t) f e = f
flows_last (JumpsIfZero t) f e = e
flows_last (Clears c) f e = e
flows_last (Counts c n) f e = e
flows_last (Calls t) f e = f
flows_last Returns f e = f
flows_last Stops f e = f

-- the test of a start passes at the next number where it passes at this one, unless the start is the next number
test_next : (x k : ℕ) → (x ≡ k + 1 → ⊥) → nat_le x (k + 1) ≡ nat_le x k
test_next x k other = by_test (nat_le x k) refl
  where
    by_test : (b : Bool) → nat_le x k ≡ b → nat_le x (k + 1) ≡ nat_le x k
    by_test true e = let le : x ≤ k = leb-true x k e in le-leb x (k + 1) (omega arith) ∙ sym e
    by_test false e = let lt : k < x = leb-false x k e in lt-leb x (k + 1) (omega (arith, other)) ∙ sym e

count_next : (starts : List ℕ) (k : ℕ) → (Contains starts (k + 1) → ⊥) → count_by (λ x. nat_le x (k + 1)) starts ≡ count_by (λ x. nat_le x k) starts
count_next [] k none = refl
count_next (x ∷ starts) k none =
    let head : nat_le x (k + 1) ≡ nat_le x k = test_next x k (λ e. none (0, omega arith, e)) in
    let rest = count_next starts k (λ c. none (suc c.0, omega (arith, c.1), c.2)) in
    sum_by-cons (λ y. cond (nat_le y (k + 1)) 1 0) x starts
    ∙ ap (λ b. cond b 1 0 + count_by (λ y. nat_le y (k + 1)) starts) head
    ∙ ap (λ n. cond (nat_le x k) 1 0 + n) rest
    ∙ sym (sum_by-cons (λ y. cond (nat_le y k) 1 0) x starts)

-- the next instruction is in the same routine, unless a start stands there
pub routine_next : (starts : List ℕ) (k : ℕ) → (Contains starts (k + 1) → ⊥) → routine_of starts (k + 1) ≡ routine_of starts k
routine_next starts k none = ap (λ n. n - 1) (count_next starts k none)

pub routine_most : (starts : List ℕ) (k : ℕ) → length starts ≤ 17 → routine_of starts k ≤ 16
routine_most starts k most = omega (arith, count_by-le-length (λ x. nat_le x k) starts)

slice_get_some : {A : Type 0} (xs : List A) (i : ℕ) → i < length xs → (x : A) × (slice_get xs i ≡ Some x)
slice_get_some [] i lt = absurd (omega arith)
slice_get_some (x ∷ xs) zero lt = (x, refl)
slice_get_some (x ∷ xs) (suc i) lt = slice_get_some xs i (omega arith)

-- what stands at a number with a height
pub slot_of : (o : Option Slot) (n : ℕ) → option_map (λ (slot : Slot). slot.height) o ≡ Some n → (slot : Slot) × (o ≡ Some slot) × (slot.height ≡ n)
slot_of None n e = cc
slot_of (Some slot) n e = (slot, refl, cc)

-- each routine begins at height 0
start_height : (code : Code) (k : ℕ) → IsVerified code → Contains code.starts k → height_at code.instrs k ≡ Some 0
start_height code k v c =
    let P : ℕ → Type 0 = λ n. n < length code.instrs in
    let within : k < length code.instrs = subst P c.2 (v.whole.starts_within c.0 k c.1) in
    let s = slice_get_some code.instrs k within in
    let flat : s.0.height ≡ 0 = (v.each k s.0 s.1).first c in
    ap (option_map (λ (slot : Slot). slot.height)) s.1 ∙ ap Some flat

-- what the rules say of an action at a height
record Ruled (code : Code) (k h : ℕ) (a : Action) : Type 0 where
  next : FlowsOn a → height_at code.instrs (k + 1) ≡ Some (h - pops_of a + pushes_of a)
  jump : JumpFits code k (h - pops_of a + pushes_of a) a
  call : CallFits code k h a
  ends : EndFits (routine_of code.starts k) h a
  last : IsLast code k → EndsRoutine a

-- where a step leads, with its height and its calls
record Led (code : Code) (q h : ℕ) (ss : List ℕ) : Type 0 where
  height : height_at code.instrs q ≡ Some h
  calls : IsCalled code (routine_of code.starts q) ss

led_next : (code : Code) (k h q : ℕ) (a : Action) (rs ss : List ℕ) → Ruled code k h a → FlowsOn a → IsCalled code (routine_of code.starts k) rs
    → q ≡ k + 1 → ss ≡ rs → Led code q (h - pops_of a + pushes_of a) ss
led_next code k h q a rs ss r f c e es =
    let same : routine_of code.starts (k + 1) ≡ routine_of code.starts k = routine_next code.starts k (λ start. flows_last a f (r.last (inl start))) in
    record {
      height = ap (height_at code.instrs) e ∙ r.next f;
      calls = subst (λ (n : ℕ). IsCalled code n ss) (sym (ap (routine_of code.starts) e ∙ same)) (subst (λ (xs : List ℕ). IsCalled code (routine_of code.starts k) xs) (sym es) c);
    }

led_jump : (code : Code) (k h q t : ℕ) (rs ss : List ℕ) → Lands code k t h → IsCalled code (routine_of code.starts k) rs → q ≡ t → ss ≡ rs → Led code q h ss
led_jump code k h q t rs ss l c e es = record {
  height = ap (height_at code.instrs) e ∙ l.height_is;
  calls = subst (λ (n : ℕ). IsCalled code n ss) (sym (ap (routine_of code.starts) e ∙ l.routine)) (subst (λ (xs : List ℕ). IsCalled code (routine_of code.starts k) xs) (sym es) c);
}

leads : (code : Code) (k h q : ℕ) (a : Action) (ks ls rs ss : List ℕ) → IsVerified code → Ruled code k h a → IsCalled code (routine_of code.starts k) rs
    → FreeStep a k ks rs q ls ss → Led code q (h - pops_of a + pushes_of a) ss
leads code k h q (Pushes w) ks ls rs ss v r c f = led_next code k h q (Pushes w) rs ss r tt c f.0 f.2
leads code k h q (Loads w) ks ls rs ss v r c f = led_next code k h q (Loads w) rs ss r tt c f.0 f.2
leads code k h q (Stores w) ks ls rs ss v r c f = led_next code k h q (Stores w) rs ss r tt c f.0 f.2
leads code k h q (LoadsAt w n) ks ls rs ss v r c f = led_next code k h q (LoadsAt w n) rs ss r tt c f.0 f.2
leads code k h q (StoresAt w n) ks ls rs ss v r c f = led_next code k h q (StoresAt w n) rs ss r tt c f.0 f.2
leads code k h q (Combines op) ks ls rs ss v r c f = led_next code k h q (Combines op) rs ss r tt c f.0 f.2
leads code k h q (Changes op) ks ls rs ss v r c f = led_next code k h q (Changes op) rs ss r tt c f.0 f.2
leads code k h q (Jumps t) ks ls rs ss v r c f = led_jump code k (h - 0 + 0) q t rs ss r.jump c f.0 f.2
leads code k h q (JumpsIfZero t) ks ls rs ss v r c (inl e, el, es) = led_jump code k (h - 1 + 0) q t rs ss r.jump c e es
leads code k h q (JumpsIfZero t) ks ls rs ss v r c (inr e, el, es) = led_next code k h q (JumpsIfZero t) rs ss r tt c e es
leads code k h q (Clears n) ks ls rs ss v r c f = led_next code k h q (Clears n) rs ss r tt c f.0 f.2
leads code k h q (Counts n b) ks ls rs ss v r c f = led_next code k h q (Counts n b) rs ss r tt c f.4 f.6
leads code k h q (Calls t) ks ls rs ss v r c f =
    let w = r.call in
    let same : routine_of code.starts (k + 1) ≡ routine_of code.starts k = routine_next code.starts k (λ start. r.last (inl start)) in
    let low : 0 ≡ h - 0 + 0 = omega (arith, w.before) in
    record {
      height = ap (height_at code.instrs) f.0 ∙ start_height code t v w.start ∙ ap Some low;
      calls = subst (λ (n : ℕ). IsCalled code n ss) (sym (ap (routine_of code.starts) f.0)) (subst (λ (xs : List ℕ). IsCalled code (routine_of code.starts t) xs) (sym f.2) (
        w.not_first,
        w.after,
        (λ le. subst (λ (n : ℕ). routine_of code.starts t < n) (sym same) (w.earlier (subst (λ (n : ℕ). 1 ≤ n) same le))),
        subst (λ (n : ℕ). IsCalled code n rs) (sym same) c,
      ));
    }
leads code k h q Returns ks ls rs ss v r c f =
    let called : IsCalled code (routine_of code.starts k) (q ∷ ss) = subst (λ (xs : List ℕ). IsCalled code (routine_of code.starts k) xs) f.0 c in
    let one : 1 ≡ h - 0 + 0 = omega (arith, r.ends.1) in
    record { height = called.1 ∙ ap Some one; calls = called.3 }
leads code k h q Stops ks ls rs ss v r c f = absurd f

-- the instruction of the next step, at the stack's height
at_course : (code : Code) (s : State) → IsOnCourse code s → (slot : Slot) × (slice_get code.instrs s.pc ≡ Some slot) × (slot.height ≡ length s.stack)
at_course code s c = slot_of (slice_get code.instrs s.pc) (length s.stack) c.height

pub instr_here : (code : Code) (k : ℕ) (slot : Slot) → slice_get code.instrs k ≡ Some slot → instr_at code.instrs k ≡ Some slot.instr
instr_here code k slot e = ap (option_map (λ (slot : Slot). slot.instr)) e

some_is : {A : Type 0} (x y : A) → Some x ≡ Some y → x ≡ y
some_is x y e = cc

-- a step that goes on keeps the course
pub course_step : (code : Code) (s t : State) → IsVerified code → IsOnCourse code s → step code.instrs s ≡ Goes t → IsOnCourse code t
course_step code s t v c e =
    let here = at_course code s c in
    let slot = here.0 in
    let typed : IsTypedAt code s.pc slot = v.each s.pc slot here.1 in
    let m = step_moves code.instrs s t e in
    let same : m.0 ≡ slot.instr = some_is m.0 slot.instr (sym m.1 ∙ instr_here code s.pc slot here.1) in
    let moves : Moves (action_of slot.instr) s t = subst (λ (i : Instr). Moves (action_of i) s t) same m.2 in
    let led = leads code s.pc slot.height t.pc (action_of slot.instr) s.counters t.counters s.returns t.returns v
    (record { next = typed.next; jump = typed.jump; call = typed.call; ends = typed.ends; last = typed.last }) c.calls moves.control in
    let height : slot.height - pops_of (action_of slot.instr) + pushes_of (action_of slot.instr) ≡ length t.stack =
    ap (λ (n : ℕ). n - pops_of (action_of slot.instr) + pushes_of (action_of slot.instr)) here.2 ∙ sym moves.height in
    record {
      height = led.height ∙ ap Some height;
      places = moves.words ∙ c.places;
      counters = moves.counters ∙ c.counters;
      calls = led.calls;
    }

-- the calls of a routine: none in the first, and no more than the routines after it and the first in another
called_most : (code : Code) → length code.starts ≤ 17 → (i : ℕ) (rs : List ℕ) → i ≤ 16 → IsCalled code i rs
    → ((i ≡ 0) × (length rs ≡ 0)) ⊎ ((1 ≤ i) × (length rs + i ≤ 17))
called_most code most i [] le c = inl (c, refl)
called_most code most i (r ∷ rs) le c = inr (c.0, by_caller (routine_of code.starts r) c.2 (called_most code most (routine_of code.starts r) rs (routine_most code.starts r most) c.3))
  where
    by_caller : (j : ℕ) → (1 ≤ j → i < j) → (((j ≡ 0) × (length rs ≡ 0)) ⊎ ((1 ≤ j) × (length rs + j ≤ 17))) → length (r ∷ rs) + i ≤ 17
    by_caller j below (inl h) = omega (arith, h.1)
    by_caller j below (inr h) = omega (arith, h.1, below h.0)

-- room for a call, and a call to return from
calls_fit : (code : Code) → length code.starts ≤ 17 → (k h : ℕ) (a : Action) (rs : List ℕ) → CallFits code k h a → EndFits (routine_of code.starts k) h a
    → IsCalled code (routine_of code.starts k) rs → CallsFit a rs
calls_fit code most k h (Calls t) rs w e c =
    by_depth (called_most code most (routine_of code.starts k) rs (routine_most code.starts k most) c)
  where
    by_depth : (((routine_of code.starts k ≡ 0) × (length rs ≡ 0)) ⊎ ((1 ≤ routine_of code.starts k) × (length rs + routine_of code.starts k ≤ 17))) → length rs < 16
    by_depth (inl d) = omega (arith, d.1)
    by_depth (inr d) = omega (arith, d.1, w.not_first, w.earlier d.0)
calls_fit code most k h Returns [] w e c = absurd (omega (arith, e.0, c))
calls_fit code most k h Returns (r ∷ rs) w e c = omega arith
calls_fit code most k h (Pushes x) rs w e c = tt
calls_fit code most k h (Loads x) rs w e c = tt
calls_fit code most k h (Stores x) rs w e c = tt
calls_fit code most k h (LoadsAt x n) rs w e c = tt
calls_fit code most k h (StoresAt x n) rs w e c = tt
calls_fit code most k h (Combines op) rs w e c = tt
calls_fit code most k h (Changes op) rs w e c = tt
calls_fit code most k h (Jumps t) rs w e c = tt
calls_fit code most k h (JumpsIfZero t) rs w e c = tt
calls_fit code most k h (Clears x) rs w e c = tt
calls_fit code most k h (Counts x n) rs w e c = tt
calls_fit code most k h Stops rs w e c = tt

-- the next instruction lacks nothing
pub ready : (code : Code) (s : State) (slot : Slot) → IsVerified code → IsOnCourse code s → slice_get code.instrs s.pc ≡ Some slot
    → IsReady (action_of slot.instr) s
ready code s slot v c e =
    let here = at_course code s c in
    let same : slot ≡ here.0 = some_is slot here.0 (sym e ∙ here.1) in
    let typed : IsTypedAt code s.pc slot = v.each s.pc slot e in
    let height : slot.height ≡ length s.stack = ap (λ (slot : Slot). slot.height) same ∙ here.2 in
    record {
      number = omega (arith, slice_get_within code.instrs s.pc slot e, v.whole.most);
      height = omega (arith, typed.height_fits, height);
      operands = omega (arith, typed.operands, height);
      room = omega (arith, typed.room, height);
      place = subst (λ (n : ℕ). PlacesFit n (action_of slot.instr)) (sym c.places) typed.place;
      counter = subst (λ (n : ℕ). CounterFits n (action_of slot.instr)) (sym c.counters) typed.counter;
      calls = calls_fit code v.whole.starts_most s.pc slot.height (action_of slot.instr) s.returns typed.call typed.ends c.calls;
    }

-- the bounds of the stacks
pub course_bounds : (code : Code) (s : State) → IsVerified code → IsOnCourse code s → (length s.stack ≤ 64) × (length s.returns ≤ 16)
course_bounds code s v c =
    let here = at_course code s c in
    let typed : IsTypedAt code s.pc here.0 = v.each s.pc here.0 here.1 in (
      omega (arith, typed.height_fits, here.2),
      by_depth (called_most code v.whole.starts_most (routine_of code.starts s.pc) s.returns (routine_most code.starts s.pc v.whole.starts_most) c.calls),
    )
  where
    by_depth : (((routine_of code.starts s.pc ≡ 0) × (length s.returns ≡ 0)) ⊎ ((1 ≤ routine_of code.starts s.pc) × (length s.returns + routine_of code.starts s.pc ≤ 17)))
        → length s.returns ≤ 16
    by_depth (inl d) = omega (arith, d.1)
    by_depth (inr d) = omega (arith, d.0, d.1)

found_free : {A : Type 0} (xs : List A) (k : ℕ) (go : A → Next State (List ℤ)) → k < length xs → ((x : A) → go x ≢ Stuck) → found (slice_get xs k) go ≢ Stuck
found_free xs k go lt h e =
    let x = slice_get_some xs k lt in
    h x.0 (ap (λ o. found o go) (sym x.1) ∙ e)

gives_free : {A : Type 0} (o : Option A) (go : A → Next State (List ℤ)) → ((x : A) → o ≡ Some x → go x ≢ Stuck) → gives o go ≢ Stuck
gives_free None go h e = cc
gives_free (Some x) go h e = h x refl e

abbrev on_to : State → Next State (List ℤ)
on_to s = Goes s

goes_free : (s : State) → on_to s ≢ Stuck
goes_free s e = cc

-- an index in range names a place of the array
place_below : (a n : ℕ) (i : ℤ) (p : ℕ) → place_of a n i ≡ Some p → p < a + n
place_below a n (pos i) p e =
    let both = cond_some (nat_lt i n) (a + i) p e in
    let below : i < n = ltb-true i n both.0 in
    omega (arith, both.1)
place_below a n (negsuc i) p e = cc

-- an action that lacks nothing is not stuck
act_free : (a : Action) (pc : ℕ) (st ws : List ℤ) (ks rs : List ℕ) → IsReady a (at pc st ws ks rs) → act a pc st ws ks rs ≢ Stuck
act_free (Pushes w) pc st ws ks rs r e = cc
act_free (Loads a) pc st ws ks rs r e = found_free ws a (λ w. Goes (at (pc + 1) (w ∷ st) ws ks rs)) r.place (λ w. goes_free (at (pc + 1) (w ∷ st) ws ks rs)) e
act_free (Stores a) pc [] ws ks rs r e = absurd (omega (arith, r.operands))
act_free (Stores a) pc (w ∷ st) ws ks rs r e =
    found_free ws a (λ _. Goes (at (pc + 1) st (slice_set ws a w) ks rs)) r.place (λ _. goes_free (at (pc + 1) st (slice_set ws a w) ks rs)) e
act_free (LoadsAt a n) pc [] ws ks rs r e = absurd (omega (arith, r.operands))
act_free (LoadsAt a n) pc (i ∷ st) ws ks rs r e =
    gives_free (place_of a n i) (λ p. found (slice_get ws p) (λ w. Goes (at (pc + 1) (w ∷ st) ws ks rs)))
    (λ p is. found_free ws p (λ w. Goes (at (pc + 1) (w ∷ st) ws ks rs)) (omega (arith, place_below a n i p is, r.place.1)) (λ w. goes_free (at (pc + 1) (w ∷ st) ws ks rs))) e
act_free (StoresAt a n) pc [] ws ks rs r e = absurd (omega (arith, r.operands))
act_free (StoresAt a n) pc (w ∷ []) ws ks rs r e = absurd (omega (arith, r.operands))
act_free (StoresAt a n) pc (w ∷ i ∷ st) ws ks rs r e =
    gives_free (place_of a n i) (λ p. found (slice_get ws p) (λ _. Goes (at (pc + 1) st (slice_set ws p w) ks rs)))
    (λ p is. found_free ws p (λ _. Goes (at (pc + 1) st (slice_set ws p w) ks rs)) (omega (arith, place_below a n i p is, r.place.1)) (λ _. goes_free (at (pc + 1) st (slice_set ws p w) ks rs))) e
act_free (Combines op) pc [] ws ks rs r e = absurd (omega (arith, r.operands))
act_free (Combines op) pc (y ∷ []) ws ks rs r e = absurd (omega (arith, r.operands))
act_free (Combines op) pc (y ∷ x ∷ st) ws ks rs r e =
    gives_free (binary_of op x y) (λ w. Goes (at (pc + 1) (w ∷ st) ws ks rs)) (λ w is. goes_free (at (pc + 1) (w ∷ st) ws ks rs)) e
act_free (Changes op) pc [] ws ks rs r e = absurd (omega (arith, r.operands))
act_free (Changes op) pc (x ∷ st) ws ks rs r e = cc
act_free (Jumps t) pc st ws ks rs r e = cc
act_free (JumpsIfZero t) pc [] ws ks rs r e = absurd (omega (arith, r.operands))
act_free (JumpsIfZero t) pc (w ∷ st) ws ks rs r e = cc
act_free (Clears c) pc st ws ks rs r e =
    found_free ks c (λ _. Goes (at (pc + 1) st ws (slice_set ks c 0) rs)) r.counter (λ _. goes_free (at (pc + 1) st ws (slice_set ks c 0) rs)) e
act_free (Counts c n) pc st ws ks rs r e =
    found_free ks c (λ k. gives (count_up k n) (λ v. Goes (at (pc + 1) st ws (slice_set ks c v) rs))) r.counter
    (λ k. gives_free (count_up k n) (λ v. Goes (at (pc + 1) st ws (slice_set ks c v) rs)) (λ v is. goes_free (at (pc + 1) st ws (slice_set ks c v) rs))) e
act_free (Calls t) pc st ws ks rs r e = cc
act_free Returns pc st ws ks [] r e = absurd (omega (arith, r.calls))
act_free Returns pc st ws ks (x ∷ rs) r e = cc
act_free Stops pc st ws ks rs r e = cc

-- a step is what its instruction does
pub step_is : (code : Code) (s : State) (slot : Slot) → slice_get code.instrs s.pc ≡ Some slot → step code.instrs s ≡ act_on (action_of slot.instr) s
step_is code s slot e = ap (λ o. found o (λ i. does i s)) (instr_here code s.pc slot e)

-- a step of verified code on its course is not stuck
pub course_free : (code : Code) (s : State) → IsVerified code → IsOnCourse code s → step code.instrs s ≢ Stuck
course_free code s v c e =
    let here = at_course code s c in
    act_free (action_of here.0.instr) s.pc s.stack s.words s.counters s.returns (ready code s here.0 v c here.1) (sym (step_is code s here.0 here.1) ∙ e)

-- the words of the cells at the start are as many as the cells have
filled_length : (role : Role) (n : ℕ) (cells : List CellShape) (state ins : List ℤ)
    → ((st is : List ℤ) → length st ≡ width_of is_state cells → length is ≡ width_of is_in cells → length (cells_at_start cells st is) ≡ total_width cells)
    → length state ≡ cond (is_state role) n 0 + width_of is_state cells → length ins ≡ cond (is_in role) n 0 + width_of is_in cells
    → length (filled role n (cells_at_start cells) state ins) ≡ n + total_width cells
filled_length In n cells state ins ih hs hi =
    let rest = ih state (drop n ins) (omega (arith, hs)) (length-drop n ins ∙ omega (arith, hi)) in
    length-append (take n ins) (cells_at_start cells state (drop n ins)) ∙ omega (arith, rest, length-take-le n ins (omega (arith, hi)))
filled_length StateRole n cells state ins ih hs hi =
    let rest = ih (drop n state) ins (length-drop n state ∙ omega (arith, hs)) (omega (arith, hi)) in
    length-append (take n state) (cells_at_start cells (drop n state) ins) ∙ omega (arith, rest, length-take-le n state (omega (arith, hs)))
filled_length Out n cells state ins ih hs hi =
    let rest = ih state ins (omega (arith, hs)) (omega (arith, hi)) in
    length-append (replicate n (pos 0)) (cells_at_start cells state ins) ∙ omega (arith, rest, length-replicate n (pos 0))
filled_length Local n cells state ins ih hs hi =
    let rest = ih state ins (omega (arith, hs)) (omega (arith, hi)) in
    length-append (replicate n (pos 0)) (cells_at_start cells state ins) ∙ omega (arith, rest, length-replicate n (pos 0))

pub cells_length : (cells : List CellShape) (state ins : List ℤ) → length state ≡ width_of is_state cells → length ins ≡ width_of is_in cells
    → length (cells_at_start cells state ins) ≡ total_width cells
cells_length [] state ins hs hi = refl
cells_length (c ∷ cells) state ins hs hi = filled_length c.role c.width cells state ins (λ st is. cells_length cells st is) hs hi

-- the places at the start are the code's
pub start_places : (code : Code) (state ins : List ℤ) → total_width code.cells ≤ code.places → length state ≡ width_of is_state code.cells
    → length ins ≡ width_of is_in code.cells → length (words_at_start code state ins) ≡ code.places
start_places code state ins fits hs hi =
    length-append (cells_at_start code.cells state ins) (replicate (code.places - total_width code.cells) (pos 0))
    ∙ omega (arith, cells_length code.cells state ins hs hi, length-replicate (code.places - total_width code.cells) (pos 0))

-- no start but the first is at or before instruction 0
none_before : (xs : List ℕ) → ((k : ℕ) → k < length xs → 1 ≤ slice_index xs k) → count_by (λ x. nat_le x 0) xs ≡ 0
none_before [] h = refl
none_before (x ∷ xs) h =
    let head : 1 ≤ x = h 0 (omega arith) in
    sum_by-cons (λ y. cond (nat_le y 0) 1 0) x xs
    ∙ ap (λ b. cond b 1 0 + count_by (λ y. nat_le y 0) xs) (lt-leb x 0 head)
    ∙ ap (λ n. 0 + n) (none_before xs (λ k lt. h (suc k) (omega arith)))

first_routine : (starts : List ℕ) → slice_get starts 0 ≡ Some 0 → IsStrictlyIncreasing starts → routine_of starts 0 ≡ 0
first_routine [] e rise = refl
first_routine (x ∷ xs) e rise =
    let rest : count_by (λ y. nat_le y 0) xs ≡ 0 = none_before xs (λ k lt. let up : slice_index (x ∷ xs) k < slice_index (x ∷ xs) (k + 1) = rise k (omega arith) in later k up) in
    let few : count_by (λ y. nat_le y 0) (x ∷ xs) ≡ cond (nat_le x 0) 1 0 + count_by (λ y. nat_le y 0) xs = sum_by-cons (λ y. cond (nat_le y 0) 1 0) x xs in
    omega (arith, rest, few, cond_one (nat_le x 0))
  where
    later : (k : ℕ) → slice_index (x ∷ xs) k < slice_index (x ∷ xs) (k + 1) → 1 ≤ slice_index xs k
    later k up = let same : slice_index (x ∷ xs) (k + 1) ≡ slice_index xs k = ap (slice_index (x ∷ xs)) (add-one k) in omega arith

    cond_one : (b : Bool) → cond b 1 0 ≤ 1
    cond_one true = omega arith
    cond_one false = omega arith

-- verified code begins on its course
pub course_start : (code : Code) (state ins : List ℤ) → IsVerified code → length state ≡ width_of is_state code.cells → length ins ≡ width_of is_in code.cells
    → IsOnCourse code (start_of code state ins)
course_start code state ins v hs hi =
    let at_0 : 0 < length code.starts = slice_get_within code.starts 0 0 v.whole.starts_at_0 in
    record {
      height = start_height code 0 v (0, at_0, get_or_from_slice_get code.starts 0 0 0 v.whole.starts_at_0);
      places = start_places code state ins v.whole.cells_within hs hi;
      counters = length-replicate code.counters 0;
      calls = first_routine code.starts v.whole.starts_at_0 v.whole.starts_rise;
    }

-- whatever verified code reaches is on its course
pub course_reaches : (code : Code) → IsVerified code → {s t : State} → IsOnCourse code s → Reaches code.instrs s t → IsOnCourse code t
course_reaches code v c here = c
course_reaches code v {s} c (onward {t = u} e r) = course_reaches code v (course_step code s u v c e) r

-- verified code never is stuck
pub never_stuck : (code : Code) → IsVerified code → NeverStuck code
never_stuck code v = record {
  goes = λ state ins hs hi s r. course_free code s v (course_reaches code v (course_start code state ins v hs hi) r);
  bounds = λ state ins hs hi s r. course_bounds code s v (course_reaches code v (course_start code state ins v hs hi) r);
}
