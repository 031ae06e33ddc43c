-- The typing rules as a test that computes, for code that is written out.
use Rattle.std.proofs.Common.{◌≡◌, ◌⊎◌, inl, inr, ℕ, zero, suc, ◌+◌, ◌-◌, ◌<◌, ◌≤◌, Bool, true, false, List, [], ◌∷◌, length, Option, Some, None, refl, sym, ap, ◌∙◌, subst, arith, zero-add, add-one}
use Rattle.std.specs.Prelude.{◌&&◌, ◌||◌, not, nat_eq, nat_le, nat_lt, slice_get, slice_index, slice_index_or, All, Contains, count_by}
use Rattle.std.specs.List.{list_all}
use Rattle.std.specs.List.Sorted.{IsStrictlyIncreasing}
use Rattle.std.specs.Cmp.{first_so, second_so}
use Rattle.std.proofs.lemmas.Bool.{leb-true, ltb-true, eqb-true, eq-eqb}
use Rattle.std.proofs.lemmas.List.Sums.{AllPass-from_list_all}
use Rattle.mars_base.specs.declared.word.Role.{Role}
use Rattle.mars_base.specs.declared.word.Role.TheVariants.{In, Out, State, Local}
use Rattle.word_code.specs.Action.{Action, Pushes, Loads, Stores, LoadsAt, StoresAt, Combines, Changes, Jumps, JumpsIfZero, Clears, Counts, Calls, Returns, Stops, action_of}
use Rattle.word_code.specs.Cells.{is_in, is_out, total_width}
use Rattle.word_code.specs.Typing.{IsVerified, IsWhole, IsTypedAt, IsLast, FlowsOn, Lands, JumpFits, PlacesFit, CounterFits, CallsWell, CallFits, EndFits, EndsRoutine, WidthFits, height_at, height_after, routine_of, pops_of, pushes_of}
use Rattle.word_code.specs.declared.code.CellShape.{CellShape}
use Rattle.word_code.specs.declared.code.Code.{Code}
use Rattle.word_code.specs.declared.code.Slot.{Slot}

abbrev pub has : List ℕ → ℕ → Bool
has [] k = false
has (x ∷ xs) k = nat_eq x k || has xs k

abbrev pub some_is : Option ℕ → ℕ → Bool
some_is None n = false
some_is (Some m) n = nat_eq m n

abbrev pub is_last : Code → ℕ → Bool
is_last code k = has code.starts (k + 1) || nat_eq (k + 1) (length code.instrs)

-- what follows is there, at this height
abbrev pub flows_well : Code → ℕ → ℕ → Bool
flows_well code k after = some_is (height_at code.instrs (k + 1)) after && not (is_last code k)

abbrev pub lands_well : Code → ℕ → ℕ → ℕ → Bool
lands_well code k t after = nat_eq (routine_of code.starts t) (routine_of code.starts k) && some_is (height_at code.instrs t) after

-- the rules that depend on the action
abbrev pub action_test : Code → ℕ → ℕ → ℕ → Action → Bool
action_test code k h after (Pushes w) = flows_well code k after
action_test code k h after (Loads a) = flows_well code k after && nat_lt a code.places
action_test code k h after (Stores a) = flows_well code k after && nat_lt a code.places
action_test code k h after (LoadsAt a n) = flows_well code k after && (nat_le 1 n && nat_le (a + n) code.places)
action_test code k h after (StoresAt a n) = flows_well code k after && (nat_le 1 n && nat_le (a + n) code.places)
action_test code k h after (Combines op) = flows_well code k after
action_test code k h after (Changes op) = flows_well code k after
action_test code k h after (Jumps t) = lands_well code k t after
action_test code k h after (JumpsIfZero t) = flows_well code k after && lands_well code k t after
action_test code k h after (Clears c) = flows_well code k after && nat_lt c code.counters
action_test code k h after (Counts c n) = flows_well code k after && nat_lt c code.counters
action_test code k h after (Calls t) =
    (nat_eq h 0 && (flows_well code k 1 && has code.starts t))
    && (nat_le 1 (routine_of code.starts t) && (nat_eq (routine_of code.starts k) 0 || nat_lt (routine_of code.starts t) (routine_of code.starts k)))
action_test code k h after Returns = nat_le 1 (routine_of code.starts k) && nat_eq h 1
action_test code k h after Stops = nat_eq (routine_of code.starts k) 0 && nat_eq h 0

abbrev pub slot_test : Code → ℕ → Slot → Bool
slot_test code k slot =
    ((not (has code.starts k) || nat_eq slot.height 0) && nat_le slot.height 64)
    && ((nat_le (pops_of (action_of slot.instr)) slot.height && nat_le (height_after slot) 64)
    && action_test code k slot.height (height_after slot) (action_of slot.instr))

abbrev pub slots_test : Code → ℕ → List Slot → Bool
slots_test code k [] = true
slots_test code k (slot ∷ slots) = slot_test code k slot && slots_test code (k + 1) slots

or_so : (a b : Bool) → (a || b) ≡ true → (a ≡ true) ⊎ (b ≡ true)
or_so true b e = inl refl
or_so false b e = inr e

not_so : (a : Bool) → not a ≡ true → a ≡ true → ⊥
not_so true e f = cc
not_so false e f = cc

or_left : (a b : Bool) → a ≡ true → (a || b) ≡ true
or_left true b e = refl
or_left false b e = cc

or_right : (a b : Bool) → b ≡ true → (a || b) ≡ true
or_right true b e = refl
or_right false b e = e

-- an element is found
contains_has : (xs : List ℕ) (k : ℕ) → Contains xs k → has xs k ≡ true
contains_has [] k c = absurd (omega (arith, c.1))
contains_has (x ∷ xs) k (zero, lt, e) = or_left (nat_eq x k) (has xs k) (eq-eqb x k e)
contains_has (x ∷ xs) k (suc i, lt, e) = or_right (nat_eq x k) (has xs k) (contains_has xs k (i, omega arith, e))

has_contains : (xs : List ℕ) (k : ℕ) → has xs k ≡ true → Contains xs k
has_contains [] k e = cc
has_contains (x ∷ xs) k e = by_head (λ h. has_contains xs k h) (or_so (nat_eq x k) (has xs k) e)
  where
    by_head : (has xs k ≡ true → Contains xs k) → ((nat_eq x k ≡ true) ⊎ (has xs k ≡ true)) → Contains (x ∷ xs) k
    by_head f (inl h) = (0, omega arith, eqb-true x k h)
    by_head f (inr h) = let c = f h in (suc c.0, omega (arith, c.1), c.2)

some_so : (o : Option ℕ) (n : ℕ) → some_is o n ≡ true → o ≡ Some n
some_so None n e = cc
some_so (Some m) n e = ap Some (eqb-true m n e)

last_so : (code : Code) (k : ℕ) → IsLast code k → is_last code k ≡ true
last_so code k (inl c) = or_left (has code.starts (k + 1)) (nat_eq (k + 1) (length code.instrs)) (contains_has code.starts (k + 1) c)
last_so code k (inr e) = or_right (has code.starts (k + 1)) (nat_eq (k + 1) (length code.instrs)) (eq-eqb (k + 1) (length code.instrs) e)

flows_so : (code : Code) (k after : ℕ) → flows_well code k after ≡ true → (height_at code.instrs (k + 1) ≡ Some after) × (IsLast code k → ⊥)
flows_so code k after e = (
  some_so (height_at code.instrs (k + 1)) after (first_so (some_is (height_at code.instrs (k + 1)) after) (not (is_last code k)) e),
  λ l. not_so (is_last code k) (second_so (some_is (height_at code.instrs (k + 1)) after) (not (is_last code k)) e) (last_so code k l),
)

lands_so : (code : Code) (k t after : ℕ) → lands_well code k t after ≡ true → Lands code k t after
lands_so code k t after e =
    let a = nat_eq (routine_of code.starts t) (routine_of code.starts k) in
    let b = some_is (height_at code.instrs t) after in
    record {
      routine = eqb-true (routine_of code.starts t) (routine_of code.starts k) (first_so a b e);
      height_is = some_so (height_at code.instrs t) after (second_so a b e);
    }

-- the rules that depend on the action
record Rest (code : Code) (k h after : ℕ) (a : Action) : Type 0 where
  next : FlowsOn a → height_at code.instrs (k + 1) ≡ Some after
  jump : JumpFits code k after a
  place : PlacesFit code.places a
  counter : CounterFits code.counters a
  call : CallFits code k h a
  ends : EndFits (routine_of code.starts k) h a
  last : IsLast code k → EndsRoutine a

within_so : (code : Code) (k after a n : ℕ) → (flows_well code k after && (nat_le 1 n && nat_le (a + n) code.places)) ≡ true → (1 ≤ n) × (a + n ≤ code.places)
within_so code k after a n e =
    let both = second_so (flows_well code k after) (nat_le 1 n && nat_le (a + n) code.places) e in
    (leb-true 1 n (first_so (nat_le 1 n) (nat_le (a + n) code.places) both), leb-true (a + n) code.places (second_so (nat_le 1 n) (nat_le (a + n) code.places) both))

calls_so : (code : Code) (k h after t : ℕ) → action_test code k h after (Calls t) ≡ true → CallsWell code k h t × (IsLast code k → ⊥)
calls_so code k h after t e =
    let i = routine_of code.starts k in
    let j = routine_of code.starts t in
    let front = first_so (nat_eq h 0 && (flows_well code k 1 && has code.starts t)) (nat_le 1 j && (nat_eq i 0 || nat_lt j i)) e in
    let back = second_so (nat_eq h 0 && (flows_well code k 1 && has code.starts t)) (nat_le 1 j && (nat_eq i 0 || nat_lt j i)) e in
    let mid = second_so (nat_eq h 0) (flows_well code k 1 && has code.starts t) front in
    let flow = flows_so code k 1 (first_so (flows_well code k 1) (has code.starts t) mid) in (
      record {
        before = eqb-true h 0 (first_so (nat_eq h 0) (flows_well code k 1 && has code.starts t) front);
        after = flow.0;
        start = has_contains code.starts t (second_so (flows_well code k 1) (has code.starts t) mid);
        not_first = leb-true 1 j (first_so (nat_le 1 j) (nat_eq i 0 || nat_lt j i) back);
        earlier = λ le. by_caller le (or_so (nat_eq i 0) (nat_lt j i) (second_so (nat_le 1 j) (nat_eq i 0 || nat_lt j i) back));
      },
      flow.1,
    )
  where
    by_caller : 1 ≤ routine_of code.starts k → ((nat_eq (routine_of code.starts k) 0 ≡ true) ⊎ (nat_lt (routine_of code.starts t) (routine_of code.starts k) ≡ true))
        → routine_of code.starts t < routine_of code.starts k
    by_caller le (inl z) = absurd (omega (arith, eqb-true (routine_of code.starts k) 0 z))
    by_caller le (inr lt) = ltb-true (routine_of code.starts t) (routine_of code.starts k) lt

rest_so : (code : Code) (k h after : ℕ) (a : Action) → action_test code k h after a ≡ true → Rest code k h after a
rest_so code k h after (Pushes w) e =
    let f = flows_so code k after e in
    record { next = λ _. f.0; jump = tt; place = tt; counter = tt; call = tt; ends = tt; last = λ l. absurd (f.1 l) }
rest_so code k h after (Loads a) e =
    let f = flows_so code k after (first_so (flows_well code k after) (nat_lt a code.places) e) in
    let p = ltb-true a code.places (second_so (flows_well code k after) (nat_lt a code.places) e) in
    record { next = λ _. f.0; jump = tt; place = p; counter = tt; call = tt; ends = tt; last = λ l. absurd (f.1 l) }
rest_so code k h after (Stores a) e =
    let f = flows_so code k after (first_so (flows_well code k after) (nat_lt a code.places) e) in
    let p = ltb-true a code.places (second_so (flows_well code k after) (nat_lt a code.places) e) in
    record { next = λ _. f.0; jump = tt; place = p; counter = tt; call = tt; ends = tt; last = λ l. absurd (f.1 l) }
rest_so code k h after (LoadsAt a n) e =
    let f = flows_so code k after (first_so (flows_well code k after) (nat_le 1 n && nat_le (a + n) code.places) e) in
    record { next = λ _. f.0; jump = tt; place = within_so code k after a n e; counter = tt; call = tt; ends = tt; last = λ l. absurd (f.1 l) }
rest_so code k h after (StoresAt a n) e =
    let f = flows_so code k after (first_so (flows_well code k after) (nat_le 1 n && nat_le (a + n) code.places) e) in
    record { next = λ _. f.0; jump = tt; place = within_so code k after a n e; counter = tt; call = tt; ends = tt; last = λ l. absurd (f.1 l) }
rest_so code k h after (Combines op) e =
    let f = flows_so code k after e in
    record { next = λ _. f.0; jump = tt; place = tt; counter = tt; call = tt; ends = tt; last = λ l. absurd (f.1 l) }
rest_so code k h after (Changes op) e =
    let f = flows_so code k after e in
    record { next = λ _. f.0; jump = tt; place = tt; counter = tt; call = tt; ends = tt; last = λ l. absurd (f.1 l) }
rest_so code k h after (Jumps t) e =
    record { next = λ u. absurd u; jump = lands_so code k t after e; place = tt; counter = tt; call = tt; ends = tt; last = λ l. tt }
rest_so code k h after (JumpsIfZero t) e =
    let f = flows_so code k after (first_so (flows_well code k after) (lands_well code k t after) e) in
    let j = lands_so code k t after (second_so (flows_well code k after) (lands_well code k t after) e) in
    record { next = λ _. f.0; jump = j; place = tt; counter = tt; call = tt; ends = tt; last = λ l. absurd (f.1 l) }
rest_so code k h after (Clears c) e =
    let f = flows_so code k after (first_so (flows_well code k after) (nat_lt c code.counters) e) in
    let p = ltb-true c code.counters (second_so (flows_well code k after) (nat_lt c code.counters) e) in
    record { next = λ _. f.0; jump = tt; place = tt; counter = p; call = tt; ends = tt; last = λ l. absurd (f.1 l) }
rest_so code k h after (Counts c n) e =
    let f = flows_so code k after (first_so (flows_well code k after) (nat_lt c code.counters) e) in
    let p = ltb-true c code.counters (second_so (flows_well code k after) (nat_lt c code.counters) e) in
    record { next = λ _. f.0; jump = tt; place = tt; counter = p; call = tt; ends = tt; last = λ l. absurd (f.1 l) }
rest_so code k h after (Calls t) e =
    let c = calls_so code k h after t e in
    record { next = λ u. absurd u; jump = tt; place = tt; counter = tt; call = c.0; ends = tt; last = λ l. absurd (c.1 l) }
rest_so code k h after Returns e =
    let i = routine_of code.starts k in
    let ends : (1 ≤ i) × (h ≡ 1) = (leb-true 1 i (first_so (nat_le 1 i) (nat_eq h 1) e), eqb-true h 1 (second_so (nat_le 1 i) (nat_eq h 1) e)) in
    record { next = λ u. absurd u; jump = tt; place = tt; counter = tt; call = tt; ends = ends; last = λ l. tt }
rest_so code k h after Stops e =
    let i = routine_of code.starts k in
    let ends : (i ≡ 0) × (h ≡ 0) = (eqb-true i 0 (first_so (nat_eq i 0) (nat_eq h 0) e), eqb-true h 0 (second_so (nat_eq i 0) (nat_eq h 0) e)) in
    record { next = λ u. absurd u; jump = tt; place = tt; counter = tt; call = tt; ends = ends; last = λ l. tt }

-- an instruction that passes the test meets the rules
slot_so : (code : Code) (k : ℕ) (slot : Slot) → slot_test code k slot ≡ true → IsTypedAt code k slot
slot_so code k slot e =
    let a = not (has code.starts k) || nat_eq slot.height 0 in
    let b = nat_le slot.height 64 in
    let c = nat_le (pops_of (action_of slot.instr)) slot.height in
    let d = nat_le (height_after slot) 64 in
    let f = action_test code k slot.height (height_after slot) (action_of slot.instr) in
    let ab = first_so (a && b) ((c && d) && f) e in
    let cdf = second_so (a && b) ((c && d) && f) e in
    let cd = first_so (c && d) f cdf in
    let rest = rest_so code k slot.height (height_after slot) (action_of slot.instr) (second_so (c && d) f cdf) in
    record {
      first = λ start. by_start start (or_so (not (has code.starts k)) (nat_eq slot.height 0) (first_so a b ab));
      height_fits = leb-true slot.height 64 (second_so a b ab);
      operands = leb-true (pops_of (action_of slot.instr)) slot.height (first_so c d cd);
      room = leb-true (height_after slot) 64 (second_so c d cd);
      next = rest.next;
      jump = rest.jump;
      place = rest.place;
      counter = rest.counter;
      call = rest.call;
      ends = rest.ends;
      last = rest.last;
    }
  where
    by_start : Contains code.starts k → ((not (has code.starts k) ≡ true) ⊎ (nat_eq slot.height 0 ≡ true)) → slot.height ≡ 0
    by_start start (inl n) = absurd (not_so (has code.starts k) n (contains_has code.starts k start))
    by_start start (inr z) = eqb-true slot.height 0 z

slots_so : (code : Code) (base k : ℕ) (slots : List Slot) (slot : Slot) → slots_test code base slots ≡ true → slice_get slots k ≡ Some slot
    → slot_test code (base + k) slot ≡ true
slots_so code base k [] slot e h = cc
slots_so code base zero (x ∷ slots) slot e h =
    let same : x ≡ slot = cc in
    let low : base ≡ base + zero = omega arith in
    ap (λ n. slot_test code n slot) (sym low) ∙ ap (slot_test code base) (sym same) ∙ first_so (slot_test code base x) (slots_test code (base + 1) slots) e
slots_so code base (suc k) (x ∷ slots) slot e h =
    let later : base + suc k ≡ base + 1 + k = omega arith in
    ap (λ n. slot_test code n slot) later
    ∙ slots_so code (base + 1) k slots slot (second_so (slot_test code base x) (slots_test code (base + 1) slots) e) h

abbrev pub rises : List ℕ → Bool
rises [] = true
rises (x ∷ []) = true
rises (x ∷ y ∷ xs) = nat_lt x y && rises (y ∷ xs)

rises_so : (xs : List ℕ) → rises xs ≡ true → IsStrictlyIncreasing xs
rises_so [] e k lt = absurd (omega arith)
rises_so (x ∷ []) e k lt = absurd (omega arith)
rises_so (x ∷ y ∷ xs) e zero lt = ltb-true x y (first_so (nat_lt x y) (rises (y ∷ xs)) e)
rises_so (x ∷ y ∷ xs) e (suc k) lt =
    let later = rises_so (y ∷ xs) (second_so (nat_lt x y) (rises (y ∷ xs)) e) k (omega arith) in
    let same : slice_index (x ∷ y ∷ xs) (suc k + 1) ≡ slice_index (y ∷ xs) (k + 1) = ap (slice_index (x ∷ y ∷ xs)) (add-one (suc k)) ∙ ap (slice_index (y ∷ xs)) (sym (add-one k)) in
    omega arith

abbrev pub width_test : Role → ℕ → Bool
width_test In n = nat_le 1 n && nat_le n 16
width_test Out n = nat_le 1 n && nat_le n 16
width_test State n = nat_le 1 n && nat_le n 4096
width_test Local n = false

width_so : (role : Role) (n : ℕ) → width_test role n ≡ true → WidthFits role n
width_so In n e = (leb-true 1 n (first_so (nat_le 1 n) (nat_le n 16) e), leb-true n 16 (second_so (nat_le 1 n) (nat_le n 16) e))
width_so Out n e = (leb-true 1 n (first_so (nat_le 1 n) (nat_le n 16) e), leb-true n 16 (second_so (nat_le 1 n) (nat_le n 16) e))
width_so State n e = (leb-true 1 n (first_so (nat_le 1 n) (nat_le n 4096) e), leb-true n 4096 (second_so (nat_le 1 n) (nat_le n 4096) e))
width_so Local n e = cc

-- the rules on the whole
abbrev pub starts_test : List ℕ → ℕ → Bool
starts_test starts size = (some_is (slice_get starts 0) 0 && nat_le (length starts) 17) && (rises starts && list_all (λ start. nat_lt start size) starts)

abbrev pub sizes_test : Code → Bool
sizes_test code =
    (nat_le 1 (length code.instrs) && nat_le (length code.instrs) 65535)
    && (nat_le code.places 4096 && (nat_le (total_width code.cells) code.places && nat_le code.counters 256))

abbrev pub cells_test : List CellShape → Bool
cells_test cells = list_all (λ cell. width_test cell.role cell.width) cells && nat_le (count_by (λ cell. is_in cell.role || is_out cell.role) cells) 16

abbrev pub code_test : Code → Bool
code_test code = (sizes_test code && (starts_test code.starts (length code.instrs) && cells_test code.cells)) && slots_test code 0 code.instrs

whole_so : (code : Code) → (sizes_test code && (starts_test code.starts (length code.instrs) && cells_test code.cells)) ≡ true → IsWhole code
whole_so code e =
    let size = length code.instrs in
    let sizes = first_so (sizes_test code) (starts_test code.starts size && cells_test code.cells) e in
    let others = second_so (sizes_test code) (starts_test code.starts size && cells_test code.cells) e in
    let starts = first_so (starts_test code.starts size) (cells_test code.cells) others in
    let cells = second_so (starts_test code.starts size) (cells_test code.cells) others in
    let s1 = nat_le 1 size in
    let s2 = nat_le size 65535 in
    let s3 = nat_le code.places 4096 in
    let s4 = nat_le (total_width code.cells) code.places in
    let s5 = nat_le code.counters 256 in
    let s12 = first_so (s1 && s2) (s3 && (s4 && s5)) sizes in
    let s345 = second_so (s1 && s2) (s3 && (s4 && s5)) sizes in
    let s45 = second_so s3 (s4 && s5) s345 in
    let t1 = some_is (slice_get code.starts 0) 0 in
    let t2 = nat_le (length code.starts) 17 in
    let t3 = rises code.starts in
    let t4 = list_all (λ start. nat_lt start size) code.starts in
    let t12 = first_so (t1 && t2) (t3 && t4) starts in
    let t34 = second_so (t1 && t2) (t3 && t4) starts in
    let c1 = list_all (λ (cell : CellShape). width_test cell.role cell.width) code.cells in
    let c2 = nat_le (count_by (λ (cell : CellShape). is_in cell.role || is_out cell.role) code.cells) 16 in
    let below = AllPass-from_list_all (λ start. nat_lt start size) code.starts (second_so t3 t4 t34) in
    let wide = AllPass-from_list_all (λ (cell : CellShape). width_test cell.role cell.width) code.cells (first_so c1 c2 cells) in
    record {
      some = leb-true 1 size (first_so s1 s2 s12);
      most = leb-true size 65535 (second_so s1 s2 s12);
      starts_at_0 = some_so (slice_get code.starts 0) 0 (first_so t1 t2 t12);
      starts_most = leb-true (length code.starts) 17 (second_so t1 t2 t12);
      starts_rise = rises_so code.starts (first_so t3 t4 t34);
      starts_within = λ k d lt. ltb-true (slice_index_or code.starts k d) size (below k d lt);
      places_most = leb-true code.places 4096 (first_so s3 (s4 && s5) s345);
      cells_within = leb-true (total_width code.cells) code.places (first_so s4 s5 s45);
      counters_most = leb-true code.counters 256 (second_so s4 s5 s45);
      widths = λ k d lt. width_so (slice_index_or code.cells k d).role (slice_index_or code.cells k d).width (wide k d lt);
      ports_most = leb-true (count_by (λ (cell : CellShape). is_in cell.role || is_out cell.role) code.cells) 16 (second_so c1 c2 cells);
    }

-- code that passes the test is verified
pub checked : (code : Code) → code_test code ≡ true → IsVerified code
checked code e =
    let front = sizes_test code && (starts_test code.starts (length code.instrs) && cells_test code.cells) in
    record {
      whole = whole_so code (first_so front (slots_test code 0 code.instrs) e);
      each = λ k slot h. slot_so code k slot (subst (λ n. slot_test code n slot ≡ true) (zero-add k) (slots_so code 0 k code.instrs slot (second_so front (slots_test code 0 code.instrs) e) h));
    }
