-- What an execution that halts leaves: as many words as the cells have, each of them a word where the state, the inputs and
-- the code's own words are.
use Rattle.std.proofs.Common.{◌≡◌, ℕ, zero, suc, ◌+◌, ◌-◌, ◌<◌, ◌≤◌, Bool, true, false, cond, List, [], ◌∷◌, ◌++◌, length, ℤ, refl, sym, ap, ◌∙◌, subst, arith, Option, Some, None}
use Rattle.std.specs.Prelude.{All, slice_get, slice_set, slice_index_or, take, drop, replicate, pos, if◌then◌else◌}
use Rattle.std.specs.Option.{option_map}
use Rattle.std.proofs.lemmas.List.{length-append, length-drop, length-take-le, length-replicate}
use Rattle.std.proofs.lemmas.List.Elements.{All-nil, All-cons, All-head, All-tail, All-append, All-take, All-drop, All-replicate, All-set}
use Rattle.std.proofs.lemmas.Option.{slice_get_within, get_or_from_slice_get}
use Rattle.mars_base.specs.Store.{place_of, count_up}
use Rattle.mars_base.specs.Word.{binary_of, unary_of, is_zero}
use Rattle.mars_base.specs.declared.word.Role.{Role}
use Rattle.mars_base.specs.declared.word.Role.TheVariants.{In, Out, State as StateRole, Local}
use Rattle.processor.specs.Ends.{End, Halted, Broken, Next, Goes, Ends, Stuck, found, gives, Limited, Over, Cut, limited_map, end_under}
use Rattle.processor.specs.Results.{Results, IsWord, AreWords}
use Rattle.processor.specs.System.{exec_by}
use Rattle.processor.proofs.Laws.{Leaves, exec_leaves}
use Rattle.word_code.specs.Action.{Action, Pushes, Loads, Stores, LoadsAt, StoresAt, Combines, Changes, Jumps, JumpsIfZero, Clears, Counts, Calls, Returns, Stops, action_of}
use Rattle.word_code.specs.Cells.{start_of, words_at_start, cells_at_start, cell_words, filled, total_width, width_of, is_in, is_out, is_state}
use Rattle.word_code.specs.Execution.{exec_from, results_of, exec}
use Rattle.word_code.specs.State.{State, at}
use Rattle.word_code.specs.Step.{act, instr_at, does, step, machine_of}
use Rattle.word_code.specs.Words.{PushesWord, HasWords}
use Rattle.word_code.specs.declared.code.CellShape.{CellShape}
use Rattle.word_code.specs.declared.code.Code.{Code}
use Rattle.word_code.specs.declared.code.Instr.{Instr}
use Rattle.word_code.specs.declared.code.Slot.{Slot}
use Rattle.word_code.proofs.Course.{cells_length}
use Rattle.word_code.proofs.FreeRuns.{step_ends}
use Rattle.word_code.proofs.Moves.{found_goes, gives_goes, step_moves}
use Rattle.word_code.proofs.Words.{binary_word, unary_word}

abbrev on_to : State → Next State (List ℤ)
on_to s = Goes s

abbrev ends_with : List ℤ → Next State (List ℤ)
ends_with words = Ends (Halted words)

-- a step that halts leaves the words of data
step_leaves : (instrs : List Slot) (s : State) (words : List ℤ) → step instrs s ≡ Ends (Halted words) → words ≡ s.words
step_leaves instrs s words e =
    let halts = step_ends instrs s words e in
    same_words (sym e ∙ ap (λ o. found o (λ i. does i s)) halts)
  where
    same_words : ends_with words ≡ ends_with s.words → words ≡ s.words
    same_words f = cc

-- the words of one cell, or none
one_width : (b : Bool) (n : ℕ) (words : List ℤ) → n ≤ length words → length (if b then take n words else []) ≡ (if b then n else 0)
one_width true n words le = length-take-le n words le
one_width false n words le = refl

-- the cells of one role have as many words as their widths say
cells_width : (p : Role → Bool) (cells : List CellShape) (words : List ℤ) → total_width cells ≤ length words → length (cell_words p cells words) ≡ width_of p cells
cells_width p [] words le = refl
cells_width p (c ∷ cells) words le =
    let one = one_width (p c.role) c.width words (omega arith) in
    let rest = cells_width p cells (drop c.width words) (omega (arith, length-drop c.width words)) in
    length-append (if p c.role then take c.width words else []) (cell_words p cells (drop c.width words)) ∙ omega (arith, one, rest)

one_words : (b : Bool) (n : ℕ) (words : List ℤ) → AreWords words → AreWords (if b then take n words else [])
one_words true n words are = All-take IsWord n words are
one_words false n words are = All-nil IsWord

-- they are words where the words of data are
cells_words : (p : Role → Bool) (cells : List CellShape) (words : List ℤ) → AreWords words → AreWords (cell_words p cells words)
cells_words p [] words are = All-nil IsWord
cells_words p (c ∷ cells) words are =
    All-append IsWord (if p c.role then take c.width words else []) (cell_words p cells (drop c.width words)) (one_words (p c.role) c.width words are)
    (cells_words p cells (drop c.width words) (All-drop IsWord c.width words are))

zeros_words : (n : ℕ) → AreWords (replicate n (pos 0))
zeros_words n = All-replicate IsWord n (pos 0) (record { sfits = omega arith })

-- the words at the start
filled_words : (role : Role) (n : ℕ) (rest : List ℤ → List ℤ → List ℤ) (state ins : List ℤ) → ((st is : List ℤ) → AreWords st → AreWords is → AreWords (rest st is))
    → AreWords state → AreWords ins → AreWords (filled role n rest state ins)
filled_words In n rest state ins h s i = All-append IsWord (take n ins) (rest state (drop n ins)) (All-take IsWord n ins i) (h state (drop n ins) s (All-drop IsWord n ins i))
filled_words StateRole n rest state ins h s i = All-append IsWord (take n state) (rest (drop n state) ins) (All-take IsWord n state s) (h (drop n state) ins (All-drop IsWord n state s) i)
filled_words Out n rest state ins h s i = All-append IsWord (replicate n (pos 0)) (rest state ins) (zeros_words n) (h state ins s i)
filled_words Local n rest state ins h s i = All-append IsWord (replicate n (pos 0)) (rest state ins) (zeros_words n) (h state ins s i)

start_cells_words : (cells : List CellShape) (state ins : List ℤ) → AreWords state → AreWords ins → AreWords (cells_at_start cells state ins)
start_cells_words [] state ins s i = All-nil IsWord
start_cells_words (c ∷ cells) state ins s i = filled_words c.role c.width (cells_at_start cells) state ins (start_cells_words cells) s i

start_words : (code : Code) (state ins : List ℤ) → AreWords state → AreWords ins → AreWords (words_at_start code state ins)
start_words code state ins s i =
    All-append IsWord (cells_at_start code.cells state ins) (replicate (code.places - total_width code.cells) (pos 0))
    (start_cells_words code.cells state ins s i) (zeros_words (code.places - total_width code.cells))

-- the operands and the words of data are words
record Holds (s : State) : Type 0 where
  stack : AreWords s.stack
  words : AreWords s.words

holds_at : (s t : State) → on_to s ≡ on_to t → Holds s → Holds t
holds_at s t e h = subst (λ (u : State). Holds u) (let same : s ≡ t = cc in same) h

-- a word that is there
there : (ws : List ℤ) (k : ℕ) (w : ℤ) → slice_get ws k ≡ Some w → AreWords ws → IsWord w
there ws k w e are = subst IsWord (get_or_from_slice_get ws k w w e) (are k w (slice_get_within ws k w e))

-- an action keeps them
act_words : (a : Action) (pc : ℕ) (st ws : List ℤ) (ks rs : List ℕ) (t : State) → PushesWord a → AreWords st → AreWords ws → act a pc st ws ks rs ≡ Goes t → Holds t
act_words (Pushes w) pc st ws ks rs t p s d e = holds_at (at (pc + 1) (w ∷ st) ws ks rs) t e (record { stack = All-cons IsWord w st p s; words = d })
act_words (Loads a) pc st ws ks rs t p s d e =
    let f = found_goes (slice_get ws a) (λ w. Goes (at (pc + 1) (w ∷ st) ws ks rs)) t e in
    holds_at (at (pc + 1) (f.0 ∷ st) ws ks rs) t f.2 (record { stack = All-cons IsWord f.0 st (there ws a f.0 f.1 d) s; words = d })
act_words (Stores a) pc [] ws ks rs t p s d e = cc
act_words (Stores a) pc (w ∷ st) ws ks rs t p s d e =
    let f = found_goes (slice_get ws a) (λ _. Goes (at (pc + 1) st (slice_set ws a w) ks rs)) t e in
    holds_at (at (pc + 1) st (slice_set ws a w) ks rs) t f.2 (record { stack = All-tail IsWord w st s; words = All-set IsWord ws a w (All-head IsWord w st s) d })
act_words (LoadsAt a n) pc [] ws ks rs t p s d e = cc
act_words (LoadsAt a n) pc (i ∷ st) ws ks rs t p s d e =
    let g = gives_goes (place_of a n i) (λ k. found (slice_get ws k) (λ w. Goes (at (pc + 1) (w ∷ st) ws ks rs))) t e in
    let f = found_goes (slice_get ws g.0) (λ w. Goes (at (pc + 1) (w ∷ st) ws ks rs)) t g.2 in
    holds_at (at (pc + 1) (f.0 ∷ st) ws ks rs) t f.2 (record { stack = All-cons IsWord f.0 st (there ws g.0 f.0 f.1 d) (All-tail IsWord i st s); words = d })
act_words (StoresAt a n) pc [] ws ks rs t p s d e = cc
act_words (StoresAt a n) pc (w ∷ []) ws ks rs t p s d e = cc
act_words (StoresAt a n) pc (w ∷ i ∷ st) ws ks rs t p s d e =
    let g = gives_goes (place_of a n i) (λ k. found (slice_get ws k) (λ _. Goes (at (pc + 1) st (slice_set ws k w) ks rs))) t e in
    let f = found_goes (slice_get ws g.0) (λ _. Goes (at (pc + 1) st (slice_set ws g.0 w) ks rs)) t g.2 in
    holds_at (at (pc + 1) st (slice_set ws g.0 w) ks rs) t f.2
    (record { stack = All-tail IsWord i st (All-tail IsWord w (i ∷ st) s); words = All-set IsWord ws g.0 w (All-head IsWord w (i ∷ st) s) d })
act_words (Combines op) pc [] ws ks rs t p s d e = cc
act_words (Combines op) pc (y ∷ []) ws ks rs t p s d e = cc
act_words (Combines op) pc (y ∷ x ∷ st) ws ks rs t p s d e =
    let g = gives_goes (binary_of op x y) (λ w. Goes (at (pc + 1) (w ∷ st) ws ks rs)) t e in
    let below = All-tail IsWord y (x ∷ st) s in
    let word = binary_word op x y g.0 (All-head IsWord x st below) (All-head IsWord y (x ∷ st) s) g.1 in
    holds_at (at (pc + 1) (g.0 ∷ st) ws ks rs) t g.2 (record { stack = All-cons IsWord g.0 st word (All-tail IsWord x st below); words = d })
act_words (Changes op) pc [] ws ks rs t p s d e = cc
act_words (Changes op) pc (x ∷ st) ws ks rs t p s d e =
    holds_at (at (pc + 1) (unary_of op x ∷ st) ws ks rs) t e (record { stack = All-cons IsWord (unary_of op x) st (unary_word op x) (All-tail IsWord x st s); words = d })
act_words (Jumps u) pc st ws ks rs t p s d e = holds_at (at u st ws ks rs) t e (record { stack = s; words = d })
act_words (JumpsIfZero u) pc [] ws ks rs t p s d e = cc
act_words (JumpsIfZero u) pc (w ∷ st) ws ks rs t p s d e =
    holds_at (at (cond (is_zero w) u (pc + 1)) st ws ks rs) t e (record { stack = All-tail IsWord w st s; words = d })
act_words (Clears c) pc st ws ks rs t p s d e =
    let f = found_goes (slice_get ks c) (λ _. Goes (at (pc + 1) st ws (slice_set ks c 0) rs)) t e in
    holds_at (at (pc + 1) st ws (slice_set ks c 0) rs) t f.2 (record { stack = s; words = d })
act_words (Counts c n) pc st ws ks rs t p s d e =
    let f = found_goes (slice_get ks c) (λ k. gives (count_up k n) (λ v. Goes (at (pc + 1) st ws (slice_set ks c v) rs))) t e in
    let g = gives_goes (count_up f.0 n) (λ v. Goes (at (pc + 1) st ws (slice_set ks c v) rs)) t f.2 in
    holds_at (at (pc + 1) st ws (slice_set ks c g.0) rs) t g.2 (record { stack = s; words = d })
act_words (Calls u) pc st ws ks rs t p s d e = holds_at (at u st ws ks ((pc + 1) ∷ rs)) t e (record { stack = s; words = d })
act_words Returns pc st ws ks [] t p s d e = cc
act_words Returns pc st ws ks (r ∷ rs) t p s d e = holds_at (at r st ws ks rs) t e (record { stack = s; words = d })
act_words Stops pc st ws ks rs t p s d e = cc

-- an instruction of the code pushes a word
pushes_word : (code : Code) (k : ℕ) (i : Instr) → HasWords code → instr_at code.instrs k ≡ Some i → PushesWord (action_of i)
pushes_word code k i h e = by_slot (slice_get code.instrs k) refl e
  where
    by_slot : (o : Option Slot) → slice_get code.instrs k ≡ o → option_map (λ (slot : Slot). slot.instr) o ≡ Some i → PushesWord (action_of i)
    by_slot None is e = cc
    by_slot (Some slot) is e =
        let same : slot.instr ≡ i = cc in
        let here : slice_index_or code.instrs k slot ≡ slot = get_or_from_slice_get code.instrs k slot slot is in
        subst (λ (j : Instr). PushesWord (action_of j)) same
        (subst (λ (x : Slot). PushesWord (action_of x.instr)) here (h k slot (slice_get_within code.instrs k slot is)))

-- a step keeps them
step_words : (code : Code) → HasWords code → (s t : State) → Holds s → step code.instrs s ≡ Goes t → Holds t
step_words code h s t holds e =
    let f = found_goes (instr_at code.instrs s.pc) (λ i. does i s) t e in
    act_words (action_of f.0) s.pc s.stack s.words s.counters s.returns t (pushes_word code s.pc f.0 h f.1) holds.stack holds.words f.2

-- what holds of the words that are left holds of the results
leaves_results : (Q : List ℤ → Type 0) (code : Code) (e : Limited (List ℤ)) (results : Results) → Leaves Q e → end_under (limited_map (results_of code) e) ≡ Halted results
    → (words : List ℤ) × Q words × (results_of code words ≡ results)
leaves_results Q code (Over (Halted words) k) results q e = (words, q, cc)
leaves_results Q code (Over Broken k) results q e = cc
leaves_results Q code (Cut k) results q e = cc

module _ (code : Code) (state ins : List ℤ) where
  -- a done execution leaves as many words of state, and gives as many outputs, as the cells have
  pub ran_sized : (limit : ℕ) (left outs : List ℤ) → length state ≡ width_of is_state code.cells → length ins ≡ width_of is_in code.cells
      → end_under (exec code limit state ins) ≡ Halted (left, outs)
      → (length left ≡ width_of is_state code.cells) × (length outs ≡ width_of is_out code.cells)
  ran_sized limit left outs hs hi e =
      let start : total_width code.cells ≤ length (words_at_start code state ins) =
      omega (arith, length-append (cells_at_start code.cells state ins) (replicate (code.places - total_width code.cells) (pos 0)), cells_length code.cells state ins hs hi) in
      let kept = exec_leaves (machine_of code.instrs) (λ (s : State). total_width code.cells ≤ length s.words) (λ ws. total_width code.cells ≤ length ws)
      (λ s t h f. omega (arith, h, (step_moves code.instrs s t f).2.words))
      (λ s ws h f. subst (λ us. total_width code.cells ≤ length us) (sym (step_leaves code.instrs s ws f)) h)
      limit (start_of code state ins) 0 start in
      let r = leaves_results (λ ws. total_width code.cells ≤ length ws) code (exec_from code.instrs limit (start_of code state ins) 0) (left, outs) kept e in (
        ap (λ (x : Results). length x.0) (sym r.2) ∙ cells_width is_state code.cells r.0 r.1,
        ap (λ (x : Results). length x.1) (sym r.2) ∙ cells_width is_out code.cells r.0 r.1,
      )

  -- they are words where the state, the inputs and the code's own words are
  pub ran_words : (limit : ℕ) (left outs : List ℤ) → HasWords code → AreWords state → AreWords ins
      → end_under (exec code limit state ins) ≡ Halted (left, outs) → AreWords left × AreWords outs
  ran_words limit left outs h ws wi e =
      let kept = exec_leaves (machine_of code.instrs) (λ (s : State). Holds s) AreWords (step_words code h)
      (λ s us holds f. subst AreWords (sym (step_leaves code.instrs s us f)) holds.words)
      limit (start_of code state ins) 0 (record { stack = All-nil IsWord; words = start_words code state ins ws wi }) in
      let r = leaves_results AreWords code (exec_from code.instrs limit (start_of code state ins) 0) (left, outs) kept e in (
        subst (λ (x : Results). AreWords x.0) r.2 (cells_words is_state code.cells r.0 r.1),
        subst (λ (x : Results). AreWords x.1) r.2 (cells_words is_out code.cells r.0 r.1),
      )
