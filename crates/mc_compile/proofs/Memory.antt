-- The words of the code at the start and at the end are those of the task.
use Rattle.std.proofs.Common.{◌≡◌, ◌≢◌, ℕ, suc, ◌+◌, ◌-◌, ◌≤◌, Bool, true, false, cond, ℤ, List, [], ◌∷◌, ◌++◌, length, take, drop, replicate, refl, sym, ap, ◌∙◌, arith, append_assoc, length-append}
use Rattle.std.specs.Prelude.{pos, if◌then◌else◌, map, filter, All}
use Rattle.std.proofs.lemmas.List.{replicate-append-replicate, length-replicate, length-take-le, length-drop}
use Rattle.std.proofs.lemmas.List.Elements.{All-replicate, All-append, All-take, All-drop}
use Rattle.mars_base.specs.declared.word.Role.{Role}
use Rattle.mars_base.specs.declared.word.Role.TheVariants as role
use Rattle.mc_tree.specs.declared.tree.Cell.{Cell}
use Rattle.mc_tree.specs.Checked.{words_in}
use Rattle.mc_tree.specs.Instance.{is_in, is_state, width_of, cell_at_start, words_at_start, words_of}
use Rattle.word_code.specs.Cells.{total_width, cell_words, filled, cells_at_start}
use Rattle.mc_compile.specs.Whole.{is_outside, shape_of, shapes_of}
use Rattle.mc_compile.proofs.Words.{IsWord}

-- all of them are locals, and none is
abbrev pub AreLocal : List Cell → Type 0
AreLocal cells = All (λ (c : Cell). c.role ≡ role.Local) cells

abbrev pub AreGlobal : List Cell → Type 0
AreGlobal cells = All (λ (c : Cell). c.role ≢ role.Local) cells

-- the rest of a list
local_rest : (c : Cell) (cells : List Cell) → AreLocal (c ∷ cells) → AreLocal cells
local_rest c cells h k d lt = h (suc k) d (omega arith)

global_rest : (c : Cell) (cells : List Cell) → AreGlobal (c ∷ cells) → AreGlobal cells
global_rest c cells h k d lt = h (suc k) d (omega arith)

-- a cell that is no local is one of the code
outside : (r : Role) → r ≢ role.Local → is_outside r ≡ true
outside role.In ne = refl
outside role.Out ne = refl
outside role.State ne = refl
outside role.Local ne = absurd (ne refl)

-- the shape of a global is kept, and that of a local is not
pub shapes_cons : (c : Cell) (cells : List Cell) → c.role ≢ role.Local → shapes_of (c ∷ cells) ≡ shape_of c ∷ shapes_of cells
shapes_cons c cells ne = ap (λ b. map shape_of (cond b (c ∷ filter (λ c. is_outside c.role) cells) (filter (λ c. is_outside c.role) cells))) (outside c.role ne)

pub shapes_drop : (c : Cell) (cells : List Cell) → c.role ≡ role.Local → shapes_of (c ∷ cells) ≡ shapes_of cells
shapes_drop c cells e = ap (λ r. map shape_of (cond (is_outside r) (c ∷ filter (λ c. is_outside c.role) cells) (filter (λ c. is_outside c.role) cells))) e

-- locals have no shape
shapes_local : (cells : List Cell) → AreLocal cells → shapes_of cells ≡ []
shapes_local [] h = refl
shapes_local (c ∷ cells) h =
    shapes_drop c cells (h 0 c (omega arith)) ∙ shapes_local cells (local_rest c cells h)

-- words at the start
start_local : (cells : List Cell) → AreLocal cells → (state ins : List ℤ) → words_at_start cells state ins ≡ replicate (words_in cells) (pos 0)
start_local [] h state ins = refl
start_local (c ∷ cells) h state ins =
    ap (λ r. cell_at_start r c.width (words_at_start cells) state ins) (h 0 c (omega arith))
    ∙ ap (λ ws. replicate c.width (pos 0) ++ ws) (start_local cells (local_rest c cells h) state ins)
    ∙ replicate-append-replicate c.width (words_in cells) (pos 0)

-- the words of one cell at the start
start_cell : (r : Role) → r ≢ role.Local → (w : ℕ) (rest : List ℤ → List ℤ → List ℤ) (rest' : List ℤ → List ℤ → List ℤ) (tail : List ℤ) → ((state ins : List ℤ) → rest state ins ≡ rest' state ins ++ tail) → (state ins : List ℤ)
    → cell_at_start r w rest state ins ≡ filled r w rest' state ins ++ tail
start_cell role.In ne w rest rest' tail h state ins = ap (λ ws. take w ins ++ ws) (h state (drop w ins)) ∙ sym (append_assoc (take w ins) (rest' state (drop w ins)) tail)
start_cell role.State ne w rest rest' tail h state ins = ap (λ ws. take w state ++ ws) (h (drop w state) ins) ∙ sym (append_assoc (take w state) (rest' (drop w state) ins) tail)
start_cell role.Out ne w rest rest' tail h state ins = ap (λ ws. replicate w (pos 0) ++ ws) (h state ins) ∙ sym (append_assoc (replicate w (pos 0)) (rest' state ins) tail)
start_cell role.Local ne w rest rest' tail h state ins = absurd (ne refl)

-- the cells of the code, and then 0
start_all : (globals locals : List Cell) → AreGlobal globals → AreLocal locals → (state ins : List ℤ)
    → words_at_start (globals ++ locals) state ins ≡ cells_at_start (shapes_of (globals ++ locals)) state ins ++ replicate (words_in locals) (pos 0)
start_all [] locals h l state ins =
    start_local locals l state ins ∙ ap (λ ss. cells_at_start ss state ins ++ replicate (words_in locals) (pos 0)) (sym (shapes_local locals l))
start_all (c ∷ globals) locals h l state ins =
    let ne = h 0 c (omega arith) in
    let rest = start_all globals locals (global_rest c globals h) l in
    start_cell c.role ne c.width (words_at_start (globals ++ locals)) (cells_at_start (shapes_of (globals ++ locals))) (replicate (words_in locals) (pos 0)) rest state ins
    ∙ ap (λ ss. cells_at_start ss state ins ++ replicate (words_in locals) (pos 0)) (sym (shapes_cons c (globals ++ locals) ne))

-- the words of the code's own cells are those of the globals
width_all : (globals locals : List Cell) → AreGlobal globals → AreLocal locals → words_in (globals ++ locals) ≡ total_width (shapes_of (globals ++ locals)) + words_in locals
width_all [] locals h l = omega (arith, ap total_width (shapes_local locals l))
width_all (c ∷ globals) locals h l =
    omega (arith, width_all globals locals (global_rest c globals h) l, ap total_width (shapes_cons c (globals ++ locals) (h 0 c (omega arith))))

-- the words at the start are the same
pub same_start : (globals locals : List Cell) → AreGlobal globals → AreLocal locals → (state ins : List ℤ)
    → words_at_start (globals ++ locals) state ins ≡ cells_at_start (shapes_of (globals ++ locals)) state ins ++ replicate (words_in (globals ++ locals) - total_width (shapes_of (globals ++ locals))) (pos 0)
same_start globals locals h l state ins =
    let left : words_in locals ≡ words_in (globals ++ locals) - total_width (shapes_of (globals ++ locals)) = omega (arith, width_all globals locals h l) in
    start_all globals locals h l state ins ∙ ap (λ k. cells_at_start (shapes_of (globals ++ locals)) state ins ++ replicate k (pos 0)) left

-- the words of one role at the end, where p and p' are the same test of a role
module _ (p p' : Role → Bool) (same : (r : Role) → p r ≡ p' r) (no : p role.Local ≡ false) where
  -- locals give no word
  end_local : (cells : List Cell) → AreLocal cells → (ws : List ℤ) → words_of p cells ws ≡ []
  end_local [] h ws = refl
  end_local (c ∷ cells) h ws =
      ap (λ b. (if b then take c.width ws else []) ++ words_of p cells (drop c.width ws)) (ap p (h 0 c (omega arith)) ∙ no)
      ∙ end_local cells (local_rest c cells h) (drop c.width ws)

  -- the words of a role at the end are the same
  pub same_end : (globals locals : List Cell) → AreGlobal globals → AreLocal locals → (ws : List ℤ) → cell_words p' (shapes_of (globals ++ locals)) ws ≡ words_of p (globals ++ locals) ws
  same_end [] locals h l ws = ap (λ ss. cell_words p' ss ws) (shapes_local locals l) ∙ sym (end_local locals l ws)
  same_end (c ∷ globals) locals h l ws =
      ap (λ ss. cell_words p' ss ws) (shapes_cons c (globals ++ locals) (h 0 c (omega arith)))
      ∙ ap (λ rest. (if p' c.role then take c.width ws else []) ++ rest) (same_end globals locals (global_rest c globals h) l (drop c.width ws))
      ∙ ap (λ b. (if b then take c.width ws else []) ++ words_of p (globals ++ locals) (drop c.width ws)) (sym (same c.role))

-- so many words, each of them a word
abbrev pub AreSo : ℕ → List ℤ → Type 0
AreSo n ws = (length ws ≡ n) × All IsWord ws

-- one list behind another
so_append : (n m : ℕ) (xs ys : List ℤ) → AreSo n xs → AreSo m ys → AreSo (n + m) (xs ++ ys)
so_append n m xs ys a b = (omega (arith, length-append xs ys, a.0, b.0), All-append IsWord xs ys a.1 b.1)

-- zeros
so_zeros : (n : ℕ) → AreSo n (replicate n (pos 0))
so_zeros n = (length-replicate n (pos 0), All-replicate IsWord n (pos 0) (record { sfits = omega arith }))

-- the first words of a list
so_taken : (n : ℕ) (xs : List ℤ) → n ≤ length xs → All IsWord xs → AreSo n (take n xs)
so_taken n xs le h = (length-take-le n xs le, All-take IsWord n xs h)

-- a cell gets as many words as it has
start_cell_words : (r : Role) (w m more_state more_ins : ℕ) (rest : List ℤ → List ℤ → List ℤ) → ((state ins : List ℤ) → more_state ≤ length state → more_ins ≤ length ins → All IsWord state → All IsWord ins → AreSo m (rest state ins))
    → (state ins : List ℤ) → (if is_state r then w else 0) + more_state ≤ length state → (if is_in r then w else 0) + more_ins ≤ length ins → All IsWord state → All IsWord ins → AreSo (w + m) (cell_at_start r w rest state ins)
start_cell_words role.In w m more_state more_ins rest h state ins s i sw iw =
    so_append w m (take w ins) (rest state (drop w ins)) (so_taken w ins (omega arith) iw) (h state (drop w ins) (omega arith) (omega (arith, length-drop w ins)) sw (All-drop IsWord w ins iw))
start_cell_words role.State w m more_state more_ins rest h state ins s i sw iw =
    so_append w m (take w state) (rest (drop w state) ins) (so_taken w state (omega arith) sw) (h (drop w state) ins (omega (arith, length-drop w state)) (omega arith) (All-drop IsWord w state sw) iw)
start_cell_words role.Out w m more_state more_ins rest h state ins s i sw iw =
    so_append w m (replicate w (pos 0)) (rest state ins) (so_zeros w) (h state ins (omega arith) (omega arith) sw iw)
start_cell_words role.Local w m more_state more_ins rest h state ins s i sw iw =
    so_append w m (replicate w (pos 0)) (rest state ins) (so_zeros w) (h state ins (omega arith) (omega arith) sw iw)

-- as many words as the cells have
pub start_words : (cells : List Cell) (state ins : List ℤ) → width_of is_state cells ≤ length state → width_of is_in cells ≤ length ins → All IsWord state → All IsWord ins → AreSo (words_in cells) (words_at_start cells state ins)
start_words [] state ins s i sw iw = (refl, λ k d lt. absurd (let x : ⊥ = omega arith in x))
start_words (c ∷ cells) state ins s i sw iw =
    start_cell_words c.role c.width (words_in cells) (width_of is_state cells) (width_of is_in cells) (words_at_start cells) (start_words cells) state ins s i sw iw

-- the words of one role are as many as its cells have
pub kept_words : (p : Role → Bool) (cells : List Cell) (ws : List ℤ) → words_in cells ≤ length ws → All IsWord ws → AreSo (width_of p cells) (words_of p cells ws)
kept_words p [] ws le h = (refl, λ k d lt. absurd (let x : ⊥ = omega arith in x))
kept_words p (c ∷ cells) ws le h =
    go (p c.role) (kept_words p cells (drop c.width ws) (omega (arith, length-drop c.width ws)) (All-drop IsWord c.width ws h))
  where
    go : (b : Bool) → AreSo (width_of p cells) (words_of p cells (drop c.width ws))
        → AreSo ((if b then c.width else 0) + width_of p cells) ((if b then take c.width ws else []) ++ words_of p cells (drop c.width ws))
    go true rest = so_append c.width (width_of p cells) (take c.width ws) (words_of p cells (drop c.width ws)) (so_taken c.width ws (omega arith) h) rest
    go false rest = so_append 0 (width_of p cells) [] (words_of p cells (drop c.width ws)) (so_zeros 0) rest
