-- What the code of a whole checked task is made of.
use Rattle.std.proofs.Common.{◌≡◌, ◌≢◌, Bool, true, false, ℕ, zero, suc, ◌+◌, ◌-◌, ◌*◌, ◌<◌, ◌≤◌, ◌^◌, min, List, [], ◌∷◌, length, map, take, drop, get_or, Some, refl, sym, ap, ◌∙◌, arith, add-one}
use Rattle.std.specs.Prelude.{All, slice_get, if◌then◌else◌}
use Rattle.std.proofs.Math.Seq.{drop-cons}
use Rattle.std.proofs.lemmas.List.{take_all}
use Rattle.word_code.specs.declared.code.CellShape.{CellShape}
use Rattle.word_code.specs.declared.code.Code.{Code}
use Rattle.word_code.specs.declared.code.Slot.{Slot}
use Rattle.mars_base.specs.declared.word.Role.{Role}
use Rattle.mars_base.specs.declared.word.Role.TheVariants as role
use Rattle.word_code.specs.Cells as machine
use Rattle.mc_tree.specs.Instance.{is_in, is_out, is_state, width_of}
use Rattle.mc_tree.specs.declared.tree.Cell.{Cell}
use Rattle.mc_tree.specs.declared.tree.Func.{Func}
use Rattle.mc_tree.specs.declared.tree.Task.{Task}
use Rattle.mc_tree.specs.Checked.{words_in, greatest_width, HasWidth, is_port, ports_in, IsChecked}
use Rattle.mc_tree.specs.CheckedTask.{IsCheckedTask}
use Rattle.mc_tree.specs.Meaning.{params_at}
use Rattle.mc_tree.specs.Plain.{plain_func, plain_task}
use Rattle.mc_tree.specs.Tree.{Fn, Tree}
use Rattle.mc_tree.proofs.Checked.{checked_body, checked_fn, checked_counters}
use Rattle.mc_compile.specs.Emit.{params_of, body_of, length_of, firsts_of, slots_of, IsLowB, IsLowF}
use Rattle.mc_compile.specs.Whole.{shapes_of, fn_len, fns_len, fn_starts, starts_of, instrs_of, code_len, translate}
use Rattle.mc_compile.specs.Widths.{HasWidths}
use Rattle.mc_compile.proofs.Instances.{same_out, same_state}
use Rattle.mc_compile.proofs.Memory.{shapes_cons, shapes_drop}
use Rattle.mc_compile.proofs.Sizes.{bl_most, fns_most, bl_low}

-- the parts are those of the plain task
pub length_is : (t : Task) → length_of t ≡ code_len (plain_task t)
unfolding params_of
length_is t = refl

pub firsts_are : (t : Task) → firsts_of t ≡ starts_of (plain_task t)
unfolding params_of
firsts_are t = refl

pub slots_are : (t : Task) → slots_of t (starts_of (plain_task t)) ≡ instrs_of (plain_task t)
unfolding params_of
slots_are t = refl

-- a length of 64 bits
pub length_small : (t : Task) → IsCheckedTask t → length_of t < 2 ^ 64
unfolding params_of
length_small t h =
    let tree = plain_task t in
    let params = params_at tree.funcs in
    omega (arith, h.size, bl_most params (length tree.funcs) 0 0 h.tree.first tree.body tree.counters h.tree.body_counters, fns_most params 0 0 tree.funcs h.tree.first h.tree.fn_counters)

-- no statement needs too many operands
pub body_low : (t : Task) → IsCheckedTask t → IsLowB (params_of t) (body_of t)
unfolding params_of
body_low t h =
    let tree = plain_task t in
    bl_low (params_at tree.funcs) tree.cells (length tree.funcs) 0 0 h.tree.first tree.body tree.counters (checked_body tree h.tree) h.tree.body_counters

function_at : (cells : List Cell) (fs : List Func) (g : ℕ) (d : Func) → g < length fs → slice_get (map (plain_func cells) fs) g ≡ Some (plain_func cells (get_or fs g d))
function_at cells [] g d lt = absurd (let x : ⊥ = omega arith in x)
function_at cells (f ∷ fs) zero d lt = refl
function_at cells (f ∷ fs) (suc g) d lt = function_at cells fs g d (omega arith)

pub functions_low : (t : Task) → IsCheckedTask t → All (λ (f : Func). IsLowF (params_of t) (plain_func t.cells f)) t.funcs
unfolding params_of
functions_low t h g d lt =
    let tree = plain_task t in
    let f = plain_func t.cells (get_or t.funcs g d) in
    let here = function_at t.cells t.funcs g d lt in
    let sound = checked_fn tree h.tree g f here in
    let counted = checked_counters tree h.tree g f here in
    (bl_low (params_at tree.funcs) tree.cells g 0 0 counted.from f.body counted.upto sound.body counted.counted, sound.answer.1)

-- the first of the functions that are left
pub functions_at : (cells : List Cell) (fs : List Func) (i : ℕ) (x : Func) → i < length fs → x ≡ get_or fs i x
    → map (plain_func cells) (drop i fs) ≡ plain_func cells x ∷ map (plain_func cells) (drop (i + 1) fs)
functions_at cells fs i x lt e =
    ap (map (plain_func cells)) (drop-cons fs i x lt) ∙ ap (λ y. plain_func cells y ∷ map (plain_func cells) (drop (suc i) fs)) (sym e)
    ∙ ap (λ j. plain_func cells x ∷ map (plain_func cells) (drop j fs)) (sym (add-one i))

-- a start, kept up to 65,535
abbrev pub kept : ℕ → ℕ
kept n = min n 65535

-- where the whole is short, no start is cut
pub starts_kept : (params : ℕ → List ℕ) (p : ℕ) (fs : List Fn) → p + fns_len params fs ≤ 65535 → map kept (fn_starts params p fs) ≡ fn_starts params p fs
starts_kept params p [] h = refl
starts_kept params p (f ∷ fs) h =
    let next = p + fn_len params f in
    let here : kept p ≡ p = omega (arith, h) in
    let rest = starts_kept params next fs (omega (arith, h)) in
    ap (λ x. x ∷ map kept (fn_starts params next fs)) here ∙ ap (λ l. p ∷ l) rest

-- a cell that is outside, or not
pub shapes_at : (cells : List Cell) (i : ℕ) (x : Cell) → i < length cells → x ≡ get_or cells i x
    → shapes_of (drop i cells) ≡ shapes_of (x ∷ drop (i + 1) cells)
shapes_at cells i x lt e =
    ap shapes_of (drop-cons cells i x lt) ∙ ap (λ y. shapes_of (y ∷ drop (suc i) cells)) (sym e) ∙ ap (λ j. shapes_of (x ∷ drop j cells)) (sym (add-one i))

-- two tests of one role count the same words
module _ (p q : Role → Bool) (same : (r : Role) → p r ≡ q r) (inside : p role.Local ≡ false) where
  widths_outside : (c : Cell) (cells : List Cell) (r : Role) → c.role ≡ r → r ≢ role.Local → machine.width_of q (shapes_of cells) ≡ width_of p cells
      → machine.width_of q (shapes_of (c ∷ cells)) ≡ width_of p (c ∷ cells)
  widths_outside c cells r e other rest =
      ap (machine.width_of q) (shapes_cons c cells (λ f. other (sym e ∙ f)))
      ∙ ap (λ (b : Bool). (if b then c.width else 0) + machine.width_of q (shapes_of cells)) (sym (same c.role))
      ∙ ap (λ n. (if p c.role then c.width else 0) + n) rest

  widths_step : (c : Cell) (cells : List Cell) (r : Role) → c.role ≡ r → machine.width_of q (shapes_of cells) ≡ width_of p cells
      → machine.width_of q (shapes_of (c ∷ cells)) ≡ width_of p (c ∷ cells)
  widths_step c cells role.Local e rest =
      let none : p c.role ≡ false = ap p e ∙ inside in
      ap (machine.width_of q) (shapes_drop c cells e) ∙ rest ∙ (let z : width_of p cells ≡ 0 + width_of p cells = omega arith in z)
      ∙ ap (λ (b : Bool). (if b then c.width else 0) + width_of p cells) (sym none)
  widths_step c cells role.In e rest = widths_outside c cells role.In e (λ f. cc) rest
  widths_step c cells role.Out e rest = widths_outside c cells role.Out e (λ f. cc) rest
  widths_step c cells role.State e rest = widths_outside c cells role.State e (λ f. cc) rest

  pub widths_same : (cells : List Cell) → machine.width_of q (shapes_of cells) ≡ width_of p cells
  widths_same [] = refl
  widths_same (c ∷ cells) = widths_step c cells c.role refl (widths_same cells)

-- a port has at most 16 words
port_words : (r : Role) (n : ℕ) → n ≤ greatest_width r → (if is_in r then n else 0) + (if is_out r then n else 0) ≤ 16 * (if is_port r then 1 else 0)
port_words role.In n h = omega (arith, h)
port_words role.Out n h = omega (arith, h)
port_words role.State n h = omega arith
port_words role.Local n h = omega arith

ports_words : (cells : List Cell) → All HasWidth cells → width_of is_in cells + width_of is_out cells ≤ 16 * ports_in cells
ports_words [] h = omega arith
ports_words (c ∷ cells) h =
    let here = h 0 c (omega arith) in
    omega (arith, port_words c.role c.width here.1, ports_words cells (λ k d lt. h (suc k) d (omega arith)))

some_words : (b : Bool) (n : ℕ) → (if b then n else 0) ≤ n
some_words true n = omega arith
some_words false n = omega arith

state_words : (cells : List Cell) → width_of is_state cells ≤ words_in cells
state_words [] = omega arith
state_words (c ∷ cells) = omega (arith, some_words (is_state c.role) c.width, state_words cells)

-- the code has its task's words
same_in : (r : Role) → is_in r ≡ machine.is_in r
same_in role.In = refl
same_in role.Out = refl
same_in role.State = refl
same_in role.Local = refl

pub has_widths : (t : Tree) → IsChecked t → HasWidths t (translate t)
has_widths t h = record {
  ins = widths_same is_in machine.is_in same_in refl t.cells;
  outs = widths_same is_out machine.is_out same_out refl t.cells;
  states = widths_same is_state machine.is_state same_state refl t.cells;
  few = omega (arith, ports_words t.cells h.widths, h.ports);
  most = omega (arith, state_words t.cells, h.words);
}

-- what stands behind the first start
firsts_behind : (starts firsts : List ℕ) → starts ≡ 0 ∷ firsts → take (length starts - 1) (drop 1 starts) ≡ firsts
firsts_behind starts firsts e =
    ap (λ (l : List ℕ). take (length l - 1) (drop 1 l)) e ∙ take_all (length (0 ∷ firsts) - 1) firsts (omega arith)

abbrev code_with : ℕ → List ℕ → List Slot → ℕ → List CellShape → Code
code_with counters starts instrs places cells = record { starts = starts; instrs = instrs; places = places; counters = counters; cells = cells }

-- the code is made of its parts
pub assembled : (t : Task) (starts : List ℕ) (instrs : List Slot) (places : ℕ) (cells : List CellShape) → starts ≡ 0 ∷ firsts_of t
    → instrs ≡ slots_of t (take (length starts - 1) (drop 1 starts)) → places ≡ words_in t.cells → cells ≡ shapes_of t.cells
    → record { starts = starts; instrs = instrs; places = places; counters = t.counters; cells = cells } ≡ translate (plain_task t)
assembled t starts instrs places cells begins made words shapes =
    let first = begins ∙ ap (λ (l : List ℕ). 0 ∷ l) (firsts_are t) in
    let slots = made ∙ ap (slots_of t) (firsts_behind starts (starts_of (plain_task t)) first) ∙ slots_are t in
    ap (λ (l : List ℕ). code_with t.counters l instrs places cells) first ∙ ap (λ (l : List Slot). code_with t.counters (0 ∷ starts_of (plain_task t)) l places cells) slots
    ∙ ap (λ (n : ℕ). code_with t.counters (0 ∷ starts_of (plain_task t)) (instrs_of (plain_task t)) n cells) words
    ∙ ap (λ (l : List CellShape). code_with t.counters (0 ∷ starts_of (plain_task t)) (instrs_of (plain_task t)) (words_in t.cells) l) shapes
