-- The code of a whole task: its body and HALT, and then each function in order. This project's own.
use Rattle.std.specs.Prelude.{ℕ, ◌+◌, Bool, true, false, List, [], ◌∷◌, ◌++◌, map, filter, slice_index}
use Rattle.mars_base.specs.declared.word.Role.{Role}
use Rattle.mars_base.specs.declared.word.Role.TheVariants as role
use Rattle.mc_tree.specs.declared.tree.Cell.{Cell}
use Rattle.mc_tree.specs.Tree.{Fn, Tree}
use Rattle.mc_tree.specs.Checked.{words_in}
use Rattle.mc_tree.specs.Meaning.{params_at}
use Rattle.word_code.specs.declared.code.CellShape.{CellShape}
use Rattle.word_code.specs.declared.code.Code.{Code}
use Rattle.word_code.specs.declared.code.Instr.TheVariants.{Ret, Halt}
use Rattle.word_code.specs.declared.code.Slot.{Slot}
use Rattle.mc_compile.specs.Translate.{slot, ex_len, ex_code, bl_len, bl_code}

-- how many instructions a function takes
abbrev pub fn_len : (ℕ → List ℕ) → Fn → ℕ
fn_len params f = bl_len params f.body + ex_len f.answer + 1

-- a function's statements, its answer and RET
abbrev pub fn_code : (ℕ → ℕ) → (ℕ → List ℕ) → ℕ → Fn → List Slot
fn_code starts params p f = bl_code starts params p f.body ++ (ex_code 0 f.answer ++ slot Ret 1 ∷ [])

abbrev pub fns_len : (ℕ → List ℕ) → List Fn → ℕ
fns_len params [] = 0
fns_len params (f ∷ fs) = fn_len params f + fns_len params fs

-- the functions, one after another
abbrev pub fns_code : (ℕ → ℕ) → (ℕ → List ℕ) → ℕ → List Fn → List Slot
fns_code starts params p [] = []
fns_code starts params p (f ∷ fs) = fn_code starts params p f ++ fns_code starts params (p + fn_len params f) fs

-- the first instruction of each
abbrev pub fn_starts : (ℕ → List ℕ) → ℕ → List Fn → List ℕ
fn_starts params p [] = []
fn_starts params p (f ∷ fs) = p ∷ fn_starts params (p + fn_len params f) fs

-- in, out and state cells have their words from the outside or give them to it
abbrev pub is_outside : Role → Bool
is_outside role.In = true
is_outside role.Out = true
is_outside role.State = true
is_outside role.Local = false

abbrev pub shape_of : Cell → CellShape
shape_of c = record { role = c.role; width = c.width }

abbrev pub shapes_of : List Cell → List CellShape
shapes_of cells = map shape_of (filter (λ c. is_outside c.role) cells)

-- the body's statements and HALT
abbrev pub main_len : Tree → ℕ
main_len t = bl_len (params_at t.funcs) t.body + 1

-- how many instructions a task takes
abbrev pub code_len : Tree → ℕ
code_len t = main_len t + fns_len (params_at t.funcs) t.funcs

-- the first instruction of each function of a task
abbrev pub starts_of : Tree → List ℕ
starts_of t = fn_starts (params_at t.funcs) (main_len t) t.funcs

abbrev pub instrs_of : Tree → List Slot
instrs_of t =
    let starts = slice_index (starts_of t) in
    let params = params_at t.funcs in
    bl_code starts params 0 t.body ++ slot Halt 0 ∷ fns_code starts params (main_len t) t.funcs

-- the code of a task
abbrev pub translate : Tree → Code
translate t = record {
  starts = 0 ∷ starts_of t;
  instrs = instrs_of t;
  places = words_in t.cells;
  counters = t.counters;
  cells = shapes_of t.cells;
}
