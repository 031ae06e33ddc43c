-- What the emitting of code keeps, one part behind another. This project's own.
use Rattle.std.specs.Prelude.{◌≡◌, ℕ, ◌+◌, ◌≤◌, max, List, ◌∷◌, ◌++◌, length, map, Vec, vec_len, vec_capacity, slice_index, slice_set}
use Rattle.std.specs.Global.{Global}
use Rattle.mc_tree.specs.Height.{height, args_height}
use Rattle.mc_tree.specs.Meaning.{params_at}
use Rattle.mc_tree.specs.Plain.{plain_list, plain_func}
use Rattle.mc_tree.specs.Tree.{St, Assign, AssignAt, Invoke, When, Choice, Loop, Scoped, Count, Series, Bl, Nil, Then, Ls, NoLoop, OneLoop, Fn}
use Rattle.mc_tree.specs.declared.tree.Task.{Task}
use Rattle.word_code.specs.declared.code.Instr.TheVariants.{Halt}
use Rattle.word_code.specs.declared.code.Slot.{Slot}
use Rattle.mc_compile.specs.Translate.{slot, st_len, bl_len, ls_len, st_code, bl_code, ls_code}
use Rattle.mc_compile.specs.Whole.{fn_len, fn_code, fns_len, fns_code, fn_starts}

-- these instructions, so many, now stand behind those that were there, in the same room
pub record Grows (old new : Vec Slot Global) (more : List Slot) (size : ℕ) : Type 0 where
  pub items : new.items ≡ old.items ++ more
  pub len : vec_len new ≡ vec_len old + size
  pub capacity : vec_capacity new ≡ vec_capacity old

-- the instruction at a number is another
pub record Mends (old new : Vec Slot Global) (k : ℕ) (s : Slot) : Type 0 where
  pub items : new.items ≡ slice_set old.items k s
  pub len : vec_len new ≡ vec_len old
  pub capacity : vec_capacity new ≡ vec_capacity old

-- there is room for so many more, and no place passes a number of an instruction
pub record HasRoom (code : Vec Slot Global) (size : ℕ) : Type 0 where
  pub room : vec_len code + size ≤ vec_capacity code
  pub most : vec_capacity code ≤ 65535

-- the places of the parameters of a task's function
unfoldable pub params_of : Task → ℕ → List ℕ
params_of t g = params_at (map (plain_func t.cells) t.funcs) g

-- code grew by a statement, by a block, or by loops of a sequence; `firsts` are the functions' first instructions
abbrev pub GrowsSt : Vec Slot Global → Vec Slot Global → Task → List ℕ → St → Type 0
GrowsSt old new task firsts s =
    Grows old new (st_code (slice_index firsts) (params_of task) (vec_len old) s) (st_len (params_of task) s)

abbrev pub GrowsBl : Vec Slot Global → Vec Slot Global → Task → List ℕ → Bl → Type 0
GrowsBl old new task firsts b =
    Grows old new (bl_code (slice_index firsts) (params_of task) (vec_len old) b) (bl_len (params_of task) b)

abbrev pub GrowsLs : Vec Slot Global → Vec Slot Global → Task → List ℕ → (counter bound : ℕ) → Ls → Type 0
GrowsLs old new task firsts counter bound l =
    Grows old new (ls_code (slice_index firsts) (params_of task) counter bound (vec_len old) l) (ls_len (params_of task) l)

abbrev pub GrowsFn : Vec Slot Global → Vec Slot Global → Task → List ℕ → Fn → Type 0
GrowsFn old new task firsts f =
    Grows old new (fn_code (slice_index firsts) (params_of task) (vec_len old) f) (fn_len (params_of task) f)

-- no statement needs more than 64 operands, those of the parameters of a called function included
abbrev mutual
  pub IsLow : (ℕ → List ℕ) → St → Type 0
  IsLow params (Assign p e) = height e ≤ 64
  IsLow params (AssignAt p n i e) = max (height i) (1 + height e) ≤ 64
  IsLow params (Invoke p g args) = (args_height args ≤ 64) × (length (params g) ≤ 64)
  IsLow params (When t a) = (height t ≤ 64) × IsLowB params a
  IsLow params (Choice t a b) = (height t ≤ 64) × IsLowB params a × IsLowB params b
  IsLow params (Loop c n t a) = (height t ≤ 64) × IsLowB params a
  IsLow params (Scoped c n a) = IsLowB params a
  IsLow params (Count c n) = Unit {0}
  IsLow params (Series c n l) = IsLowL params l

  pub IsLowB : (ℕ → List ℕ) → Bl → Type 0
  IsLowB params Nil = Unit {0}
  IsLowB params (Then s rest) = IsLow params s × IsLowB params rest

  pub IsLowL : (ℕ → List ℕ) → Ls → Type 0
  IsLowL params NoLoop = Unit {0}
  IsLowL params (OneLoop c n t a rest) = (height t ≤ 64) × IsLowB params a × IsLowL params rest

-- the same for a function
abbrev pub IsLowF : (ℕ → List ℕ) → Fn → Type 0
IsLowF params f = IsLowB params f.body × (height f.answer ≤ 64)

-- the parts of a task, and how many instructions they take
abbrev pub body_of : Task → Bl
body_of t = plain_list t.cells t.body

abbrev pub functions_of : Task → List Fn
functions_of t = map (plain_func t.cells) t.funcs

abbrev pub main_of : Task → ℕ
main_of t = bl_len (params_of t) (body_of t) + 1

abbrev pub length_of : Task → ℕ
length_of t = main_of t + fns_len (params_of t) (functions_of t)

-- the first instruction of each function
abbrev pub firsts_of : Task → List ℕ
firsts_of t = fn_starts (params_of t) (main_of t) (functions_of t)

-- all instructions, where the functions begin at these
abbrev pub slots_of : Task → List ℕ → List Slot
slots_of t firsts =
    bl_code (slice_index firsts) (params_of t) 0 (body_of t)
    ++ slot Halt 0 ∷ fns_code (slice_index firsts) (params_of t) (main_of t) (functions_of t)
