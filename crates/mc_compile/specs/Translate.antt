-- The machine code of a checked tree: sizes first, since jumps go forward too, and then instructions with
-- the number of operands before each. This project's own.
use Rattle.std.specs.Prelude.{ℕ, ◌+◌, List, [], ◌∷◌, ◌++◌, length}
use Rattle.mars_base.specs.declared.word.BinOp.{BinOp}
use Rattle.mars_base.specs.declared.word.BinOp.TheVariants as two
use Rattle.mars_base.specs.declared.word.UnOp.{UnOp}
use Rattle.mars_base.specs.declared.word.UnOp.TheVariants as one
use Rattle.mc_tree.specs.Tree.{Ex, Num, Var, Elem, Un, Bin, St, Assign, AssignAt, Invoke, When, Choice, Loop, Scoped, Count, Series, Bl, Nil, Then, Ls, NoLoop, OneLoop}
use Rattle.word_code.specs.declared.code.Instr.{Instr}
use Rattle.word_code.specs.declared.code.Instr.TheVariants.{Push, Load, Store, LoadX, StoreX, Add, Sub, Mul, Div, Rem, And, Or, Xor, Shl, Shr, Eq, Lt, Le, Neg, Not, Inv, Jmp, Jz, CZero, CInc, Call}
use Rattle.word_code.specs.declared.code.Slot.{Slot}

-- an instruction, and how many operands are on the stack before it
abbrev pub slot : Instr → ℕ → Slot
slot i h = record { instr = i; height = h }

abbrev pub unary_instr : UnOp → Instr
unary_instr one.Neg = Neg
unary_instr one.Not = Not
unary_instr one.Inv = Inv

-- what stands between the two operands; h operands are on the stack before the first
abbrev pub between : BinOp → ℕ → List Slot
between two.And h = slot Not (h + 1) ∷ []
between _ h = []

-- one instruction, and then its opposite
abbrev pub negated : Instr → ℕ → List Slot
negated i h = slot i (h + 2) ∷ slot Not (h + 1) ∷ []

-- what stands behind both operands; h operands are on the stack before the first
abbrev pub joined : BinOp → ℕ → List Slot
joined two.Or h = slot Or (h + 2) ∷ slot Not (h + 1) ∷ slot Not (h + 1) ∷ []
joined two.And h = slot Not (h + 2) ∷ slot Or (h + 2) ∷ slot Not (h + 1) ∷ []
joined two.BitOr h = slot Or (h + 2) ∷ []
joined two.BitXor h = slot Xor (h + 2) ∷ []
joined two.BitAnd h = slot And (h + 2) ∷ []
joined two.Eq h = slot Eq (h + 2) ∷ []
joined two.Ne h = negated Eq h
joined two.Lt h = slot Lt (h + 2) ∷ []
joined two.Le h = slot Le (h + 2) ∷ []
joined two.Gt h = negated Le h
joined two.Ge h = negated Lt h
joined two.Shl h = slot Shl (h + 2) ∷ []
joined two.Shr h = slot Shr (h + 2) ∷ []
joined two.Add h = slot Add (h + 2) ∷ []
joined two.Sub h = slot Sub (h + 2) ∷ []
joined two.Mul h = slot Mul (h + 2) ∷ []
joined two.Div h = slot Div (h + 2) ∷ []
joined two.Rem h = slot Rem (h + 2) ∷ []

-- how many instructions an expression takes
abbrev pub ex_len : Ex → ℕ
ex_len (Num w) = 1
ex_len (Var a) = 1
ex_len (Elem a n i) = ex_len i + 1
ex_len (Un op e) = ex_len e + 1
ex_len (Bin op l r) = ex_len l + length (between op 0) + ex_len r + length (joined op 0)

-- the code of an expression, with h operands on the stack before it; it leaves one more
abbrev pub ex_code : ℕ → Ex → List Slot
ex_code h (Num w) = slot (Push w) h ∷ []
ex_code h (Var a) = slot (Load a) h ∷ []
ex_code h (Elem a n i) = ex_code h i ++ slot (LoadX a n) (h + 1) ∷ []
ex_code h (Un op e) = ex_code h e ++ slot (unary_instr op) (h + 1) ∷ []
ex_code h (Bin op l r) = ex_code h l ++ (between op h ++ (ex_code (h + 1) r ++ joined op h))

-- arguments, one after another
abbrev pub args_len : List Ex → ℕ
args_len [] = 0
args_len (e ∷ es) = ex_len e + args_len es

abbrev pub args_code : ℕ → List Ex → List Slot
args_code h [] = []
args_code h (e ∷ es) = ex_code h e ++ args_code (h + 1) es

-- the words on the stack go into the parameters, the last one first; h is below them all
abbrev pub stores_code : ℕ → List ℕ → List Slot
stores_code h [] = []
stores_code h (x ∷ xs) = stores_code (h + 1) xs ++ slot (Store x) (h + 1) ∷ []

-- how many instructions a statement, a block and the loops of a sequence take
abbrev mutual
  pub st_len : (ℕ → List ℕ) → St → ℕ
  st_len params (Assign a e) = ex_len e + 1
  st_len params (AssignAt a n i e) = ex_len i + ex_len e + 1
  st_len params (Invoke a g args) = args_len args + length (params g) + 2
  st_len params (When t b) = ex_len t + 1 + bl_len params b
  st_len params (Choice t b d) = ex_len t + 1 + bl_len params b + 1 + bl_len params d
  st_len params (Loop c n t b) = 1 + ex_len t + 2 + bl_len params b + 1
  st_len params (Scoped c n b) = 1 + bl_len params b
  st_len params (Count c n) = 1
  st_len params (Series c n l) = 1 + ls_len params l

  pub bl_len : (ℕ → List ℕ) → Bl → ℕ
  bl_len params Nil = 0
  bl_len params (Then s rest) = st_len params s + bl_len params rest

  pub ls_len : (ℕ → List ℕ) → Ls → ℕ
  ls_len params NoLoop = 0
  ls_len params (OneLoop c n t b rest) = 1 + ex_len t + 3 + bl_len params b + 1 + ls_len params rest

-- The code of a statement, a block and the loops of a sequence from instruction p on. `starts` has the first
-- instruction of each function, and `params` the places of its parameters.
abbrev mutual
  pub st_code : (ℕ → ℕ) → (ℕ → List ℕ) → ℕ → St → List Slot
  st_code starts params p (Assign a e) = ex_code 0 e ++ slot (Store a) 1 ∷ []
  st_code starts params p (AssignAt a n i e) = ex_code 0 i ++ (ex_code 1 e ++ slot (StoreX a n) 2 ∷ [])
  st_code starts params p (Invoke a g args) =
      args_code 0 args ++ (stores_code 0 (params g) ++ slot (Call (starts g)) 0 ∷ slot (Store a) 1 ∷ [])
  st_code starts params p (When t b) =
      let first = p + ex_len t + 1 in
      ex_code 0 t ++ slot (Jz (first + bl_len params b)) 1 ∷ bl_code starts params first b
  st_code starts params p (Choice t b d) =
      let first = p + ex_len t + 1 in
      let other = first + bl_len params b + 1 in
      ex_code 0 t ++ slot (Jz other) 1 ∷ (bl_code starts params first b ++ slot (Jmp (other + bl_len params d)) 0 ∷ bl_code starts params other d)
  st_code starts params p (Loop c n t b) =
      let head = p + 1 in
      let body = head + ex_len t + 2 in
      slot (CZero c) 0
      ∷ (ex_code 0 t ++ slot (Jz (body + bl_len params b + 1)) 1 ∷ slot (CInc c n) 0 ∷ (bl_code starts params body b ++ slot (Jmp head) 0 ∷ []))
  st_code starts params p (Scoped c n b) = slot (CZero c) 0 ∷ bl_code starts params (p + 1) b
  st_code starts params p (Count c n) = slot (CInc c n) 0 ∷ []
  st_code starts params p (Series c n l) = slot (CZero c) 0 ∷ ls_code starts params c n (p + 1) l

  pub bl_code : (ℕ → ℕ) → (ℕ → List ℕ) → ℕ → Bl → List Slot
  bl_code starts params p Nil = []
  bl_code starts params p (Then s rest) = st_code starts params p s ++ bl_code starts params (p + st_len params s) rest

  -- s counts the turns of all loops together, and k is its bound
  pub ls_code : (ℕ → ℕ) → (ℕ → List ℕ) → (s k : ℕ) → ℕ → Ls → List Slot
  ls_code starts params s k p NoLoop = []
  ls_code starts params s k p (OneLoop c n t b rest) =
      let head = p + 1 in
      let body = head + ex_len t + 3 in
      let next = body + bl_len params b + 1 in
      slot (CZero c) 0
      ∷ (ex_code 0 t
      ++ slot (Jz next) 1 ∷ slot (CInc c n) 0 ∷ slot (CInc s k) 0
      ∷ (bl_code starts params body b ++ slot (Jmp head) 0 ∷ ls_code starts params s k next rest))
