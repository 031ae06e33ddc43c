-- The sizes are the lengths.
use Rattle.std.proofs.Common.{◌≡◌, ℕ, ◌+◌, List, [], ◌∷◌, length, refl, arith, length-append}
use Rattle.mars_base.specs.declared.word.BinOp.{BinOp}
use Rattle.mars_base.specs.declared.word.BinOp.TheVariants.{Or, And, BitOr, BitXor, BitAnd, Eq, Ne, Lt, Le, Gt, Ge, Shl, Shr, Add, Sub, Mul, Div, Rem}
use Rattle.mc_tree.specs.Tree.{Ex, Num, Var, Elem, Un, Bin, St, Assign, AssignAt, Invoke, When, Choice, Loop, Scoped, Count, Series, Bl, Nil, Then, Ls, NoLoop, OneLoop, Fn, Tree}
use Rattle.mc_tree.specs.Meaning.{params_at}
use Rattle.std.specs.Prelude.{slice_index}
use Rattle.mc_compile.specs.Translate.{between, joined, ex_len, ex_code, args_len, args_code, stores_code, st_len, bl_len, ls_len, st_code, bl_code, ls_code}
use Rattle.mc_compile.specs.Whole.{fn_len, fn_code, fns_len, fns_code, main_len, code_len, starts_of, translate}

-- the height changes no length
pub between_length : (op : BinOp) (h : ℕ) → length (between op h) ≡ length (between op 0)
between_length And h = refl
between_length _ h = refl

-- nor for what stands behind both operands
pub joined_length : (op : BinOp) (h : ℕ) → length (joined op h) ≡ length (joined op 0)
joined_length Or h = refl
joined_length And h = refl
joined_length BitOr h = refl
joined_length BitXor h = refl
joined_length BitAnd h = refl
joined_length Eq h = refl
joined_length Ne h = refl
joined_length Lt h = refl
joined_length Le h = refl
joined_length Gt h = refl
joined_length Ge h = refl
joined_length Shl h = refl
joined_length Shr h = refl
joined_length Add h = refl
joined_length Sub h = refl
joined_length Mul h = refl
joined_length Div h = refl
joined_length Rem h = refl

-- an expression
pub ex_length : (h : ℕ) (e : Ex) → length (ex_code h e) ≡ ex_len e
ex_length h (Num w) = refl
ex_length h (Var a) = refl
ex_length h (Elem a n i) = simp length-append (omega (arith, ex_length h i))
ex_length h (Un op e) = simp length-append (omega (arith, ex_length h e))
ex_length h (Bin op l r) =
    simp length-append (omega (arith, ex_length h l, between_length op h, ex_length (h + 1) r, joined_length op h))

-- arguments
pub args_length : (h : ℕ) (es : List Ex) → length (args_code h es) ≡ args_len es
args_length h [] = refl
args_length h (e ∷ es) = simp length-append (omega (arith, ex_length h e, args_length (h + 1) es))

-- one store for each parameter
pub stores_length : (h : ℕ) (xs : List ℕ) → length (stores_code h xs) ≡ length xs
stores_length h [] = refl
stores_length h (x ∷ xs) = simp length-append (omega (arith, stores_length (h + 1) xs))

module _ (starts : ℕ → ℕ) (params : ℕ → List ℕ) where
  mutual
    -- a statement
    pub st_length : (p : ℕ) (s : St) → length (st_code starts params p s) ≡ st_len params s
    st_length p (Assign a e) = simp length-append (omega (arith, ex_length 0 e))
    st_length p (AssignAt a n i e) = simp length-append (omega (arith, ex_length 0 i, ex_length 1 e))
    st_length p (Invoke a g args) = simp length-append (omega (arith, args_length 0 args, stores_length 0 (params g)))
    st_length p (When t b) = simp length-append (omega (arith, ex_length 0 t, bl_length (p + ex_len t + 1) b))
    st_length p (Choice t b d) =
        let first = p + ex_len t + 1 in
        simp length-append (omega (arith, ex_length 0 t, bl_length first b, bl_length (first + bl_len params b + 1) d))
    st_length p (Loop c n t b) = simp length-append (omega (arith, ex_length 0 t, bl_length (p + 1 + ex_len t + 2) b))
    st_length p (Scoped c n b) = omega (arith, bl_length (p + 1) b)
    st_length p (Count c n) = refl
    st_length p (Series c n l) = omega (arith, ls_length c n (p + 1) l)

    -- a block
    pub bl_length : (p : ℕ) (b : Bl) → length (bl_code starts params p b) ≡ bl_len params b
    bl_length p Nil = refl
    bl_length p (Then s rest) = simp length-append (omega (arith, st_length p s, bl_length (p + st_len params s) rest))

    -- the loops of a sequence
    pub ls_length : (s k p : ℕ) (l : Ls) → length (ls_code starts params s k p l) ≡ ls_len params l
    ls_length s k p NoLoop = refl
    ls_length s k p (OneLoop c n t b rest) =
        let body = p + 1 + ex_len t + 3 in
        simp length-append (omega (arith, ex_length 0 t, bl_length body b, ls_length s k (body + bl_len params b + 1) rest))

  -- a function
  pub fn_length : (p : ℕ) (f : Fn) → length (fn_code starts params p f) ≡ fn_len params f
  fn_length p f = simp length-append (omega (arith, bl_length p f.body, ex_length 0 f.answer))

  -- the functions
  pub fns_length : (p : ℕ) (fs : List Fn) → length (fns_code starts params p fs) ≡ fns_len params fs
  fns_length p [] = refl
  fns_length p (f ∷ fs) =
      let rest = p + fn_len params f in
      omega (arith, length-append (fn_code starts params p f) (fns_code starts params rest fs), fn_length p f, fns_length rest fs)

-- the whole task
pub code_length : (t : Tree) → length (translate t).instrs ≡ code_len t
code_length t =
    let params = params_at t.funcs in
    let starts = slice_index (starts_of t) in
    simp length-append (omega (arith, bl_length starts params 0 t.body, fns_length starts params (main_len t) t.funcs))
