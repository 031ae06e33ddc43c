-- Where the code of a tree stands in a list of instructions: from p up to q, over addresses in between that
-- are some numbers. This project's own.
use Rattle.std.specs.Prelude.{◌≡◌, ℕ, ◌+◌, List, [], ◌∷◌, length, Some, slice_get, slice_index}
use Rattle.mc_tree.specs.Tree.{Ex, Num, Var, Elem, Un, Bin, St, Assign, AssignAt, Invoke, When, Choice, Loop, Scoped, Count, Series, Bl, Nil, Then, Ls, NoLoop, OneLoop, Fn, Tree}
use Rattle.mc_tree.specs.Checked.{words_in}
use Rattle.mc_tree.specs.Meaning.{params_at}
use Rattle.word_code.specs.declared.code.Code.{Code}
use Rattle.word_code.specs.declared.code.Instr.TheVariants.{Push, Load, Store, LoadX, StoreX, Jmp, Jz, CZero, CInc, Call, Ret, Halt}
use Rattle.word_code.specs.declared.code.Slot.{Slot}
use Rattle.mc_compile.specs.Translate.{slot, unary_instr, between, joined}
use Rattle.mc_compile.specs.Whole.{shapes_of}

-- the instruction s stands at p, and q is the next place
pub record Has (instrs : List Slot) (p : ℕ) (s : Slot) (q : ℕ) : Type 0 where
  pub here : slice_get instrs p ≡ Some s
  pub next : p + 1 ≡ q

-- these instructions stand from p up to q
abbrev pub HasAll : List Slot → ℕ → List Slot → ℕ → Type 0
HasAll instrs p [] q = p ≡ q
HasAll instrs p (s ∷ ss) q = (p1 : ℕ) × Has instrs p s p1 × HasAll instrs p1 ss q

-- an expression, with h operands on the stack before it
abbrev pub CodedE : List Slot → (h p : ℕ) → Ex → (q : ℕ) → Type 0
CodedE instrs h p (Num w) q = Has instrs p (slot (Push w) h) q
CodedE instrs h p (Var a) q = Has instrs p (slot (Load a) h) q
CodedE instrs h p (Elem a n i) q = (p1 : ℕ) × CodedE instrs h p i p1 × Has instrs p1 (slot (LoadX a n) (h + 1)) q
CodedE instrs h p (Un op e) q = (p1 : ℕ) × CodedE instrs h p e p1 × Has instrs p1 (slot (unary_instr op) (h + 1)) q
CodedE instrs h p (Bin op l r) q =
    (p1 : ℕ) × (p2 : ℕ) × (p3 : ℕ) × CodedE instrs h p l p1 × HasAll instrs p1 (between op h) p2
    × CodedE instrs (h + 1) p2 r p3 × HasAll instrs p3 (joined op h) q

-- arguments, with h operands before the first
abbrev pub CodedA : List Slot → (h p : ℕ) → List Ex → (q : ℕ) → Type 0
CodedA instrs h p [] q = p ≡ q
CodedA instrs h p (e ∷ es) q = (p1 : ℕ) × CodedE instrs h p e p1 × CodedA instrs (h + 1) p1 es q

-- the stores of parameters, the last one first
abbrev pub CodedS : List Slot → (h p : ℕ) → List ℕ → (q : ℕ) → Type 0
CodedS instrs h p [] q = p ≡ q
CodedS instrs h p (x ∷ xs) q = (p1 : ℕ) × CodedS instrs (h + 1) p xs p1 × Has instrs p1 (slot (Store x) (h + 1)) q

-- a statement, a block, and the loops of a sequence whose counter is s and whose bound is k
abbrev mutual
  pub Coded : (starts : ℕ → ℕ) (params : ℕ → List ℕ) → List Slot → (p : ℕ) → St → (q : ℕ) → Type 0
  Coded starts params instrs p (Assign a e) q = (p1 : ℕ) × CodedE instrs 0 p e p1 × Has instrs p1 (slot (Store a) 1) q
  Coded starts params instrs p (AssignAt a n i e) q =
      (p1 : ℕ) × (p2 : ℕ) × CodedE instrs 0 p i p1 × CodedE instrs 1 p1 e p2 × Has instrs p2 (slot (StoreX a n) 2) q
  Coded starts params instrs p (Invoke a g args) q =
      (p1 : ℕ) × (p2 : ℕ) × (p3 : ℕ) × CodedA instrs 0 p args p1 × CodedS instrs 0 p1 (params g) p2
      × Has instrs p2 (slot (Call (starts g)) 0) p3 × Has instrs p3 (slot (Store a) 1) q
  Coded starts params instrs p (When t b) q =
      (p1 : ℕ) × (p2 : ℕ) × CodedE instrs 0 p t p1 × Has instrs p1 (slot (Jz q) 1) p2 × CodedB starts params instrs p2 b q
  Coded starts params instrs p (Choice t b d) q =
      (p1 : ℕ) × (p2 : ℕ) × (p3 : ℕ) × (p4 : ℕ) × CodedE instrs 0 p t p1 × Has instrs p1 (slot (Jz p4) 1) p2
      × CodedB starts params instrs p2 b p3 × Has instrs p3 (slot (Jmp q) 0) p4 × CodedB starts params instrs p4 d q
  Coded starts params instrs p (Loop c n t b) q =
      (head : ℕ) × (p1 : ℕ) × (p2 : ℕ) × (p3 : ℕ) × (p4 : ℕ) × Has instrs p (slot (CZero c) 0) head × CodedE instrs 0 head t p1
      × Has instrs p1 (slot (Jz q) 1) p2 × Has instrs p2 (slot (CInc c n) 0) p3 × CodedB starts params instrs p3 b p4
      × Has instrs p4 (slot (Jmp head) 0) q
  Coded starts params instrs p (Scoped c n b) q = (p1 : ℕ) × Has instrs p (slot (CZero c) 0) p1 × CodedB starts params instrs p1 b q
  Coded starts params instrs p (Count c n) q = Has instrs p (slot (CInc c n) 0) q
  Coded starts params instrs p (Series c n l) q = (p1 : ℕ) × Has instrs p (slot (CZero c) 0) p1 × CodedL starts params instrs c n p1 l q

  pub CodedB : (starts : ℕ → ℕ) (params : ℕ → List ℕ) → List Slot → (p : ℕ) → Bl → (q : ℕ) → Type 0
  CodedB starts params instrs p Nil q = p ≡ q
  CodedB starts params instrs p (Then s rest) q = (p1 : ℕ) × Coded starts params instrs p s p1 × CodedB starts params instrs p1 rest q

  pub CodedL : (starts : ℕ → ℕ) (params : ℕ → List ℕ) → List Slot → (s k p : ℕ) → Ls → (q : ℕ) → Type 0
  CodedL starts params instrs s k p NoLoop q = p ≡ q
  CodedL starts params instrs s k p (OneLoop c n t b rest) q =
      (head : ℕ) × (p1 : ℕ) × (p2 : ℕ) × (p3 : ℕ) × (p4 : ℕ) × (p5 : ℕ) × (q1 : ℕ) × Has instrs p (slot (CZero c) 0) head
      × CodedE instrs 0 head t p1 × Has instrs p1 (slot (Jz q1) 1) p2 × Has instrs p2 (slot (CInc c n) 0) p3
      × Has instrs p3 (slot (CInc s k) 0) p4 × CodedB starts params instrs p4 b p5 × Has instrs p5 (slot (Jmp head) 0) q1
      × CodedL starts params instrs s k q1 rest q

-- a function's statements, its answer and RET
abbrev pub CodedF : (starts : ℕ → ℕ) (params : ℕ → List ℕ) → List Slot → (p : ℕ) → Fn → (q : ℕ) → Type 0
CodedF starts params instrs p f q =
    (p1 : ℕ) × (p2 : ℕ) × CodedB starts params instrs p f.body p1 × CodedE instrs 0 p1 f.answer p2 × Has instrs p2 (slot Ret 1) q

-- functions one after another, and where each begins
abbrev pub CodedFs : (starts : ℕ → ℕ) (params : ℕ → List ℕ) → List Slot → (p : ℕ) → List Fn → (firsts : List ℕ) (q : ℕ) → Type 0
CodedFs starts params instrs p [] firsts q = (firsts ≡ []) × (p ≡ q)
CodedFs starts params instrs p (f ∷ fs) firsts q =
    (rest : List ℕ) × (p1 : ℕ) × (firsts ≡ p ∷ rest) × CodedF starts params instrs p f p1 × CodedFs starts params instrs p1 fs rest q

-- the code of a task: its body from instruction 0 on, HALT, and its functions up to the end
pub record CodedTask (t : Tree) (code : Code) : Type 0 where
  pub halt : ℕ
  pub functions : ℕ
  pub firsts : List ℕ
  pub starts : code.starts ≡ 0 ∷ firsts
  pub body : CodedB (slice_index firsts) (params_at t.funcs) code.instrs 0 t.body halt
  pub stop : Has code.instrs halt (slot Halt 0) functions
  pub rest : CodedFs (slice_index firsts) (params_at t.funcs) code.instrs functions t.funcs firsts (length code.instrs)
  pub places : code.places ≡ words_in t.cells
  pub counters : code.counters ≡ t.counters
  pub cells : code.cells ≡ shapes_of t.cells
