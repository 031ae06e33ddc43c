-- Worked tasks: their code, instruction by instruction, and what it does.
use Rattle.std.proofs.Common.{◌≡◌, ℕ, zero, suc, ◌+◌, ◌*◌, List, [], ◌∷◌, refl}
use Rattle.std.specs.Prelude.{pos, negsuc}
use Rattle.mars_base.specs.declared.word.Role.{Role}
use Rattle.mars_base.specs.declared.word.Role.TheVariants as role
use Rattle.mars_base.specs.declared.word.BinOp.TheVariants as two
use Rattle.mc_tree.specs.declared.tree.Cell.{Cell}
use Rattle.mc_tree.specs.Tree.{Ex, Num, Var, Elem, Bin, St, Assign, AssignAt, Invoke, When, Choice, Loop, Scoped, Count, Series, Bl, Nil, Then, NoLoop, OneLoop, Fn, Tree}
use Rattle.word_code.specs.Cost.{cost_of}
use Rattle.processor.specs.Ends.{Over, Halted, Broken}
use Rattle.processor.specs.System.{exec_by}
use Rattle.word_code.specs.Execution.{exec}
use Rattle.word_code.specs.declared.code.CellShape.{CellShape}
use Rattle.word_code.specs.declared.code.Instr.TheVariants.{Push, Load, Store, LoadX, StoreX, Add, Sub, Div, Or, Lt, Le, Not, Jmp, Jz, CZero, CInc, Call, Ret, Halt}
use Rattle.mc_compile.specs.Cost.{ex_cost}
use Rattle.mc_compile.specs.Translate.{slot}
use Rattle.mc_compile.specs.Whole.{translate, code_len}

abbrev word_cell : Role → ℕ → Cell
word_cell r p = record { role = r; name = []; place = p; width = 1 }

abbrev shape : Role → CellShape
shape r = record { role = r; width = 1 }

-- an in cell at 0 and an out cell at 1, and then local cells
abbrev task : List Cell → List Fn → ℕ → Bl → Tree
task cells funcs counters body =
    record { name = []; cells = word_cell role.In 0 ∷ word_cell role.Out 1 ∷ cells; funcs = funcs; body = body; counters = counters }

-- in n; out y; body { y = 0; while max 3 (y < n) { y = y + 1; } }
abbrev count_task : Tree
count_task =
    task [] [] 1
    (Then (Assign 1 (Num (pos 0)))
    (Then (Loop 0 3 (Bin two.Lt (Var 1) (Var 0)) (Then (Assign 1 (Bin two.Add (Var 1) (Num (pos 1)))) Nil)) Nil))

count_instrs : (translate count_task).instrs
    ≡ slot (Push (pos 0)) 0 ∷ slot (Store 1) 1 ∷ slot (CZero 0) 0 ∷ slot (Load 1) 0 ∷ slot (Load 0) 1 ∷ slot Lt 2 ∷ slot (Jz 13) 1
    ∷ slot (CInc 0 3) 0 ∷ slot (Load 1) 0 ∷ slot (Push (pos 1)) 1 ∷ slot Add 2 ∷ slot (Store 1) 1 ∷ slot (Jmp 3) 0 ∷ slot Halt 0 ∷ []
count_instrs = refl

count_rest : (translate count_task).starts ≡ 0 ∷ []
count_rest = refl

count_cells : (translate count_task).cells ≡ shape role.In ∷ shape role.Out ∷ []
count_cells = refl

-- 3 for y = 0, CZERO, four tests of 7, three turns of 9 and HALT
count_cycles : exec (translate count_task) 100 [] (pos 3 ∷ []) ≡ Over (Halted ([], (pos 3 ∷ []))) (3 + 1 + 4 * 7 + 3 * 9 + 1)
unfolding exec_by
count_cycles = refl

-- a test with its jump, and a turn with its count and its jump
count_test_cost : ex_cost (Bin two.Lt (Var 1) (Var 0)) + cost_of (Jz 13) ≡ 7
count_test_cost = refl

count_turn_cost : cost_of (CInc 0 3) + (ex_cost (Bin two.Add (Var 1) (Num (pos 1))) + cost_of (Store 1)) + cost_of (Jmp 3) ≡ 9
count_turn_cost = refl

-- a fourth turn is above the bound
count_breaks : exec (translate count_task) 100 [] (pos 4 ∷ []) ≡ Over Broken 61
unfolding exec_by
count_breaks = refl

-- in a; out y; body { y = a + 1; }
abbrev inc_task : Tree
inc_task = task [] [] 0 (Then (Assign 1 (Bin two.Add (Var 0) (Num (pos 1)))) Nil)

inc_instrs : (translate inc_task).instrs
    ≡ slot (Load 0) 0 ∷ slot (Push (pos 1)) 1 ∷ slot Add 2 ∷ slot (Store 1) 1 ∷ slot Halt 0 ∷ []
inc_instrs = refl

inc_cycles : exec (translate inc_task) 7 [] (pos 41 ∷ []) ≡ Over (Halted ([], (pos 42 ∷ []))) 7
unfolding exec_by
inc_cycles = refl

-- in x; out y; func f(a, b) { return a - b; } body { y = f(x, 2); }
abbrev call_task : Tree
call_task =
    task (word_cell role.Local 2 ∷ word_cell role.Local 3 ∷ [])
    (record { params = 2 ∷ 3 ∷ []; body = Nil; answer = Bin two.Sub (Var 2) (Var 3) } ∷ []) 0
    (Then (Invoke 1 0 (Var 0 ∷ Num (pos 2) ∷ [])) Nil)

call_instrs : (translate call_task).instrs
    ≡ slot (Load 0) 0 ∷ slot (Push (pos 2)) 1 ∷ slot (Store 3) 2 ∷ slot (Store 2) 1 ∷ slot (Call 7) 0 ∷ slot (Store 1) 1 ∷ slot Halt 0
    ∷ slot (Load 2) 0 ∷ slot (Load 3) 1 ∷ slot Sub 2 ∷ slot Ret 1 ∷ []
call_instrs = refl

call_starts : (translate call_task).starts ≡ 0 ∷ 7 ∷ []
call_starts = refl

call_places : (translate call_task).places ≡ 4
call_places = refl

call_cells : (translate call_task).cells ≡ shape role.In ∷ shape role.Out ∷ []
call_cells = refl

call_runs : exec (translate call_task) 100 [] (pos 1 ∷ []) ≡ Over (Halted ([], (negsuc 0 ∷ []))) 21
unfolding exec_by
call_runs = refl

-- in x; out y; body { sequence max 12 { while max 10 (x) { y = y + 1; } while max 10 (x) { y = y / 3; } } }
abbrev series_task : Tree
series_task =
    task [] [] 3
    (Then (Series 0 12
    (OneLoop 1 10 (Var 0) (Then (Assign 1 (Bin two.Add (Var 1) (Num (pos 1)))) Nil)
    (OneLoop 2 10 (Var 0) (Then (Assign 1 (Bin two.Div (Var 1) (Num (pos 3)))) Nil) NoLoop))) Nil)

series_instrs : (translate series_task).instrs
    ≡ slot (CZero 0) 0
    ∷ slot (CZero 1) 0 ∷ slot (Load 0) 0 ∷ slot (Jz 11) 1 ∷ slot (CInc 1 10) 0 ∷ slot (CInc 0 12) 0
    ∷ slot (Load 1) 0 ∷ slot (Push (pos 1)) 1 ∷ slot Add 2 ∷ slot (Store 1) 1 ∷ slot (Jmp 2) 0
    ∷ slot (CZero 2) 0 ∷ slot (Load 0) 0 ∷ slot (Jz 21) 1 ∷ slot (CInc 2 10) 0 ∷ slot (CInc 0 12) 0
    ∷ slot (Load 1) 0 ∷ slot (Push (pos 3)) 1 ∷ slot Div 2 ∷ slot (Store 1) 1 ∷ slot (Jmp 12) 0
    ∷ slot Halt 0 ∷ []
series_instrs = refl

series_runs : exec (translate series_task) 422 [] (pos 0 ∷ []) ≡ Over (Halted ([], (pos 0 ∷ []))) 12
unfolding exec_by
series_runs = refl

-- in x; out y; body { if (x > 1) { y = 1; } else { y = 2; } if (x) { y = y; } }
abbrev choice_task : Tree
choice_task =
    task [] [] 0
    (Then (Choice (Bin two.Gt (Var 0) (Num (pos 1))) (Then (Assign 1 (Num (pos 1))) Nil) (Then (Assign 1 (Num (pos 2))) Nil))
    (Then (When (Var 0) (Then (Assign 1 (Var 1)) Nil)) Nil))

choice_instrs : (translate choice_task).instrs
    ≡ slot (Load 0) 0 ∷ slot (Push (pos 1)) 1 ∷ slot Le 2 ∷ slot Not 1 ∷ slot (Jz 8) 1
    ∷ slot (Push (pos 1)) 0 ∷ slot (Store 1) 1 ∷ slot (Jmp 10) 0 ∷ slot (Push (pos 2)) 0 ∷ slot (Store 1) 1
    ∷ slot (Load 0) 0 ∷ slot (Jz 14) 1 ∷ slot (Load 1) 0 ∷ slot (Store 1) 1 ∷ slot Halt 0 ∷ []
choice_instrs = refl

-- in x; out y; body { y = 0 && 1 / x; }: both sides are evaluated
abbrev both_task : Tree
both_task = task [] [] 0 (Then (Assign 1 (Bin two.And (Num (pos 0)) (Bin two.Div (Num (pos 1)) (Var 0)))) Nil)

both_instrs : (translate both_task).instrs
    ≡ slot (Push (pos 0)) 0 ∷ slot Not 1 ∷ slot (Push (pos 1)) 1 ∷ slot (Load 0) 2 ∷ slot Div 3 ∷ slot Not 2 ∷ slot Or 2 ∷ slot Not 1
    ∷ slot (Store 1) 1 ∷ slot Halt 0 ∷ []
both_instrs = refl

both_breaks : exec (translate both_task) 100 [] (pos 0 ∷ []) ≡ Over Broken 17
unfolding exec_by
both_breaks = refl

-- in x; out y; body { var i; while max 3 (i < x) { scope M max 1 { mark M; y = y + 1; } i = i + 1; } }
abbrev again_task : Tree
again_task =
    task (word_cell role.Local 2 ∷ []) [] 2
    (Then (Loop 0 3 (Bin two.Lt (Var 2) (Var 0))
    (Then (Scoped 1 1 (Then (Count 1 1) (Then (Assign 1 (Bin two.Add (Var 1) (Num (pos 1)))) Nil)))
    (Then (Assign 2 (Bin two.Add (Var 2) (Num (pos 1)))) Nil))) Nil)

again_runs : exec (translate again_task) 84 [] (pos 3 ∷ []) ≡ Over (Halted ([], (pos 3 ∷ []))) 84
unfolding exec_by
again_runs = refl

-- out y; state ring[4]; body { ring[y] = 5; y = ring[0]; }, the out cell at 0
abbrev array_task : Tree
array_task = record {
  name = [];
  cells = word_cell role.Out 0 ∷ record { role = role.State; name = []; place = 1; width = 4 } ∷ [];
  funcs = [];
  body = Then (AssignAt 1 4 (Var 0) (Num (pos 5))) (Then (Assign 0 (Elem 1 4 (Num (pos 0)))) Nil);
  counters = 0;
}

array_instrs : (translate array_task).instrs
    ≡ slot (Load 0) 0 ∷ slot (Push (pos 5)) 1 ∷ slot (StoreX 1 4) 2 ∷ slot (Push (pos 0)) 0 ∷ slot (LoadX 1 4) 1 ∷ slot (Store 0) 1
    ∷ slot Halt 0 ∷ []
array_instrs = refl

-- 86 times y = x > x > .. > x with 255 operators
abbrev chain : ℕ → Ex
chain zero = Var 0
chain (suc n) = Bin two.Gt (chain n) (Var 0)

abbrev times : ℕ → St → Bl
times zero s = Nil
times (suc n) s = Then s (times n s)

long_len : code_len (task [] [] 0 (times 86 (Assign 1 (chain 255)))) ≡ 65963
long_len = refl
