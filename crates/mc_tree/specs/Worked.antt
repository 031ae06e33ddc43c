-- Tasks that are worked by hand, each with its text.
-- This project's own.
use Rattle.std.specs.Prelude.{ℕ, pos, List, [], ◌∷◌, codes}
use Rattle.mars_base.specs.declared.word.Role.{Role}
use Rattle.mars_base.specs.declared.word.Role.TheVariants.{In, Out, State, Local}
use Rattle.mars_base.specs.declared.word.BinOp.TheVariants.{And, Lt, Gt, Add, Sub, Mul, Div, Rem}
use Rattle.mc_tree.specs.declared.tree.Cell.{Cell}
use Rattle.mc_tree.specs.Tree.{Ex, Num, Var, Elem, Bin, St, Assign, AssignAt, Invoke, When, Choice, Loop, Scoped, Count, Series, Bl, Nil, Then, NoLoop, OneLoop, Tree}

abbrev pub cell : Role → List ℕ → (place width : ℕ) → Cell
cell role name place width = record { role = role; name = name; place = place; width = width }

-- a number of the text
abbrev pub num : ℕ → Ex
num n = Num (pos n)

abbrev pub only : St → Bl
only s = Then s Nil

-- a task without functions
abbrev pub plain : List ℕ → List Cell → Bl → ℕ → Tree
plain name cells body counters = record { name = name; cells = cells; funcs = []; body = body; counters = counters }

-- task inc; in a; out y; body { y = a + 1; }
abbrev pub inc : Tree
inc = plain (codes "inc") (cell In (codes "a") 0 1 ∷ cell Out (codes "y") 1 1 ∷ []) (only (Assign 1 (Bin Add (Var 0) (num 1)))) 0

-- task count; in n; out y; body { y = 0; while max 3 (y < n) { y = y + 1; } }
abbrev pub count : Tree
count = plain (codes "count") (cell In (codes "n") 0 1 ∷ cell Out (codes "y") 1 1 ∷ [])
    (Then (Assign 1 (num 0)) (only (Loop 0 3 (Bin Lt (Var 1) (Var 0)) (only (Assign 1 (Bin Add (Var 1) (num 1))))))) 1

-- task deep; in x; out y; body { var j; scope M max 1000 { while max 60000 (x) { while max 30 (j) {
-- if (x) { mark M; y = x / 3; } } } } }
abbrev pub deep : Tree
deep = plain (codes "deep") (cell In (codes "x") 0 1 ∷ cell Out (codes "y") 1 1 ∷ cell Local (codes "j") 2 1 ∷ [])
    (only (Scoped 0 1000 (only (Loop 1 60000 (Var 0) (only (Loop 2 30 (Var 2)
    (only (When (Var 0) (Then (Count 0 1000) (only (Assign 1 (Bin Div (Var 0) (num 3))))))))))))) 3

-- task nopath; in x; out y; body { scope M max 0 { mark M; } }
abbrev pub nopath : Tree
nopath = plain (codes "nopath") (cell In (codes "x") 0 1 ∷ cell Out (codes "y") 1 1 ∷ []) (only (Scoped 0 0 (only (Count 0 0)))) 1

-- task trap; in x; out y; body { scope M max 0 { if (x) { y = 1 / x; mark M; } } y = x; }
abbrev pub trap : Tree
trap = plain (codes "trap") (cell In (codes "x") 0 1 ∷ cell Out (codes "y") 1 1 ∷ [])
    (Then (Scoped 0 0 (only (When (Var 0) (Then (Assign 1 (Bin Div (num 1) (Var 0))) (only (Count 0 0)))))) (only (Assign 1 (Var 0)))) 1

-- task seq; in x; out y; body { sequence max 12 { while max 10 (x) { y = y + 1; } while max 10 (x) { y = y / 3; } } }
abbrev pub seq : Tree
seq = plain (codes "seq") (cell In (codes "x") 0 1 ∷ cell Out (codes "y") 1 1 ∷ [])
    (only (Series 0 12 (OneLoop 1 10 (Var 0) (only (Assign 1 (Bin Add (Var 1) (num 1))))
    (OneLoop 2 10 (Var 0) (only (Assign 1 (Bin Div (Var 1) (num 3)))) NoLoop)))) 3

-- task both; out y; body { y = 1 / 0 && 0; }
abbrev pub both_sides : Tree
both_sides = plain (codes "both") (cell Out (codes "y") 0 1 ∷ []) (only (Assign 0 (Bin And (Bin Div (num 1) (num 0)) (num 0)))) 0

-- task inv; in a; out y; body { y = 10 / a; }
abbrev pub inv : Tree
inv = plain (codes "inv") (cell In (codes "a") 0 1 ∷ cell Out (codes "y") 1 1 ∷ []) (only (Assign 1 (Bin Div (num 10) (Var 0)))) 0

-- task sense; in x; out y; state ring[4]; state k; body { var i; var sum; ring[k] = x; k = (k + 1) % 4;
-- while max 4 (i < 4) { sum = sum + ring[i]; i = i + 1; } y = sum / 4; }
abbrev pub sense : Tree
sense = plain (codes "sense")
    (cell In (codes "x") 0 1 ∷ cell Out (codes "y") 1 1 ∷ cell State (codes "ring") 2 4 ∷ cell State (codes "k") 6 1 ∷ cell Local (codes "i") 7 1 ∷ cell Local (codes "sum") 8 1 ∷ [])
    (Then (AssignAt 2 4 (Var 6) (Var 0))
    (Then (Assign 6 (Bin Rem (Bin Add (Var 6) (num 1)) (num 4)))
    (Then (Loop 0 4 (Bin Lt (Var 7) (num 4)) (Then (Assign 8 (Bin Add (Var 8) (Elem 2 4 (Var 7)))) (only (Assign 7 (Bin Add (Var 7) (num 1))))))
    (only (Assign 1 (Bin Div (Var 8) (num 4))))))) 1

-- task ctl; in m; out u; state acc; body { acc = acc + m - 50;
-- if (acc > 100) { acc = 100; } else { if (acc < 0) { acc = 0; } } u = (acc + 3 * m) / 8; }
abbrev pub ctl : Tree
ctl = plain (codes "ctl") (cell In (codes "m") 0 1 ∷ cell Out (codes "u") 1 1 ∷ cell State (codes "acc") 2 1 ∷ [])
    (Then (Assign 2 (Bin Sub (Bin Add (Var 2) (Var 0)) (num 50)))
    (Then (Choice (Bin Gt (Var 2) (num 100)) (only (Assign 2 (num 100))) (only (When (Bin Lt (Var 2) (num 0)) (only (Assign 2 (num 0))))))
    (only (Assign 1 (Bin Div (Bin Add (Var 2) (Bin Mul (num 3) (Var 0))) (num 8)))))) 0

-- task act; in u; out p; body { p = u; if (u < 0) { p = 0; } }
abbrev pub act : Tree
act = plain (codes "act") (cell In (codes "u") 0 1 ∷ cell Out (codes "p") 1 1 ∷ [])
    (Then (Assign 1 (Var 0)) (only (When (Bin Lt (Var 0) (num 0)) (only (Assign 1 (num 0)))))) 0

-- task again; in x; out y; body { var i; while max 3 (i < x) { scope M max 1 { mark M; y = y + 1; } i = i + 1; } }
abbrev pub again : Tree
again = plain (codes "again") (cell In (codes "x") 0 1 ∷ cell Out (codes "y") 1 1 ∷ cell Local (codes "i") 2 1 ∷ [])
    (only (Loop 0 3 (Bin Lt (Var 2) (Var 0)) (Then (Scoped 1 1 (Then (Count 1 1) (only (Assign 1 (Bin Add (Var 1) (num 1))))))
    (only (Assign 2 (Bin Add (Var 2) (num 1))))))) 2

-- task twice; in x; out y; func f(a) { var n; n = n + a; return n; } body { y = f(x); y = f(x); }
abbrev pub twice : Tree
twice = record {
  name = codes "twice";
  cells = cell In (codes "x") 0 1 ∷ cell Out (codes "y") 1 1 ∷ cell Local (codes "a") 2 1 ∷ cell Local (codes "n") 3 1 ∷ [];
  funcs = record { params = 2 ∷ []; body = only (Assign 3 (Bin Add (Var 3) (Var 2))); answer = Var 3 } ∷ [];
  body = Then (Invoke 1 0 (Var 0 ∷ [])) (only (Invoke 1 0 (Var 0 ∷ [])));
  counters = 0;
}

-- task pick; in i; out y; state a[2]; body { y = a[i]; }
abbrev pub pick : Tree
pick = plain (codes "pick") (cell In (codes "i") 0 1 ∷ cell Out (codes "y") 1 1 ∷ cell State (codes "a") 2 2 ∷ []) (only (Assign 1 (Elem 2 2 (Var 0)))) 0
